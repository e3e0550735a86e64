use Rattle.std.proofs.Common.{◌<◌, length, arith, sym, subst, take, List}
use Rattle.std.specs.List.{filter}
use Rattle.std.specs.Option.{option_map}
use Rattle.abc_value.specs.Tree.{Tree}
use Rattle.abc_value.specs.Items.{elements_of}
use Rattle.std.proofs.lemmas.List.{take_all}
use Rattle.abc_predef.specs.inner.Places.{IsPlaceOfBest, is_wanted}
use Rattle.abc_value.proofs.trees.Itemised.{elements_count}
use Rattle.abc_predef.proofs.Bests.{wanted_more}
use Rattle.abc_predef.proofs.extremes.best_one_by_one.Goals as goal

pub next_best-best-requires-clause-within : goal.next_best-best-requires-clause-within
next_best-best-requires-clause-within c = omega (arith, c.loop-i-test.true, c.len-i-end.ensures.length, elements_count c.args.t.now c.requires.train)

pub loop-i-preserved : goal.loop-i-preserved
loop-i-preserved c =
    let f = is_wanted c.args.end (option_map (λ e. e.now) c.args.e) in
    let inside : c.loop-i.i < length (elements_of c.args.t.now) = omega (arith, c.loop-i-test.true, c.len-i-end.ensures.length, elements_count c.args.t.now c.requires.train) in
    let P : List Tree → Type 0 = λ xs. IsPlaceOfBest c.args.end c.args.t.now xs c.next_best-best.result in
    subst P (sym (wanted_more f c.args.t.now c.loop-i.i inside)) (c.next_best-best.ensures (filter f (take c.loop-i.i (elements_of c.args.t.now))) c.loop-i.invariant)

pub returns : goal.returns
returns c =
    let f = is_wanted c.args.end (option_map (λ e. e.now) c.args.e) in
    let P : List Tree → Type 0 = λ xs. IsPlaceOfBest c.args.end c.args.t.now (filter f xs) c.loop-i.best in
    subst P (take_all c.loop-i.i (elements_of c.args.t.now) (omega (arith, c.loop-i-test.false, c.len-i-end.ensures.length, elements_count c.args.t.now c.requires.train))) c.loop-i.invariant
