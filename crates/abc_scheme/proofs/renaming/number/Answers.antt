use Rattle.std.proofs.Common.{◌≡◌, ◌∙◌, ◌<◌, length, ap, sym, refl, get_or, arith}
use Rattle.std.specs.Prelude.{Some, slice_get}
use Rattle.std.proofs.lemmas.List.{length-set}
use Rattle.abc_unify.specs.declared.forms.Known.{Known}
use Rattle.abc_scheme.specs.inner.Places.{numbers}
use Rattle.abc_scheme.proofs.Placing.{placed_next, number_at}
use Rattle.abc_scheme.proofs.renaming.number.Goals as goal

pub loop-i-preserved : goal.loop-i-preserved
loop-i-preserved c =
    let all = c.args.all.now in
    let e = c.index-all-i.result in
    let number : e.at.0 ≡ c.index.result = ap (λ (f : Known). f.at.0) c.index-all-i.is ∙ sym c.index.ensures in
    let stands : slice_get (numbers all) c.loop-i.i ≡ Some c.index.result = number_at all c.loop-i.i e c.loop-i-test.true c.index-all-i.is ∙ ap Some number in
    let here : (get_or all c.loop-i.i e).at.0 < length c.args.table.now = c.requires.inside c.loop-i.i e c.loop-i-test.true in
    let inside : c.index.result < length c.loop-i.table = omega (arith, here, c.index.ensures, c.loop-i.invariant.count) in
    record { placed = placed_next (numbers all) c.loop-i.i c.loop-i.table c.index.result (record { 0 = c.loop-i.i }) stands inside refl c.loop-i.invariant.placed; count = rw length-set c.loop-i.invariant.count }
