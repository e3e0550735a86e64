use Rattle.std.proofs.Common.{◌≡◌, ◌<◌, length, arith, ap, sym, ◌∙◌, ◌==◌}
use Rattle.std.specs.List.{list_any}
use Rattle.std.specs.Ordering.{is_eq, ordering_index}
use Rattle.std.proofs.lemmas.List.{take_all}
use Rattle.abc_value.specs.Order.{order}
use Rattle.abc_value.specs.Items.{elements_of}
use Rattle.abc_value.proofs.trees.Itemised.{elements_count}
use Rattle.abc_predef.specs.inner.Places.{element_at}
use Rattle.abc_predef.proofs.Halves.{one_at, index_of_equal}
use Rattle.abc_predef.proofs.trains.is_among.Goals as goal

pub order_at-requires-clause-within : goal.order_at-requires-clause-within
order_at-requires-clause-within c = omega (arith, c.loop-i-test.true, c.len-i-end.ensures.length, elements_count c.args.t.now c.requires.train)

pub returns-then-eq : goal.returns-then-eq
returns-then-eq c =
    let xs = elements_of c.args.t.now in
    let inside : c.loop-i.i < length xs = omega (arith, c.loop-i-test.true, c.len-i-end.ensures.length, elements_count c.args.t.now c.requires.train) in
    let test : c.eq.result ≡ is_eq (order (element_at c.args.t.now c.loop-i.i) c.args.e.now) =
    c.eq.ensures ∙ ap (λ o. ordering_index o == 1) c.order_at.ensures ∙ index_of_equal (order (element_at c.args.t.now c.loop-i.i) c.args.e.now) in
    sym (one_at (λ x. is_eq (order x c.args.e.now)) xs c.loop-i.i c.args.t.now inside (sym test ∙ c.if-eq.true))

pub returns : goal.returns
returns c =
    sym c.loop-i.invariant ∙ ap (list_any (λ x. is_eq (order x c.args.e.now)))
    (take_all c.loop-i.i (elements_of c.args.t.now) (omega (arith, c.loop-i-test.false, c.len-i-end.ensures.length, elements_count c.args.t.now c.requires.train)))
