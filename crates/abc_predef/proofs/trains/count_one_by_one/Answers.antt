use Rattle.std.proofs.Common.{◌≡◌, ℕ, Bool, arith, ap, ◌∙◌, cond, ◌==◌}
use Rattle.std.specs.List.{count_by}
use Rattle.std.specs.Ordering.{is_eq, ordering_index}
use Rattle.abc_value.specs.Order.{order}
use Rattle.abc_value.specs.Items.{elements_of}
use Rattle.std.proofs.lemmas.List.{take_all}
use Rattle.abc_predef.specs.inner.Places.{element_at}
use Rattle.abc_value.proofs.trees.Itemised.{elements_count}
use Rattle.abc_predef.proofs.Halves.{count_more, index_of_equal, byte_is}
use Rattle.abc_predef.proofs.trains.count_one_by_one.Goals as goal

pub order_at-requires-clause-within : goal.order_at-requires-clause-within
order_at-requires-clause-within c = omega (arith, c.loop-i-test.true, c.len-i-end.ensures.length, elements_count c.args.t.now c.requires.train)

pub loop-i-preserved : goal.loop-i-preserved
loop-i-preserved c =
    count_more c.args.e.now c.args.t.now c.loop-i.i c.loop-i.count c.from-count.result
    (omega (arith, c.loop-i-test.true, c.len-i-end.ensures.length, elements_count c.args.t.now c.requires.train)) c.loop-i.invariant
    (let test : c.eq.result ≡ is_eq (order (element_at c.args.t.now c.loop-i.i) c.args.e.now) =
    c.eq.ensures ∙ ap (λ o. ordering_index o == 1) c.order_at.ensures ∙ index_of_equal (order (element_at c.args.t.now c.loop-i.i) c.args.e.now) in
    c.from-count.ensures ∙ byte_is c.eq.result ∙ ap (λ (b : Bool). cond {A = ℕ} b 1 0) test)

pub returns : goal.returns
returns c =
    c.loop-i.invariant.0 ∙ ap (count_by (λ x. is_eq (order x c.args.e.now)))
    (take_all c.loop-i.i (elements_of c.args.t.now) (omega (arith, c.loop-i-test.false, c.len-i-end.ensures.length, elements_count c.args.t.now c.requires.train)))
