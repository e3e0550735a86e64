use Rattle.std.proofs.Common.{arith, sym, ◌∙◌}
use Rattle.abc_value.specs.Forms.{forms}
use Rattle.abc_value.specs.inner.Kept.{same_forms}
use Rattle.abc_value.proofs.forms.ShapeSteps.{shape_below}
use Rattle.abc_value.proofs.forms.SameForms.{same_uneven, same_stop, same_turn, same_done}
use Rattle.abc_value.proofs.+same.Goals as goal

pub common::are_same-returns-then-a-b : goal.common::are_same-returns-then-a-b
common::are_same-returns-then-a-b t c = same_uneven c.args.a.now c.args.b.now c.if-a-b.true

pub common::are_same-is-requires : goal.common::are_same-is-requires
common::are_same-is-requires t c =
    let below = shape_below c.args.a.now c.loop-i.i c.index-a-i.result (omega arith) c.index-a-i.is in
    (omega arith, tt)

pub common::are_same-returns-then-not-is : goal.common::are_same-returns-then-not-is
common::are_same-returns-then-not-is t c =
    same_stop (same_forms (forms c.args.a.now) (forms c.args.b.now)) c.args.a.now c.args.b.now c.loop-i.i c.index-a-i.result c.index-b-i.result c.loop-i.invariant (omega arith) c.if-a-b.false c.index-a-i.is c.index-b-i.is (sym c.is.ensures ∙ c.if-not-is.true)

pub common::are_same-loop-i-preserved : goal.common::are_same-loop-i-preserved
common::are_same-loop-i-preserved t c =
    same_turn (same_forms (forms c.args.a.now) (forms c.args.b.now)) c.args.a.now c.args.b.now c.loop-i.i c.index-a-i.result c.index-b-i.result c.loop-i.invariant (omega arith) c.if-a-b.false c.index-a-i.is c.index-b-i.is (sym c.is.ensures ∙ c.if-not-is.false)

pub common::are_same-returns : goal.common::are_same-returns
common::are_same-returns t c = same_done (same_forms (forms c.args.a.now) (forms c.args.b.now)) c.args.a.now c.args.b.now c.loop-i.i c.loop-i.invariant (omega arith) c.if-a-b.false
