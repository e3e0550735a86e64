use Rattle.std.proofs.Common.{arith, sym, ◌∙◌}
use Rattle.abc_value.specs.Forms.{forms, join, join_each}
use Rattle.abc_value.proofs.forms.ShapeSteps.{shape_below, join_each_uneven, join_each_turn, join_each_stop, join_each_done}
use Rattle.abc_value.proofs.+join.Goals as goal

pub joining::join_fields-returns-then-a-b : goal.joining::join_fields-returns-then-a-b
joining::join_fields-returns-then-a-b t c = sym (join_each_uneven c.args.a.now c.args.b.now c.if-a-b.true)

pub joining::join_fields-join-requires : goal.joining::join_fields-join-requires
joining::join_fields-join-requires t c =
    let below = shape_below c.args.a.now c.loop-i.i c.index-a-i.result (omega arith) c.index-a-i.is in
    (omega arith, tt)

pub joining::join_fields-returns-in_default : goal.joining::join_fields-returns-in_default
joining::join_fields-returns-in_default t c =
    join_each_stop (join_each (forms c.args.a.now) (forms c.args.b.now)) c.args.a.now c.args.b.now c.loop-i.fields.items c.loop-i.i c.index-a-i.result c.index-b-i.result c.loop-i.invariant (omega arith) c.if-a-b.false
    (sym c.in_default.is ∙ c.in_ok-field.ensures ∙ (λ k. join (c.index-a-i.is k) (c.index-b-i.is k)))

pub joining::join_fields-loop-i-preserved : goal.joining::join_fields-loop-i-preserved
joining::join_fields-loop-i-preserved t c =
    rw c.in_ok-push.ensures.items (join_each_turn (join_each (forms c.args.a.now) (forms c.args.b.now)) c.args.a.now c.args.b.now c.loop-i.fields.items c.loop-i.i c.index-a-i.result c.index-b-i.result c.in-Some.field c.loop-i.invariant (omega arith) c.if-a-b.false
    (sym c.in-Some.is ∙ c.in_ok-field.ensures ∙ (λ k. join (c.index-a-i.is k) (c.index-b-i.is k))))

pub joining::join_fields-returns : goal.joining::join_fields-returns
joining::join_fields-returns t c = join_each_done (join_each (forms c.args.a.now) (forms c.args.b.now)) c.args.a.now c.args.b.now c.loop-i.fields.items c.loop-i.i c.loop-i.invariant (omega arith) c.if-a-b.false
