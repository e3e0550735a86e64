use Rattle.std.proofs.Common.{◌∙◌, sym}
use Rattle.std.proofs.lemmas.Result.{on_ok_weaker}
use Rattle.abc_check.proofs.Holding.{asked_more, never_more, never_has}
use Rattle.abc_check.proofs.values.hold_value.Goals as goal

pub returns-in-Some-clause-ok : goal.returns-in-Some-clause-ok
returns-in-Some-clause-ok c =
    on_ok_weaker c.hold_shape.result
    (λ held values w asked.
    asked_more c.args.name.now c.args.value.now values w c.in-Some.shape c.args.graph.now c.hold_shape.new.graph c.args.vars.now c.hold_shape.new.vars (sym c.in-Some.is ∙ c.in_ok-shape.ensures) held asked)
    c.hold_shape.ensures.ok

pub returns-in-Some-clause-made : goal.returns-in-Some-clause-made
returns-in-Some-clause-made c = on_ok_weaker c.hold_shape.result (λ held. held.made) c.hold_shape.ensures.ok

pub returns-in-Some-clause-clash : goal.returns-in-Some-clause-clash
returns-in-Some-clause-clash c = λ e values w asked types are.
    never_more c.args.name.now c.args.value.now values w c.in-Some.shape c.args.graph.now c.args.vars.now (sym c.in-Some.is ∙ c.in_ok-shape.ensures) (c.hold_shape.ensures.clash e) asked types are

pub returns-in-None-clause-clash : goal.returns-in-None-clause-clash
returns-in-None-clause-clash c = λ e values w asked types are. never_has c.args.name.now c.args.value.now values w (sym c.in-None.is ∙ c.in_ok-shape.ensures) types are
