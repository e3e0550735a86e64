-- Answers for act_alone.
use Rattle.std.proofs.Common.{ap, ◌∙◌}
use Rattle.abc_tree.specs.declared.commands.ActionNode.{out-ActionNode}
use Rattle.abc_state.specs.Views.{scope_of, state_of}
use Rattle.abc_pending.specs.declared.place.Changes.TheVariants.{Put, Insert, Remove}
use Rattle.abc_command_steps.proofs.Acting.{change_begins, insert_out, put_out, remove_out}
use Rattle.abc_command_steps.proofs.performing.act_alone.Goals as goal

-- PUT, INSERT and REMOVE begin with their value
pub returns-in-Put-clause-leads : goal.returns-in-Put-clause-leads
returns-in-Put-clause-leads c = λ units lines ended.
    change_begins units (scope_of c.args.scope.now) c.args.place c.change.result _ Put c.in-Put.value c.in-Put.address (state_of c.args.run.now c.args.targets.now lines ended) (state_of c.change.new.run c.change.new.targets lines ended)
    (ap out-ActionNode c.in-Put.is ∙ put_out _ _) (c.change.ensures.leads units lines ended)

pub returns-in-Insert-clause-leads : goal.returns-in-Insert-clause-leads
returns-in-Insert-clause-leads c = λ units lines ended.
    change_begins units (scope_of c.args.scope.now) c.args.place c.change-in-Insert.result _ Insert c.in-Insert.value c.in-Insert.address (state_of c.args.run.now c.args.targets.now lines ended) (state_of c.change-in-Insert.new.run c.change-in-Insert.new.targets lines ended)
    (ap out-ActionNode c.in-Insert.is ∙ insert_out _ _) (c.change-in-Insert.ensures.leads units lines ended)

pub returns-in-Remove-clause-leads : goal.returns-in-Remove-clause-leads
returns-in-Remove-clause-leads c = λ units lines ended.
    change_begins units (scope_of c.args.scope.now) c.args.place c.change-in-Remove.result _ Remove c.in-Remove.value c.in-Remove.address (state_of c.args.run.now c.args.targets.now lines ended) (state_of c.change-in-Remove.new.run c.change-in-Remove.new.targets lines ended)
    (ap out-ActionNode c.in-Remove.is ∙ remove_out _ _) (c.change-in-Remove.ensures.leads units lines ended)
