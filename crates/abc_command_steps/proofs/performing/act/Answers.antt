-- Answers for act.
use Rattle.std.proofs.Common.{ap, ◌∙◌, ◌≡◌, [], true}
use Rattle.abc_tree.specs.declared.commands.ActionNode.{out-ActionNode}
use Rattle.abc_tree.specs.declared.commands.ActionNode.TheOpen.{ActionNode-F}
use Rattle.abc_meaning.specs.Meaning.{meaning}
use Rattle.abc_state.specs.Views.{at as standing_at}
use Rattle.abc_state.specs.Views.{scope_of, state_of}
use Rattle.abc_command_steps.proofs.Asking.{calls_as, node_wants}
use Rattle.abc_command_steps.proofs.Reading.{node_starts, read_example_out, read_raw_out}
use Rattle.abc_command_steps.proofs.performing.act.Goals as goal

-- READ begins with the lines that are there
pub returns-in-ReadExample-clause-leads : goal.returns-in-ReadExample-clause-leads
returns-in-ReadExample-clause-leads g c units input may =
    let e : out-ActionNode c.args.node.now ≡ ActionNode-F.ReadExample c.in-ReadExample.address c.in-ReadExample.example = ap out-ActionNode c.in-ReadExample.is ∙ read_example_out _ _ in
    node_starts units (scope_of c.args.scope.now) _ _ _ (meaning units c.args.place.levels) (standing_at (scope_of c.args.scope.now) c.args.place.line) _ _ e (c.read_example.ensures.leads units (scope_of c.args.scope.now) (state_of c.args.run.now c.args.targets.now [] true) input may)

pub returns-in-ReadRaw-clause-leads : goal.returns-in-ReadRaw-clause-leads
returns-in-ReadRaw-clause-leads g c units input may =
    let e : out-ActionNode c.args.node.now ≡ ActionNode-F.ReadRaw c.in-ReadRaw.address = ap out-ActionNode c.in-ReadRaw.is ∙ read_raw_out _ in
    node_starts units (scope_of c.args.scope.now) _ _ _ (meaning units c.args.place.levels) (standing_at (scope_of c.args.scope.now) c.args.place.line) _ _ e (c.read_raw.ensures.leads units (scope_of c.args.scope.now) (state_of c.args.run.now c.args.targets.now [] true) input may)

-- and it calls as they do
pub returns-in-ReadExample-clause-calls : goal.returns-in-ReadExample-clause-calls
returns-in-ReadExample-clause-calls g c =
    let e : out-ActionNode c.args.node.now ≡ ActionNode-F.ReadExample c.in-ReadExample.address c.in-ReadExample.example = ap out-ActionNode c.in-ReadExample.is ∙ read_example_out _ _ in
    calls_as _ _ _ _ _ (node_wants c.args.place.levels c.args.place.line c.args.run.now _ _ e) c.read_example.ensures.calls

pub returns-in-ReadRaw-clause-calls : goal.returns-in-ReadRaw-clause-calls
returns-in-ReadRaw-clause-calls g c =
    let e : out-ActionNode c.args.node.now ≡ ActionNode-F.ReadRaw c.in-ReadRaw.address = ap out-ActionNode c.in-ReadRaw.is ∙ read_raw_out _ in
    calls_as _ _ _ _ _ (node_wants c.args.place.levels c.args.place.line c.args.run.now _ _ e) c.read_raw.ensures.calls
