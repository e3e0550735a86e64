-- Where the command of a suite, and the node of a command, want a line, and the calls that READ makes then.
use Rattle.std.proofs.Common.{◌≡◌, ◌≢◌, ℕ, ◌-◌, true, List, ◌∷◌, ap, ◌∙◌}
use Rattle.abc_tree.specs.declared.commands.Action.{Action, out-Action}
use Rattle.abc_tree.specs.declared.commands.ActionNode.{ActionNode, out-ActionNode}
use Rattle.abc_tree.specs.declared.commands.ActionNode.TheOpen.{ActionNode-F}
use Rattle.abc_tree.specs.declared.commands.Alternative.{Alternative}
use Rattle.abc_tree.specs.declared.commands.Unit.{Unit as Routine}
use Rattle.abc_frames.specs.Maps.{Targets}
use Rattle.abc_outside.specs.Lines.{none_yet, Called, Failed}
use Rattle.abc_outside.proofs.Called.{called_for, failed_for}
use Rattle.abc_meaning.specs.State.{State, gives, after}
use Rattle.abc_meaning.specs.Here.{Here, Scope, at_line, spend}
use Rattle.abc_meaning.specs.Acts.{acts_with}
use Rattle.abc_meaning.specs.Laws.{wants_line}
use Rattle.abc_meaning.specs.Meaning.{meaning}
use Rattle.abc_state.specs.Views.{at}
use Rattle.abc_state.specs.Words.{with_lines}
use Rattle.abc_state.specs.declared.run.Run.{Run}
use Rattle.abc_pending.specs.Leads.{as_flow, first_of}
use Rattle.abc_pending.specs.Steps.{state_with}
use Rattle.abc_command_steps.proofs.Levels.{meaning_acts}

-- a node wants a line, of whichever units, names and targets
abbrev pub NodeWants : ℕ → ℕ → Run → ActionNode-F ActionNode Action Alternative → Type 0
NodeWants levels line run node =
    (units : List Routine) (scope : Scope) (targets : Targets) → wants_line (as_flow (acts_with units (meaning units levels) (at scope line) node (state_with run targets none_yet))) ≡ true

-- and so does one that is another
pub node_wants : (levels line : ℕ) (run : Run) (node other : ActionNode-F ActionNode Action Alternative) → node ≡ other
    → ((units : List Routine) (scope : Scope) (s : State) → wants_line (as_flow (acts_with units (meaning units levels) (at scope line) other (with_lines none_yet s))) ≡ true) → NodeWants levels line run node
node_wants levels line run node other is wants =
    λ units scope targets. ap (λ n. wants_line (as_flow (acts_with units (meaning units levels) (at scope line) n (state_with run targets none_yet)))) is ∙ wants units scope (state_with run targets none_yet)

-- a command wants one where its node does, once it is a step
pub command_wants : (levels line : ℕ) (scope : Scope) (there : ℕ) (before behind : Run) (a : Action) → levels ≢ 0 → at_line (out-Action a).line (at scope line) ≡ at scope there
    → ((targets : Targets) → spend (at scope there) (state_with before targets none_yet) ≡ gives tt (state_with behind targets none_yet)) → NodeWants (levels - 1) there behind (out-ActionNode (out-Action a).node)
    → (units : List Routine) (targets : Targets) → wants_line (as_flow ((meaning units levels).acts (at scope line) a (state_with before targets none_yet))) ≡ true
command_wants levels line scope there before behind a some is spent wants units targets =
    ap (λ g. wants_line (as_flow g)) (
    meaning_acts units levels (at scope line) a (state_with before targets none_yet) some
    ∙ ap (λ here. after (spend here (state_with before targets none_yet)) (λ _. acts_with units (meaning units (levels - 1)) here (out-ActionNode (out-Action a).node))) is
    ∙ ap (λ g. after g (λ _. acts_with units (meaning units (levels - 1)) (at scope there) (out-ActionNode (out-Action a).node))) (spent targets)
    )
    ∙ wants units scope targets

-- a suite wants one where its first command does
pub first_wants : (levels : ℕ) (here : Here) (run : Run) (body others : List Action) (a : Action) → body ≡ a ∷ others
    → ((units : List Routine) (targets : Targets) → wants_line (as_flow ((meaning units levels).acts here a (state_with run targets none_yet))) ≡ true)
    → (units : List Routine) (targets : Targets) → wants_line (as_flow (first_of units (meaning units levels) here body (state_with run targets none_yet))) ≡ true
first_wants levels here run body others a is wants units targets =
    ap (λ b. wants_line (as_flow (first_of units (meaning units levels) here b (state_with run targets none_yet)))) is ∙ wants units targets

-- calls on the first reader, where one run wants a line, are such calls where another does
pub calls_as : {L : Type 0} (leads : List L → L → L → Type 0) (old new : L) (V W : Type 0) → (V → W) → Called leads (λ l. (l ≡ old) × V) old new → Called leads (λ l. (l ≡ old) × W) old new
calls_as leads old new V W goes calls = called_for leads (λ l. (l ≡ old) × V) (λ l. (l ≡ old) × W) old new (λ l asks. (asks.0, goes asks.1)) calls

pub failed_as : {L : Type 0} (leaves : L → L → Type 0) (old new : L) (V W : Type 0) → (V → W) → Failed leaves (λ l. (l ≡ old) × V) new → Failed leaves (λ l. (l ≡ old) × W) new
failed_as leaves old new V W goes failed = failed_for leaves (λ l. (l ≡ old) × V) (λ l. (l ≡ old) × W) new (λ l asks. (asks.0, goes asks.1)) failed
