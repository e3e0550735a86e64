-- The work of an immediate command of which nothing is done yet.
use Rattle.std.proofs.Common.{◌≡◌, ◌-◌, ℕ, Bool, List, [], map, refl, ap, ◌∙◌, arith}
use Rattle.abc_num.specs.declared.lines.RawLine.{RawLine}
use Rattle.abc_tree.specs.declared.commands.Action.{out-Action}
use Rattle.abc_tree.specs.declared.commands.Command.{Command}
use Rattle.abc_tree.specs.declared.commands.Unit.{Unit as Routine}
use Rattle.abc_frames.specs.Maps.{Targets}
use Rattle.abc_outside.specs.Lines.{Unread, lines_in}
use Rattle.abc_meaning.specs.State.{State}
use Rattle.abc_meaning.specs.Here.{Scope, in_command}
use Rattle.abc_meaning.specs.Meaning.{meaning}
use Rattle.abc_meaning.specs.Ran.{standing, starting}
use Rattle.abc_state.specs.Views.{at, state_of}
use Rattle.abc_state.specs.declared.run.Run.{Run}
use Rattle.abc_pending.specs.Leads.{as_flow, leads}
use Rattle.abc_pending.specs.Steps.{state_with}
use Rattle.abc_pending.specs.Views.{frame_of}
use Rattle.abc_pending.specs.declared.pending.Waiting.{Waiting}
use Rattle.abc_machine.proofs.Moving.{leads_none}

pub started : (units : List Routine) (scope : Scope) (c : Command) (fs : List Waiting) (levels : ℕ) (s : State) → scope ≡ in_command c → fs ≡ []
    → leads units scope (map frame_of fs) (as_flow ((meaning units levels).acts (at scope (out-Action c.action).line) c.action s)) ≡ as_flow ((meaning units levels).acts (standing c) c.action s)
started units scope c fs levels s e h =
    let line = (out-Action c.action).line in
    let g = as_flow ((meaning units levels).acts (at scope line) c.action s) in
    ap (λ fs. leads units scope (map frame_of fs) g) h ∙ leads_none units scope g ∙ ap (λ o. as_flow ((meaning units levels).acts (at o line) c.action s)) e

none_taken : (budget : ℕ) → budget - 0 ≡ budget
none_taken budget = omega arith

-- so many steps are left
abbrev pub with_left : ℕ → State → State
with_left k s = record s { left = k }

pub started_state : (run : Run) (targets : Targets) (unread : Unread) (budget : ℕ) → ((lines : List RawLine) (ended : Bool) → state_of run targets lines ended ≡ starting targets lines ended 0)
    → with_left (budget - 0) (state_with run targets unread) ≡ starting targets (lines_in unread) unread.ends budget
started_state run targets unread budget h =
    ap (with_left (budget - 0)) (h (lines_in unread) unread.ends) ∙ ap (starting targets (lines_in unread) unread.ends) (none_taken budget)
