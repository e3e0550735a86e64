-- Where work wants a line.
use Rattle.std.proofs.Common.{◌≡◌, true, List, ap, ◌∙◌}
use Rattle.abc_tree.specs.declared.commands.Action.{Action}
use Rattle.abc_tree.specs.declared.commands.Unit.{Unit as Routine}
use Rattle.abc_frames.specs.Maps.{Targets}
use Rattle.abc_outside.specs.Lines.{none_yet}
use Rattle.abc_meaning.specs.Here.{Scope}
use Rattle.abc_meaning.specs.Laws.{wants_line}
use Rattle.abc_meaning.specs.Meaning.{meaning}
use Rattle.abc_state.specs.Views.{at}
use Rattle.abc_state.specs.declared.run.Run.{Run}
use Rattle.abc_pending.specs.declared.place.Place.{Place}
use Rattle.abc_pending.specs.Pending.{Job, perform}
use Rattle.abc_pending.specs.Leads.{as_flow, first_of, now}
use Rattle.abc_pending.specs.Steps.{state_with}

pub job_wants : (units : List Routine) (scope : Scope) (p : Place) (run : Run) (targets : Targets) (job : Job) (body : List Action) → job ≡ perform body
    → ((units : List Routine) (targets : Targets) → wants_line (as_flow (first_of units (meaning units p.levels) (at scope p.line) body (state_with run targets none_yet))) ≡ true)
    → wants_line (now units scope p job (state_with run targets none_yet)) ≡ true
job_wants units scope p run targets job body is wants = ap (λ j. wants_line (now units scope p j (state_with run targets none_yet))) is ∙ wants units targets
