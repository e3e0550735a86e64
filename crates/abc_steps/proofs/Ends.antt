-- How it goes on behind the suite of a refinement.
use Rattle.std.proofs.Common.{◌≡◌, ℕ, List, Result, subst}
use Rattle.abc_tree.specs.declared.commands.Unit.{Unit as Routine}
use Rattle.abc_frames.specs.Maps.{Targets, Frame as Names}
use Rattle.abc_meaning.specs.State.{State, Flow}
use Rattle.abc_meaning.specs.Here.{Scope}
use Rattle.abc_meaning.specs.Meaning.{meaning}
use Rattle.abc_state.specs.Views.{at}
use Rattle.abc_state.specs.declared.halt.Halt.{Halt}
use Rattle.abc_pending.specs.declared.place.Wanted.{Wanted}
use Rattle.abc_pending.specs.declared.pending.Next.{Next}
use Rattle.abc_pending.specs.Pending.{refinement_end}
use Rattle.abc_pending.specs.Leads.{left_with, refound, resume_flow}
use Rattle.abc_pending.specs.Views.{Begins}

pub refinement_ends : (us : List Routine) (outer : Scope) (line levels : ℕ) (wanted : Wanted) (targets : Targets) (names : Names) (r : Result Next Halt) (flow : Flow) (before back : State)
    → back ≡ refound targets names before → Begins us outer line r back (left_with (at outer line) wanted flow back)
    → Begins us outer line r back (resume_flow us (meaning us levels) (at outer line) (refinement_end wanted targets names) flow before)
refinement_ends us outer line levels wanted targets names r flow before back e h = subst (λ t. Begins us outer line r back (left_with (at outer line) wanted flow t)) e h
