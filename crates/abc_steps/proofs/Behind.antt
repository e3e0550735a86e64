-- What waits for work that leads to the same goes on alike.
use Rattle.std.proofs.Common.{◌≡◌, List, ap}
use Rattle.abc_tree.specs.declared.commands.Unit.{Unit as Routine}
use Rattle.abc_meaning.specs.State.{State, after}
use Rattle.abc_meaning.specs.Here.{Scope}
use Rattle.abc_pending.specs.Leads.{below, now, resume}
use Rattle.abc_pending.specs.Views.{begin_of, frame_of, job_of}
use Rattle.abc_pending.specs.declared.pending.Next.TheVariants.{Wait}
use Rattle.abc_pending.specs.declared.pending.Waiting.{Waiting}
use Rattle.abc_pending.specs.declared.pending.Work.{Work}

pub same_behind : (units : List Routine) (scope : Scope) (frame : Waiting) (work other : Work) (s : State) → now units scope work.0 (job_of work.1) s ≡ now units scope other.0 (job_of other.1) s
    → begin_of units scope (Wait frame work) s ≡ begin_of units scope (Wait frame other) s
same_behind units scope frame work other s e = ap (λ g. after g (resume units (below scope (frame_of frame)) (frame_of frame))) e
