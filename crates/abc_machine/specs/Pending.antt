-- What a machine is at, what waits, and how much both weigh.
use Rattle.std.specs.Prelude.{◌+◌, ℕ, List, [], ◌∷◌}
use Rattle.abc_tree.specs.declared.commands.Unit.{Unit as Routine}
use Rattle.abc_meaning.specs.State.{State, Got, gives}
use Rattle.abc_meaning.specs.Here.{Scope}
use Rattle.abc_meaning.specs.Meaning.{meaning}
use Rattle.abc_state.specs.Views.{at}
use Rattle.abc_pending.specs.Pending.{Answer, Frame}
use Rattle.abc_pending.specs.Leads.{as_flow, below, now}
use Rattle.abc_pending.specs.Views.{reply_of, job_of}
use Rattle.abc_pending.specs.Weights.{IsWithin, action_size, frame_weight, job_weight}
use Rattle.abc_pending.specs.declared.pending.Doing.{Doing}
use Rattle.abc_pending.specs.declared.pending.Doing.TheVariants.{Item, Work, Answered}

-- what is given now, in this scope, to what waits last
abbrev pub given : List Routine → Scope → Doing → State → Got Answer
given units scope (Item p a) s = as_flow ((meaning units p.levels).acts (at scope p.line) a.now s)
given units scope (Work w) s = now units scope w.0 (job_of w.1) s
given units scope (Answered r) s = gives (reply_of r) s

abbrev pub given_weight : Doing → ℕ
given_weight (Item p a) = action_size a.now
given_weight (Work w) = job_weight (job_of w.1)
given_weight (Answered r) = 0

-- the weight of all that waits
abbrev pub frames_weight : List Frame → ℕ
frames_weight [] = 0
frames_weight (f ∷ fs) = frame_weight f + frames_weight fs

-- this scope is among these units, and so are those of all callers
abbrev pub AreWithin : List Routine → Scope → List Frame → Type 0
AreWithin units scope [] = IsWithin units scope
AreWithin units scope (f ∷ fs) = IsWithin units scope × AreWithin units (below scope f) fs
