-- The machine: to what its pending work leads, and the number that falls with each step.
use Rattle.std.specs.Prelude.{◌≡◌, ◌+◌, ◌-◌, ◌<◌, ℕ, List, map, Option, Some, None, IsSome, Result, Ok, Err}
use Rattle.abc_tree.specs.declared.commands.Unit.{Unit as Routine}
use Rattle.abc_frames.specs.Maps.{Targets}
use Rattle.abc_outside.specs.Lines.{Unread}
use Rattle.abc_meaning.specs.State.{State, Got, stops, wrong, wants}
use Rattle.abc_meaning.specs.Here.{Scope}
use Rattle.abc_state.specs.Views.{scope_of}
use Rattle.abc_pending.specs.Pending.{Answer, Frame}
use Rattle.abc_pending.specs.Leads.{leads}
use Rattle.abc_pending.specs.Steps.{state_with}
use Rattle.abc_pending.specs.Views.{frame_of}
use Rattle.abc_pending.specs.Weights.{number_of}
use Rattle.abc_pending.specs.declared.pending.Doing.{Doing}
use Rattle.abc_machine.specs.Outcomes.{EndsSo, TellsNoMemory}
use Rattle.abc_machine.specs.Pending.{given, given_weight, frames_weight, AreWithin}
use Rattle.abc_machine.specs.declared.machine.Machine.{Machine}
use Rattle.abc_machine.specs.declared.outcome.Stepped.{Stepped}
use Rattle.abc_machine.specs.declared.outcome.Stepped.TheVariants.{More, End}
use Rattle.abc_machine.specs.declared.outcome.RunStop.{RunStop}
use Rattle.abc_machine.specs.declared.outcome.RunStop.TheVariants.{Input, Long, Memory}

-- the state of the run, where it may use so many steps
abbrev pub state_within : Machine → Targets → Unread → ℕ → State
state_within m targets unread budget = record (state_with m.run targets unread) { left = budget - m.steps }

abbrev pub waiting : Machine → List Frame
waiting m = map frame_of m.frames

abbrev pub pending_from : List Routine → Scope → Option Doing → List Frame → State → Got Answer
pending_from units scope None fs s = stops 0 wrong s
pending_from units scope (Some d) fs s = leads units scope fs (given units scope d s)

-- what the pending work leads to
abbrev pub pending : List Routine → Machine → State → Got Answer
pending units m s = pending_from units (scope_of m.scope) m.doing (waiting m) s

abbrev pub weight_from : Option Doing → List Frame → ℕ
weight_from None fs = 0
weight_from (Some d) fs = given_weight d + frames_weight fs

-- the number that falls, where so many steps are left as the run holds
abbrev pub number_at : List Routine → Machine → ℕ
number_at units m = number_of units (weight_from m.doing (waiting m)) m.run.left

-- and where it may use so many
abbrev pub number : List Routine → Machine → ℕ → ℕ
number units m budget = number_of units (weight_from m.doing (waiting m)) (budget - m.steps)

-- work is pending
abbrev pub IsBusy : Machine → Type 0
IsBusy m = IsSome m.doing

-- the work is that of a command or of these units
abbrev pub IsOf : List Routine → Machine → Type 0
IsOf units m = AreWithin units (scope_of m.scope) (waiting m)

-- the meaning wants a line that isn't there yet
abbrev pub WantsOne : Got Answer → Type 0
WantsOne g = (line : ℕ) × (s : State) × (g ≡ stops line wants s)

-- Work is pending, and it leads to the same; or the run has ended so. Want of memory, and a fault of the input, say nothing of it.
abbrev pub Steps : List Routine → Result Stepped RunStop → Machine → State → Got Answer → Type 0
Steps units (Ok More) m s g = IsBusy m × (g ≡ pending units m s)
Steps units (Ok (End o)) m s g = EndsSo o s g
Steps units (Err Long) m s g = WantsOne g
Steps units (Err Input) m s g = Unit {0}
Steps units (Err Memory) m s g = Unit {0}

-- where there is more
abbrev pub IfMore : Result Stepped RunStop → Type 0 → Type 0
IfMore (Ok More) t = t
IfMore (Ok (End o)) t = Unit {0}
IfMore (Err e) t = Unit {0}

-- an end tells of no want of memory
abbrev pub EndsWell : Result Stepped RunStop → Type 0
EndsWell (Ok More) = Unit {0}
EndsWell (Ok (End o)) = TellsNoMemory o
EndsWell (Err e) = Unit {0}
