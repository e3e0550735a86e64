-- How far a move of the machine got.
use Rattle.std.specs.Prelude.{◌≡◌, ◌+◌, ◌<◌, ℕ, List, Result, Ok, Err}
use Rattle.abc_tree.specs.declared.commands.Unit.{Unit as Routine}
use Rattle.abc_meaning.specs.State.{State, Got}
use Rattle.abc_meaning.specs.Here.{Scope}
use Rattle.abc_pending.specs.Pending.{Answer, Frame}
use Rattle.abc_pending.specs.Leads.{leads}
use Rattle.abc_pending.specs.Weights.{number_of}
use Rattle.abc_machine.specs.Outcomes.{EndsSo, TellsNoMemory}
use Rattle.abc_machine.specs.Machine.{WantsOne}
use Rattle.abc_machine.specs.Pending.{given, given_weight, frames_weight, AreWithin}
use Rattle.abc_machine.specs.declared.moves.Moved.{Moved}
use Rattle.abc_machine.specs.declared.moves.Moved.TheVariants.{Goes, Ends}
use Rattle.abc_machine.specs.declared.outcome.RunStop.{RunStop}
use Rattle.abc_machine.specs.declared.outcome.RunStop.TheVariants.{Input, Long, Memory}

-- the pending work leads to the same after a move
abbrev pub Follows : List Routine → Scope → Result Moved RunStop → List Frame → State → Got Answer → Type 0
Follows units scope (Ok (Goes d)) fs s g = g ≡ leads units scope fs (given units scope d s)
Follows units scope (Ok (Ends o)) fs s g = EndsSo o s g
Follows units scope (Err Long) fs s g = WantsOne g
Follows units scope (Err Input) fs s g = Unit {0}
Follows units scope (Err Memory) fs s g = Unit {0}

-- where the machine goes on
abbrev pub IfGoes : Result Moved RunStop → Type 0 → Type 0
IfGoes (Ok (Goes d)) t = t
IfGoes (Ok (Ends o)) t = Unit {0}
IfGoes (Err e) t = Unit {0}

-- what is pending then weighs so much
abbrev pub Weighs : Result Moved RunStop → List Frame → ℕ → Type 0
Weighs (Ok (Goes d)) fs w = given_weight d + frames_weight fs ≡ w
Weighs (Ok (Ends o)) fs w = Unit {0}
Weighs (Err e) fs w = Unit {0}

-- the number is less then
abbrev pub Lessens : List Routine → Result Moved RunStop → List Frame → ℕ → ℕ → ℕ → Type 0
Lessens units (Ok (Goes d)) fs left old left_old = number_of units (given_weight d + frames_weight fs) left < number_of units old left_old
Lessens units (Ok (Ends o)) fs left old left_old = Unit {0}
Lessens units (Err e) fs left old left_old = Unit {0}

-- an end tells of no want of memory
abbrev pub EndsWell : Result Moved RunStop → Type 0
EndsWell (Ok (Goes d)) = Unit {0}
EndsWell (Ok (Ends o)) = TellsNoMemory o
EndsWell (Err e) = Unit {0}
