-- How a run of the code ends, and how the meaning has it.
use Rattle.std.specs.Prelude.{◌≡◌, ◌≢◌}
use Rattle.abc_value.specs.declared.faults.RunFault.TheVariants.{Memory}
use Rattle.abc_meaning.specs.State.{faulty, wrong, State, Got, gives, stops, quits}
use Rattle.abc_meaning.specs.Ran.{Outcome as Meant, done, quit, stopped, outcome_of as outcome_of_flow}
use Rattle.abc_pending.specs.Pending.{Answer, flow}
use Rattle.abc_machine.specs.declared.outcome.Outcome.{Outcome}
use Rattle.abc_machine.specs.declared.outcome.Outcome.TheVariants.{Done, Quit, Fault, Wrong}

-- the outcome as the meaning has it
abbrev pub outcome_of : Outcome → Meant
outcome_of Done = done
outcome_of Quit = quit
outcome_of (Fault line fault) = stopped line (faulty fault)
outcome_of (Wrong line) = stopped line wrong

-- no outcome tells of want of memory
abbrev pub TellsNoMemory : Outcome → Type 0
TellsNoMemory (Fault line fault) = fault ≢ Memory
TellsNoMemory o = Unit {0}

-- how a run ends that comes to this answer
abbrev pub outcome_at : Answer → Meant
outcome_at (flow f) = outcome_of_flow f
outcome_at a = done

-- how a run ends, and in which state
pub record End : Type 0 where
  pub outcome : Meant
  pub state : State

abbrev pub end_of : Got Answer → End
end_of (gives a s) = record { outcome = outcome_at a; state = s }
end_of (stops line stop s) = record { outcome = stopped line stop; state = s }

-- the run ends so
abbrev pub EndsSo : Outcome → State → Got Answer → Type 0
EndsSo o s g = end_of g ≡ record { outcome = outcome_of o; state = s }
