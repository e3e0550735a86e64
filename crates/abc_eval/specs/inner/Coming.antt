-- What a run came to before its targets are put back, and which are put back.
use Rattle.std.specs.Prelude.{◌≡◌, ◌-◌, ℕ, Result, Ok, Err}
use Rattle.abc_frames.specs.Maps.{Targets}
use Rattle.abc_outside.specs.Lines.{Unread, lines_in}
use Rattle.abc_meaning.specs.State.{State, Flow, Got}
use Rattle.abc_pending.specs.Leads.{as_flow}
use Rattle.abc_pending.specs.Pending.{Answer}
use Rattle.abc_machine.specs.Outcomes.{EndsSo, end_of}
use Rattle.abc_machine.specs.Machine.{WantsOne}
use Rattle.abc_machine.specs.declared.outcome.Outcome.{Outcome as End}
use Rattle.abc_machine.specs.declared.outcome.Outcome.TheVariants as machine
use Rattle.abc_machine.specs.declared.outcome.RunStop.{RunStop}
use Rattle.abc_machine.specs.declared.outcome.RunStop.TheVariants.{Input, Long, Memory}
use Rattle.abc_eval.specs.Runs.{outcome_of}
use Rattle.abc_eval.specs.declared.outcome.Outcome.{Outcome}
use Rattle.abc_eval.specs.declared.outcome.Outcome.TheVariants.{Done, Quit, Fault}
use Rattle.abc_eval.specs.declared.running.Ran.{Ran}

-- the end of a machine that is told so
abbrev pub end_as : Outcome → End
end_as Done = machine.Done
end_as Quit = machine.Quit
end_as (Fault line fault) = machine.Fault line fault

-- the run ends with these targets, this output, these lines left and so many steps
pub record IsEnd (r : Ran) (targets : Targets) (unread : Unread) (budget : ℕ) (g : Got Flow) : Type 0 where
  pub end : State
  pub ends : end_of (as_flow g) ≡ record { outcome = outcome_of r.outcome; state = end }
  pub targets_are : end.targets ≡ targets
  pub output_is : end.output ≡ r.output
  pub lines_are : end.lines ≡ lines_in unread
  pub steps_are : budget - end.left ≡ r.steps

abbrev pub Comes : Result Ran RunStop → Targets → Unread → ℕ → Got Flow → Type 0
Comes (Ok r) targets unread budget g = IsEnd r targets unread budget g
Comes (Err Long) targets unread budget g = WantsOne (as_flow g)
Comes (Err Input) targets unread budget g = Unit {0}
Comes (Err Memory) targets unread budget g = Unit {0}

-- how the steps of a machine end
abbrev pub Ends : Result End RunStop → State → Got Answer → Type 0
Ends (Ok o) s g = EndsSo o s g
Ends (Err Long) s g = WantsOne g
Ends (Err Input) s g = Unit {0}
Ends (Err Memory) s g = Unit {0}

-- the targets from before, unless the run came to its end
abbrev pub targets_after_outcome : Outcome → Targets → Targets → Targets
targets_after_outcome Done before now = now
targets_after_outcome Quit before now = now
targets_after_outcome o before now = before

abbrev pub targets_after : Result Ran RunStop → Targets → Targets → Targets
targets_after (Ok r) before now = targets_after_outcome r.outcome before now
targets_after (Err stop) before now = before

-- For each input that may still be the reader's, what is pending now, over what is unread of it, leads to what the run from its start
-- leads to, over all of it.
abbrev pub LeadsOn : {L Input : Type 0} → (Input → L → Type 0) → (Input → Got Answer) → (Input → Got Answer) → L → Type 0
LeadsOn may_be now from_start there = (input : _) → may_be input there → now input ≡ from_start input
