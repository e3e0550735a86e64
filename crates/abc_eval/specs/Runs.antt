-- What an answer of run_item says of the meaning of a command.
use Rattle.std.specs.Prelude.{◌≡◌, ◌≢◌, ℕ, false, List, [], Result, Ok, Err}
use Rattle.abc_num.specs.declared.lines.RawLine.{RawLine}
use Rattle.abc_frames.specs.Maps.{Targets}
use Rattle.abc_outside.specs.Lines.{Unread, lines_in}
use Rattle.abc_tree.specs.declared.commands.Command.{Command}
use Rattle.abc_tree.specs.declared.commands.Unit.{Unit as Routine}
use Rattle.abc_value.specs.declared.faults.RunFault.TheVariants as fault_of
use Rattle.abc_meaning.specs.State.{faulty, wants}
use Rattle.abc_meaning.specs.Ran.{Ran as Meant, Outcome as Meaning, done, quit, stopped}
use Rattle.abc_ground.specs.Groups.{whole}
use Rattle.abc_ground.specs.Typable.{IsTypableWith}
use Rattle.abc_sound.specs.Checked.{IsSessionItem}
use Rattle.abc_machine.specs.declared.outcome.RunStop.{RunStop}
use Rattle.abc_machine.specs.declared.outcome.RunStop.TheVariants.{Input, Long, Memory}
use Rattle.abc_eval.specs.declared.outcome.Outcome.{Outcome}
use Rattle.abc_eval.specs.declared.outcome.Outcome.TheVariants.{Done, Quit, Fault}
use Rattle.abc_eval.specs.declared.running.Ran.{Ran}

-- The command is accepted over these targets and units: they are as a store holds them, it reaches no missing unit, and types fit all.
abbrev pub IsAccepted : List Routine → Targets → Command → Type 0
IsAccepted units targets c = (n : ℕ) × IsSessionItem units targets c n × IsTypableWith targets (whole units) c n

-- the outcome as the meaning has it, which is never wrong
abbrev pub outcome_of : Outcome → Meaning
outcome_of Done = done
outcome_of Quit = quit
outcome_of (Fault line fault) = stopped line (faulty fault)

-- no outcome tells of want of memory
abbrev pub TellsNoMemory : Outcome → Type 0
TellsNoMemory (Fault line fault) = fault ≢ fault_of.Memory
TellsNoMemory o = Unit {0}

-- a run, with the targets afterwards and the lines left
abbrev pub as_meant : Ran → Targets → List RawLine → Meant
as_meant r targets lines = record { outcome = outcome_of r.outcome; targets = targets; output = r.output; lines = lines; steps = r.steps }

-- the command wants a line that isn't there yet
abbrev pub WantsLine : Meant → Type 0
WantsLine g = (line : ℕ) × (g.outcome ≡ stopped line wants)

-- The run is what the command means, or the command wants a line. Want of memory, and a fault of the input, say nothing of it.
abbrev pub IsRun : Result Ran RunStop → Targets → List RawLine → Meant → Type 0
IsRun (Ok r) targets lines g = g ≡ as_meant r targets lines
IsRun (Err Long) targets lines g = WantsLine g
IsRun (Err Input) targets lines g = Unit {0}
IsRun (Err Memory) targets lines g = Unit {0}

-- The reader is one on which a line is wanted: so the run over each input does that may be there, goes on, and has no line there yet.
abbrev pub WantsThere : {L Input : Type 0} → (Input → L → Type 0) → (Input → L → Unread) → (Input → Type 0) → L → Type 0
WantsThere may_be unread wanted there = (input : _) → may_be input there → lines_in (unread input there) ≡ [] → (unread input there).ends ≡ false → wanted input
