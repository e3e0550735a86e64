-- What running an immediate command comes to.
use Rattle.std.specs.Prelude.{ℕ, suc, Bool, List, [], ◌-◌}
use Rattle.abc_tree.specs.declared.commands.Action.{out-Action}
use Rattle.abc_tree.specs.declared.commands.Command.{Command}
use Rattle.abc_tree.specs.declared.commands.Unit.{Unit as Routine}
use Rattle.abc_frames.specs.Maps.{Targets}
use Rattle.abc_num.specs.declared.lines.RawLine.{RawLine}
use Rattle.abc_meaning.specs.State.{State, Stop, Got, gives, stops, Flow, quits}
use Rattle.abc_meaning.specs.Here.{Here, in_command}
use Rattle.abc_meaning.specs.Meaning.{meaning}

-- the command ran, or it ran and the session ends; or it stopped on a line
pub data Outcome : Type 0 where
  done : Outcome
  quit : Outcome
  stopped : ℕ → Stop → Outcome

-- with the targets afterwards, the output, the lines left and the steps used
pub record Ran : Type 0 where
  pub outcome : Outcome
  pub targets : Targets
  pub output : List ℕ
  pub lines : List RawLine
  pub steps : ℕ

-- empty output, no steps, and no names but the targets
abbrev pub starting : Targets → List RawLine → Bool → ℕ → State
starting targets lines ended budget =
    record { targets = targets; names = []; formals = []; lines = lines; ended = ended; output = []; left = budget }

abbrev pub outcome_of : Flow → Outcome
outcome_of quits = quit
outcome_of _ = done

-- after a stop the targets are those from before
abbrev pub ran_as : Targets → ℕ → Got Flow → Ran
ran_as before budget (gives flow s) = record { outcome = outcome_of flow; targets = s.targets; output = s.output; lines = s.lines; steps = budget - s.left }
ran_as before budget (stops line stop s) = record { outcome = stopped line stop; targets = before; output = s.output; lines = s.lines; steps = budget - s.left }

abbrev pub standing : Command → Here
standing c = record { scope = in_command c; line = (out-Action c.action).line }

-- an immediate command at depth 0, where evaluations may be `deepest` deep
abbrev pub ran : List Routine → ℕ → Command → Targets → List RawLine → Bool → ℕ → Ran
ran units deepest c targets lines ended budget =
    ran_as targets budget ((meaning units (suc deepest)).acts (standing c) c.action (starting targets lines ended budget))
