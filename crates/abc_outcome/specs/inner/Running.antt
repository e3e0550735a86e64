-- What the run of a command leaves, before anything is kept.
use Rattle.std.specs.Prelude.{◌≡◌, ◌⊎◌, ◌≤◌, ℕ, ◌+◌, Bool, true, false, List, ◌++◌, length, take, IfOk, IsErrOf, Result}
use Rattle.abc_num.specs.Lines.{raw_lines}
use Rattle.abc_num.specs.declared.lines.RawLine.{RawLine}
use Rattle.abc_outside.specs.Outside.{Outside, RoseByOne}
use Rattle.abc_meaning.specs.Ran.{Ran}
use Rattle.abc_eval.specs.Runs.{WantsLine, outcome_of}
use Rattle.abc_reader.specs.Asking.{Asked}
use Rattle.abc_reader.specs.Reading.{Reading, MayFollow, ReadLines, ReadsOn, StandsAt}
use Rattle.abc_outcome.specs.declared.answering.AnswerFault.{AnswerFault}
use Rattle.abc_outcome.specs.declared.answering.AnswerFault.TheVariants.{Input, Long, StoreFault}
use Rattle.abc_outcome.specs.declared.commands.Left.{Left}
use Rattle.abc_outcome.specs.Outcome.{Behind}

-- a run with this end, these targets and this output, which left these lines
pub record IsLeft (left : Left) (lines : List RawLine) (run : Ran) : Type 0 where
  pub end : run.outcome ≡ outcome_of left.end
  pub targets : run.targets ≡ left.targets
  pub output : run.output ≡ left.output.items
  pub lines_are : run.lines ≡ lines

-- The run took these lines: whatever may follow them, it comes to the same, and leaves what follows.
pub record RanTo (run : Behind → Ran) (reading : Reading) (left : List ℕ) (reading_new : Reading) (left_new : List ℕ) (found : Left) : Type 0 where
  pub lines : List RawLine
  pub were_read : ReadLines reading left reading_new left_new lines
  pub comes : (ends : Bool) (rest : List RawLine) → MayFollow reading_new left_new ends rest
      → IsLeft found (reading_new.ahead ++ rest) (run (record { lines = (reading.ahead ++ lines) ++ rest; ends = ends }))

-- with these bytes more taken the run still wants a line
abbrev pub RunWants : (Behind → Ran) → Reading → List ℕ → ℕ → Type 0
RunWants run r left taken_now =
    (more : ℕ) × (taken_now ≡ r.taken + more) × (more ≤ length left) × WantsLine (run (record { lines = r.ahead ++ raw_lines false (r.pending ++ take more left); ends = false }))

abbrev pub RunAsks : (Behind → Ran) → Reading → List ℕ → ℕ → ℕ × ℕ → Type 0
RunAsks run r left spoken ask = RunWants run r left ask.0 × (ask.1 ≡ spoken)

-- A run over what stands behind a command, from one reader and host to others.
pub record Runs {H : Type 0} (tells_input tells_said : Type 0) (now : H → Outside) (clock : H → ℕ) (stopped : H → ℕ → List ℕ → List ℕ → Type 0)
    (reading reading_new : Reading) (old new : H) (result : Result Left AnswerFault) (run : Behind → Ran) : Type 0 where
  pub ran : tells_input → IfOk result (RanTo run reading (now old).left reading_new (now new).left)
  pub not_store : IsErrOf result StoreFault → ⊥
  pub input : IsErrOf result Input → RoseByOne (now old).input_faults (now new).input_faults
  pub other_input : (IsErrOf result Input → ⊥) → (now new).input_faults ≡ (now old).input_faults
  pub long : IsErrOf result Long → reading_new.taken ≡ reading_new.bound
  pub waits : tells_input → (IsErrOf result Input ⊎ IsErrOf result Long) → RunWants run reading (now old).left reading_new.taken
  pub ended_ends : reading.ended ≡ true → (IsErrOf result Input ⊎ IsErrOf result Long) → ⊥
  pub on : ReadsOn tells_input tells_said now clock stopped reading reading_new old new
  pub no_fewer : reading.used ≤ reading_new.used
  pub stands : StandsAt tells_input reading_new (now new)
  pub asked : tells_said → tells_input → Asked (RunAsks run reading (now old).left (length (now old).said)) (now old).asked (now new).asked
