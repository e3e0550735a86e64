-- What a line that is taken does.
use Rattle.std.specs.Prelude.{◌≡◌, ◌≤◌, ℕ, ◌+◌, ◌-◌, true, List, [], ◌∷◌, ◌++◌, length, Option, None, Some, IfSome}
use Rattle.std.specs.List.{AllByRecursion}
use Rattle.abc_num.specs.declared.limits.TheConstants.{MOST_LINE_BYTES}
use Rattle.abc_num.specs.declared.lines.RawLine.{RawLine}
use Rattle.abc_layout.specs.SplitterView.{Open, Holds}
use Rattle.abc_reader.specs.Reading.{Reading, IsRaw, lines_behind, ReadLines}
use Rattle.abc_reader.specs.inner.LineReading.{pending_of, used_of, WantsLine, AsksLine}
use Rattle.abc_reader.specs.declared.line_reader.LineReader.{LineReader}

-- a line, or none
abbrev pub some_line : Option RawLine → List RawLine
some_line None = []
some_line (Some line) = line ∷ []

-- where a reader stands that has looked at this line, or at none
abbrev pub reading_of : Option RawLine → LineReader → Reading
reading_of ahead lines = record { ahead = some_line ahead; pending = pending_of lines; used = used_of lines - length (some_line ahead); taken = lines.taken; bound = lines.bound; ended = lines.ended }

-- it has no more bytes than a line may have
abbrev pub IsShort : RawLine → Type 0
IsShort line = length line.bytes ≤ MOST_LINE_BYTES

-- the bytes of the line that was looked at were used, and it has no more than a line may have
abbrev pub IsAhead : Option RawLine → LineReader → Type 0
IsAhead ahead lines = (length (some_line ahead) ≤ used_of lines) × IfSome ahead IsShort × IfSome ahead IsRaw

-- The next line was taken, if there is one.
pub record TookLine (old : Reading) (left : List ℕ) (new : Reading) (left_new : List ℕ) (found : Option RawLine) : Type 0 where
  pub lines : List RawLine
  pub were_read : ReadLines old left new left_new lines
  pub found_is : old.ahead ++ lines ≡ some_line found
  pub over : found ≡ None → (lines_behind new left_new ≡ []) × (new.ended ≡ true)

-- no line is ahead, and no whole one in hand
abbrev pub WantsBehind : Reading → List ℕ → ℕ → Type 0
WantsBehind r left taken_now = (r.ahead ≡ []) × WantsLine r.pending left r.taken taken_now

abbrev pub AsksBehind : Reading → List ℕ → ℕ → ℕ × ℕ → Type 0
AsksBehind r left spoken ask = (r.ahead ≡ []) × AsksLine r.pending left r.taken spoken ask

-- lines were read, and these of them were fed to a splitter
pub record FedLines (start : Reading) (left : List ℕ) (now : Reading) (left_now : List ℕ) (fed : List RawLine) : Type 0 where
  pub lines : List RawLine
  pub were_read : ReadLines start left now left_now lines
  pub same : start.ahead ++ lines ≡ fed ++ now.ahead

-- A splitter holds lines that were fed, of which no item is whole.
pub record IsFeeding (tells_input : Type 0) (start : Reading) (left : List ℕ) (now : Reading) (left_now : List ℕ) (splitter : Open) : Type 0 where
  pub fed : List RawLine
  pub holds : Holds splitter fed
  pub used : start.used + length fed ≤ now.used
  pub short : AllByRecursion IsShort fed
  pub were_fed : tells_input → FedLines start left now left_now fed
