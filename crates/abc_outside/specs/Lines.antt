-- What a reader of lines tells of its input.
use Rattle.std.specs.Prelude.{◌≡◌, ◌≢◌, ◌⊎◌, ℕ, Bool, true, false, List, [], ◌∷◌, ◌++◌}
use Rattle.std.specs.List.{AllByRecursion}
use Rattle.abc_num.specs.Lines.{HasNoLf, line_feed, raw_line, raw_lines}
use Rattle.abc_num.specs.declared.lines.RawLine.{RawLine}

-- the bytes that no line has used, up to the bound, and whether the input ends behind them
pub record Unread : Type 0 where
  pub bytes : List ℕ
  pub ends : Bool

-- nothing is there yet, and the input goes on
abbrev pub none_yet : Unread
none_yet = record { bytes = []; ends = false }

-- the lines of what is unread
abbrev pub lines_in : Unread → List RawLine
lines_in unread = raw_lines unread.ends unread.bytes

-- Old begins with this line, and new is what is left of old behind it: an LF ends the line, or the input does.
pub record IsFirst (old : Unread) (line : RawLine) (new : Unread) : Type 0 where
  pub text : List ℕ
  pub no_lf : HasNoLf text
  pub is_line : line ≡ raw_line text
  pub ends : new.ends ≡ old.ends
  pub behind : (old.bytes ≡ text ++ line_feed ∷ new.bytes) ⊎ ((old.bytes ≡ text) × (text ≢ []) × (old.ends ≡ true) × (new.bytes ≡ []))

-- nothing is unread, and the input ends there
abbrev pub IsOver : Unread → Type 0
IsOver unread = (unread.bytes ≡ []) × (unread.ends ≡ true)

-- the input goes on, and what is unread of it is within one line
abbrev pub IsWithinLine : Unread → Type 0
IsWithinLine unread = HasNoLf unread.bytes × (unread.ends ≡ false)

-- calls of `next` led from one reader to another, each made on a reader with this property
pub record Called {L : Type 0} (leads : List L → L → L → Type 0) (property : L → Type 0) (old new : L) : Type 0 where
  pub called : List L
  pub each : AllByRecursion property called
  pub reads_on : leads called old new

-- a call on a reader with this property failed for want of a byte, and left this one
pub record Failed {L : Type 0} (leaves : L → L → Type 0) (property : L → Type 0) (new : L) : Type 0 where
  pub there : L
  pub asks : property there
  pub is : leaves there new

-- A line is the first of the lines of the input, and the others are those of what is left.
abbrev pub FirstIsFirst : Type 0
FirstIsFirst = (old new : Unread) (line : RawLine) → IsFirst old line new → lines_in old ≡ line ∷ lines_in new

-- Where the input is over, or is within one line, there is no line.
abbrev pub OverHasNone : Type 0
OverHasNone = (unread : Unread) → IsOver unread → lines_in unread ≡ []

abbrev pub WithinHasNone : Type 0
WithinHasNone = (unread : Unread) → IsWithinLine unread → lines_in unread ≡ []
