-- Which changes have a spelling, and which bytes spell changes.
use Rattle.std.specs.Prelude.{◌≡◌, ◌≢◌, ℕ, ◌<◌, ◌≤◌, ◌^◌, Bool, false, List, [], ◌∷◌, length}
use Rattle.std.specs.List.{AllByRecursion}
use Rattle.abc_num.specs.Characters.{AreCharacters}
use Rattle.abc_num.specs.declared.limits.TheConstants.{MOST_LINES, MOST_LINE_BYTES}
use Rattle.abc_num.specs.declared.lines.Line.{Line}
use Rattle.abc_tokens.specs.Bytes.{is_small, space}
use Rattle.abc_tokens.specs.Words.{IsWord}
use Rattle.abc_value.specs.Regular.{IsRegular}
use Rattle.abc_record.specs.declared.change.Change.{Change}
use Rattle.abc_record.specs.declared.change.Change.TheVariants.{SetTarget, DropTarget, SetUnit, DropUnit}
use Rattle.abc_record.specs.Spelling.{spelled}

-- a name, which a line has room for
abbrev pub IsKeptName : List ℕ → Type 0
IsKeptName name = IsWord is_small name × (length name ≤ MOST_LINE_BYTES)

-- characters, as many as four bytes can count
abbrev pub IsKeptText : List ℕ → Type 0
IsKeptText text = AreCharacters text × (length text < 2 ^ 32)

-- the first byte is no space
abbrev pub IsFlush : List ℕ → Type 0
IsFlush [] = Unit {0}
IsFlush (b ∷ bytes) = b ≢ space

-- a line of a unit, without its indentation
pub record IsKeptLine (line : Line) : Type 0 where
  pub indent : line.indent < 2 ^ 32
  pub characters : AreCharacters line.text
  pub short : length line.text ≤ MOST_LINE_BYTES
  pub flush : IsFlush line.text
  pub whole : line.long ≡ false

-- the lines of a unit
abbrev pub AreKeptLines : List Line → Type 0
AreKeptLines lines = (1 ≤ length lines) × (length lines ≤ MOST_LINES) × AllByRecursion IsKeptLine lines

-- a change that has a spelling
abbrev pub IsKept : Change → Type 0
IsKept (SetTarget name value) = IsKeptName name × IsRegular value
IsKept (DropTarget name) = IsKeptName name
IsKept (SetUnit lines) = AreKeptLines lines
IsKept (DropUnit template) = IsKeptText template

-- a list of changes that has a spelling
abbrev pub AreKept : List Change → Type 0
AreKept changes = (length changes < 2 ^ 32) × AllByRecursion IsKept changes

-- the bytes spell the changes
pub record IsSpelling (changes : List Change) (bytes : List ℕ) : Type 0 where
  pub kept : AreKept changes
  pub bytes_are : bytes ≡ spelled changes
