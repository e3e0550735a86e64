-- Which changes have a spelling, as a test.
use Rattle.std.specs.Prelude.{ℕ, ◌^◌, Bool, true, false, not, ◌&&◌, ◌==◌, List, [], ◌∷◌, length, nat_lt, nat_le}
use Rattle.std.specs.List.{list_all}
use Rattle.abc_num.specs.Characters.{are_characters}
use Rattle.abc_num.specs.declared.limits.TheConstants.{MOST_LINES, MOST_LINE_BYTES}
use Rattle.abc_num.specs.declared.lines.Line.{Line}
use Rattle.abc_record.specs.declared.change.Change.{Change}
use Rattle.abc_record.specs.declared.change.Change.TheVariants.{SetTarget, DropTarget, SetUnit, DropUnit}
use Rattle.abc_record.specs.KeptTests.{is_kept_name, is_kept_line}

-- a line of characters that is not too long, and doesn't begin with a space behind its indentation
abbrev pub is_spelled_line : Line → Bool
is_spelled_line line = is_kept_line line.text && not line.long

-- some lines, and no more than a unit may have
abbrev pub are_spelled_lines : List Line → Bool
are_spelled_lines lines = nat_le 1 (length lines) && (nat_le (length lines) MOST_LINES && list_all is_spelled_line lines)

-- The names and lines in a change of a command or of a unit that is set can be spelled. No such change takes a unit out: that is done by a
-- line that asks for it, whose template is looked at there.
abbrev pub has_spelling : Change → Bool
has_spelling (SetTarget name value) = is_kept_name name
has_spelling (DropTarget name) = is_kept_name name
has_spelling (SetUnit lines) = are_spelled_lines lines
has_spelling (DropUnit template) = false
