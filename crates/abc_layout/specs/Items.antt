-- The items of an input, on the whole list of its lines.
use Rattle.std.specs.Prelude.{ℕ, ◌+◌, Bool, true, false, not, ◌&&◌, ◌||◌, List, [], ◌∷◌, take, Option, Some, None, nat_lt, if◌then◌else◌}
use Rattle.abc_num.specs.declared.lines.Line.{Line}
use Rattle.abc_num.specs.declared.lines.RawLine.{RawLine}
use Rattle.abc_num.specs.declared.limits.TheConstants.{MOST_LINES}
use Rattle.abc_tokens.specs.declared.kinds.First.{First}
use Rattle.abc_tokens.specs.declared.kinds.First.TheVariants as first
use Rattle.abc_tokens.specs.Shape.{indentation, text_of, shape_of}

-- the line as an item keeps it
abbrev pub line_of : RawLine → Line
line_of line = record { indent = indentation line.bytes; text = text_of line.bytes; long = line.long }

abbrev pub is_how_to : First → Bool
is_how_to first.HowTo = true
is_how_to _ = false

abbrev pub is_heading : First → Bool
is_heading first.Heading = true
is_heading _ = false

abbrev pub is_environment : First → Bool
is_environment first.Environment = true
is_environment _ = false

-- Spaces, tabs and a comment alone; such a line means nothing. A line that had more bytes is never blank.
abbrev pub is_blank : RawLine → Bool
is_blank line = (shape_of line.bytes).blank && not line.long

-- an item that begins so is a unit
abbrev pub is_unit : RawLine → Bool
is_unit line = is_how_to (shape_of line.bytes).first

-- An item that begins so is open: it is a unit, or its first line ends in a colon and isn't an environment line.
abbrev pub opens : RawLine → Bool
opens line = is_unit line || ((shape_of line.bytes).ends_in_colon && not (is_environment (shape_of line.bytes).first))

-- a line belongs to an open item that begins so: it is indented, or it is a refinement heading and the item is a unit
abbrev pub belongs : Bool → RawLine → Bool
belongs unit line = nat_lt 0 (shape_of line.bytes).indent || (unit && is_heading (shape_of line.bytes).first)

-- lines that an item keeps: those that it may have, and one that tells that there were more
abbrev pub most_kept : ℕ
most_kept = MOST_LINES + 1

-- lines of an item, and the lines left behind them
abbrev pub Front : Type 0
Front = Option (List Line × List RawLine)

abbrev pub with_line : RawLine → Front → Front
with_line line None = None
with_line line (Some front) = Some (line_of line ∷ front.0, front.1)

-- The lines that belong to an open item, up to the first one that doesn't, and what is left from that one on. Where all
-- belong and the input has not ended, they are not yet whole. Blank lines between them are dropped.
abbrev pub belonging : Bool → Bool → List RawLine → Front
belonging ended unit [] = if ended then Some ([], []) else None
belonging ended unit (line ∷ lines) = if is_blank line then belonging ended unit lines
    else (if belongs unit line then with_line line (belonging ended unit lines) else Some ([], line ∷ lines))

-- what the next item of some lines is: there is none, it isn't whole yet, or its lines and the lines left
pub data Next : Type 0 where
  over : Next
  not_yet : Next
  whole : List Line → List RawLine → Next

abbrev pub open_item : RawLine → Front → Next
open_item line None = not_yet
open_item line (Some front) = whole (take most_kept (line_of line ∷ front.0)) front.1

-- The first line that isn't blank begins the next item. If it opens one, the lines that belong follow; else it is all.
abbrev pub next : Bool → List RawLine → Next
next ended [] = if ended then over else not_yet
next ended (line ∷ lines) = if is_blank line then next ended lines
    else (if opens line then open_item line (belonging ended (is_unit line) lines) else whole (line_of line ∷ []) lines)
