-- Parts of what nodes mean, from where their operands are values.
use Rattle.std.specs.Prelude.{ℕ, List, [], ◌∷◌, ◌++◌, ◌&&◌, Option, Some, None, if◌then◌else◌}
use Rattle.abc_value.specs.Tree.{Tree}
use Rattle.abc_value.specs.Parts.{parts_of}
use Rattle.abc_value.specs.Forms.{joined, form_of}
use Rattle.abc_value.specs.Printed.{outer}
use Rattle.abc_outside.specs.Lines.{Unread, lines_in}
use Rattle.abc_meaning.specs.State.{State, place, Run, gives, ◌>>=◌, ◌>>◌}
use Rattle.abc_meaning.specs.Here.{Here, Scope, look, is_bound, mistake}
use Rattle.abc_meaning.specs.Deeper.{Actual}
use Rattle.abc_meaning.specs.Fits.{has_type}
use Rattle.abc_meaning.specs.Value.{range, Filling, Tabling, Wording}
use Rattle.abc_meaning.specs.Acts.{newlines, say}

-- the lines left are those of what is unread
abbrev pub with_lines : Unread → State → State
with_lines unread s = record s { lines = lines_in unread; ended = unread.ends }

-- nothing but the test whether there is a range between two values
abbrev pub range_checked : Here → Tree → Tree → Run (Unit {0})
range_checked here x y = range here x y >> gives tt

-- the range between two values stands in a display, behind what was found
abbrev pub ranged : Here → Filling → Tree → Tree → Run Filling
ranged here found x y = do
  r ← range here x y
  gives (record { elements = found.elements ++ parts_of r; form = joined (joined found.form (form_of x)) (form_of y) })

-- the outer text of what WRITE has evaluated
abbrev pub outer_text : Here → Option Tree → Run (List ℕ)
outer_text here None = gives []
outer_text here (Some v) = if has_type v then gives (outer v) else mistake here

-- it is written, with so many LF before it and behind it
abbrev pub write_out : Here → ℕ → Option Tree → ℕ → Run (Unit {0})
write_out here before part behind = do
  b ← outer_text here part
  say here (newlines before ++ b ++ newlines behind)

-- a display with one more filler, and a table display with one more pair
abbrev pub filled_with : Filling → Tree → Filling
filled_with found v = record { elements = found.elements ++ v ∷ []; form = joined found.form (form_of v) }

abbrev pub paired_with : Tabling → Tree → Tree → Tabling
paired_with found k a = record { pairs = found.pairs ++ (k, a) ∷ []; keys = joined found.keys (form_of k); associates = joined found.associates (form_of a) }

-- a text with more characters, and with the outer text of one more value
abbrev pub with_characters : Wording → List ℕ → Wording
with_characters found b = record { characters = found.characters ++ b; typed = found.typed }

abbrev pub with_conversion : Wording → Tree → Wording
with_conversion found v = record { characters = found.characters ++ outer v; typed = found.typed && has_type v }

-- what a lone name gives as an actual, where it is no refinement
abbrev pub name_actual : Scope → ℕ → State → Actual
name_actual scope i s = record { value = look scope i s; address = if is_bound scope i then None else Some (place i []) }
