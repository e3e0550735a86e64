-- What holds of displays and of the lines that spell values.
use Rattle.std.specs.Prelude.{◌≡◌, ◌↔◌, ℕ, List, Some}
use Rattle.abc_value.specs.Tree.{Tree}
use Rattle.abc_value.specs.Regular.{IsRegular}
use Rattle.abc_value.specs.Printed.{display}
use Rattle.abc_print.specs.Lexemes.{IsLiteralLine}
use Rattle.abc_print.specs.Computed.{literal_of}

-- the display of a value is a line that spells it
abbrev pub DisplaysReadBack : Type 0
DisplaysReadBack = (t : Tree) → IsRegular t → IsLiteralLine (display t) t

-- no line spells two values
abbrev pub LinesSpellOne : Type 0
LinesSpellOne = (line : List ℕ) (t u : Tree) → IsLiteralLine line t → IsLiteralLine line u → t ≡ u

-- a line spells the value that is computed for it, and no line spells a value where none is
abbrev pub LinesAreComputed : Type 0
LinesAreComputed = (line : List ℕ) (t : Tree) → IsLiteralLine line t ↔ (literal_of line ≡ Some t)
