-- Lines that READ takes.
use Rattle.std.specs.Prelude.{Bool, true, false, not, ◌&&◌, List, [], ◌∷◌, Option, Some, None, if◌then◌else◌}
use Rattle.abc_num.specs.Characters.{are_characters}
use Rattle.abc_value.specs.declared.faults.RunFault.TheVariants.{NoInput, BadInput}
use Rattle.abc_value.specs.Tree.{Tree, text}
use Rattle.abc_value.specs.Forms.{Form, form_of}
use Rattle.abc_num.specs.declared.lines.RawLine.{RawLine}
use Rattle.abc_meaning.specs.State.{wants, Run, gives, stops}
use Rattle.abc_meaning.specs.Here.{Here, fault}
use Rattle.abc_meaning.specs.Fits.{agree}
use Rattle.abc_print.specs.Computed.{literal_of}

module _ (here : Here) where
  -- the first line that is left; where there is none, the input ends here, or a line is wanted
  abbrev pub taken : List RawLine → Bool → Run RawLine
  taken [] true = fault here NoInput
  taken [] false = stops here.line wants
  taken (line ∷ lines) ended = λ s. gives line (record s { lines = lines })

  abbrev pub take_line : Run RawLine
  take_line s = taken s.lines s.ended s

  -- the line as a text
  abbrev pub raw_value : RawLine → Run Tree
  raw_value line = if not line.long && are_characters line.bytes then gives (text line.bytes) else fault here BadInput

  -- the value that the line spells, if it has the type of the example
  abbrev pub of_form : Option Form → Option Tree → Run Tree
  of_form form None = fault here BadInput
  of_form form (Some v) = if agree (form_of v) form then gives v else fault here BadInput

  abbrev pub literal_value : Option Form → RawLine → Run Tree
  literal_value form line = if line.long then fault here BadInput else of_form form (literal_of line.bytes)
