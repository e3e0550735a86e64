-- Which operands a row takes.
use Rattle.std.specs.Prelude.{◌≡◌, List, [], ◌∷◌, IsSome, IsNone}
use Rattle.abc_num.specs.declared.types.Ground.{Ground}
use Rattle.abc_num.specs.declared.types.Ground.TheVariants as type
use Rattle.abc_num.specs.Types.{IsTrainOf}
use Rattle.abc_tree.specs.declared.operations.Op.{Op}
use Rattle.abc_value.specs.Tree.{Tree, number}
use Rattle.abc_value.specs.Types.{has}
use Rattle.abc_predef.specs.declared.table.Letter.{Letter}
use Rattle.abc_predef.specs.declared.table.Letter.TheVariants as letter
use Rattle.abc_predef.specs.declared.table.Operands.{Operands}
use Rattle.abc_predef.specs.declared.table.Operands.TheVariants.{One, Two}
use Rattle.abc_predef.specs.Signatures.{operands, result_of}

-- a number
abbrev pub IsNumeric : Tree → Type 0
IsNumeric (number n) = Unit {0}
IsNumeric _ = ⊥

-- the type is one of those for which the letter stands, where e is the type of the row
abbrev pub StandsFor : Letter → Ground → Ground → Type 0
StandsFor letter.Number e g = g ≡ type.Number
StandsFor letter.Text e g = g ≡ type.Text
StandsFor letter.Element e g = g ≡ e
StandsFor letter.Train e g = IsTrainOf g e
StandsFor letter.Table e g = (a : Ground) × (g ≡ type.Table e a)
StandsFor letter.List e g = g ≡ type.List e
StandsFor letter.Words e g = g ≡ type.Table type.Number type.Text

-- the value has a type for which the letter stands
abbrev pub IsOf : Letter → Ground → Tree → Type 0
IsOf l e t = (g : Ground) × StandsFor l e g × has t g

-- types for the letters exist such that each operand has its type
abbrev pub AreTaken : Operands → List Tree → Type 0
AreTaken (One l) (x ∷ []) = (e : Ground) × IsOf l e x
AreTaken (Two l m) (x ∷ y ∷ []) = (e : Ground) × IsOf l e x × IsOf m e y
AreTaken _ _ = ⊥

-- the operation gives a value, and takes the operands
unfoldable pub GivesValue : Op → List Tree → Type 0
GivesValue op xs = IsSome (result_of op) × AreTaken (operands op) xs

-- the operation is a test, and takes the operands
unfoldable pub IsTest : Op → List Tree → Type 0
IsTest op xs = IsNone (result_of op) × AreTaken (operands op) xs
