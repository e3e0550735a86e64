-- The types of each operation: of its operands, and of its result, which is none for a test.
use Rattle.std.specs.Prelude.{◌≡◌, Option, None, Some}
use Rattle.std.specs.Option.{option_map}
use Rattle.std.specs.List.{find}
use Rattle.abc_tree.specs.declared.operations.Op.{Op}
use Rattle.abc_tree.specs.declared.operations.Op.TheVariants as op
use Rattle.abc_predef.specs.declared.table.TheConstants.{TABLE}
use Rattle.abc_predef.specs.declared.table.Row.{Row}
use Rattle.abc_predef.specs.declared.table.Letter.{Letter}
use Rattle.abc_predef.specs.declared.table.Letter.TheVariants as letter
use Rattle.abc_predef.specs.declared.table.Operands.{Operands}
use Rattle.abc_predef.specs.declared.table.Operands.TheVariants.{One, Two}
use Rattle.abc_predef.specs.Operations.{is_op}

abbrev pub operands : Op → Operands
operands op.Plus = One letter.Number
operands op.Negate = One letter.Number
operands op.Numerator = One letter.Number
operands op.Denominator = One letter.Number
operands op.Size = One letter.Train
operands op.Add = Two letter.Number letter.Number
operands op.Subtract = Two letter.Number letter.Number
operands op.Multiply = Two letter.Number letter.Number
operands op.Divide = Two letter.Number letter.Number
operands op.Power = Two letter.Number letter.Number
operands op.Join = Two letter.Text letter.Text
operands op.Repeat = Two letter.Text letter.Number
operands op.Behead = Two letter.Text letter.Number
operands op.Curtail = Two letter.Text letter.Number
operands op.AlignLeft = Two letter.Element letter.Number
operands op.Center = Two letter.Element letter.Number
operands op.AlignRight = Two letter.Element letter.Number
operands op.Count = Two letter.Element letter.Train
operands op.Abs = One letter.Number
operands op.Sign = One letter.Number
operands op.Floor = One letter.Number
operands op.Ceiling = One letter.Number
operands op.Round = One letter.Number
operands op.Keys = One letter.Table
operands op.Least = One letter.Train
operands op.Greatest = One letter.Train
operands op.Lower = One letter.Text
operands op.Upper = One letter.Text
operands op.Stripped = One letter.Text
operands op.Split = One letter.Text
operands op.RoundTo = Two letter.Number letter.Number
operands op.Modulo = Two letter.Number letter.Number
operands op.LeastAbove = Two letter.Element letter.Train
operands op.GreatestBelow = Two letter.Element letter.Train
operands op.Item = Two letter.Train letter.Number
operands op.In = Two letter.Element letter.Train
operands op.NotIn = Two letter.Element letter.Train
operands op.Less = Two letter.Element letter.Element
operands op.AtMost = Two letter.Element letter.Element
operands op.Equal = Two letter.Element letter.Element
operands op.Unequal = Two letter.Element letter.Element
operands op.AtLeast = Two letter.Element letter.Element
operands op.More = Two letter.Element letter.Element

abbrev pub result_of : Op → Option Letter
result_of op.Plus = Some letter.Number
result_of op.Negate = Some letter.Number
result_of op.Numerator = Some letter.Number
result_of op.Denominator = Some letter.Number
result_of op.Size = Some letter.Number
result_of op.Add = Some letter.Number
result_of op.Subtract = Some letter.Number
result_of op.Multiply = Some letter.Number
result_of op.Divide = Some letter.Number
result_of op.Power = Some letter.Number
result_of op.Join = Some letter.Text
result_of op.Repeat = Some letter.Text
result_of op.Behead = Some letter.Text
result_of op.Curtail = Some letter.Text
result_of op.AlignLeft = Some letter.Text
result_of op.Center = Some letter.Text
result_of op.AlignRight = Some letter.Text
result_of op.Count = Some letter.Number
result_of op.Abs = Some letter.Number
result_of op.Sign = Some letter.Number
result_of op.Floor = Some letter.Number
result_of op.Ceiling = Some letter.Number
result_of op.Round = Some letter.Number
result_of op.Keys = Some letter.List
result_of op.Least = Some letter.Element
result_of op.Greatest = Some letter.Element
result_of op.Lower = Some letter.Text
result_of op.Upper = Some letter.Text
result_of op.Stripped = Some letter.Text
result_of op.Split = Some letter.Words
result_of op.RoundTo = Some letter.Number
result_of op.Modulo = Some letter.Number
result_of op.LeastAbove = Some letter.Element
result_of op.GreatestBelow = Some letter.Element
result_of op.Item = Some letter.Element
result_of op.In = None
result_of op.NotIn = None
result_of op.Less = None
result_of op.AtMost = None
result_of op.Equal = None
result_of op.Unequal = None
result_of op.AtLeast = None
result_of op.More = None

-- the row of an operation in the table
unfoldable pub row_of : Op → Option Row
row_of op = find (λ r. is_op r.op op) TABLE

-- each operation has a row in the table, with its types
abbrev pub IsTypedSo : Type 0
IsTypedSo = (o : Op) → (option_map (λ r. r.op) (row_of o) ≡ Some o) × (option_map (λ r. r.operands) (row_of o) ≡ Some (operands o)) × (option_map (λ r. r.result) (row_of o) ≡ Some (result_of o))
