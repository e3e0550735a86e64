-- The table has each operation with its types, and which of them have a result.
use Rattle.std.proofs.Common.{◌≡◌, refl, List, Option, None, Some}
use Rattle.std.specs.Prelude.{IsSome, IsNone}
use Rattle.std.specs.Option.{option_map}
use Rattle.abc_tree.specs.declared.operations.Op.{Op}
use Rattle.abc_tree.specs.declared.operations.Op.TheVariants as op
use Rattle.abc_value.specs.Tree.{Tree}
use Rattle.abc_predef.specs.declared.table.Letter.{Letter}
use Rattle.abc_predef.specs.Signatures.{operands, result_of, row_of}
use Rattle.abc_predef.specs.Takes.{AreTaken, GivesValue, IsTest}

pub op_is : (o : Op) → option_map (λ r. r.op) (row_of o) ≡ Some o
unfolding row_of
op_is op.Plus = refl
op_is op.Negate = refl
op_is op.Numerator = refl
op_is op.Denominator = refl
op_is op.Size = refl
op_is op.Add = refl
op_is op.Subtract = refl
op_is op.Multiply = refl
op_is op.Divide = refl
op_is op.Power = refl
op_is op.Join = refl
op_is op.Repeat = refl
op_is op.Behead = refl
op_is op.Curtail = refl
op_is op.AlignLeft = refl
op_is op.Center = refl
op_is op.AlignRight = refl
op_is op.Count = refl
op_is op.Abs = refl
op_is op.Sign = refl
op_is op.Floor = refl
op_is op.Ceiling = refl
op_is op.Round = refl
op_is op.Keys = refl
op_is op.Least = refl
op_is op.Greatest = refl
op_is op.Lower = refl
op_is op.Upper = refl
op_is op.Stripped = refl
op_is op.Split = refl
op_is op.RoundTo = refl
op_is op.Modulo = refl
op_is op.LeastAbove = refl
op_is op.GreatestBelow = refl
op_is op.Item = refl
op_is op.In = refl
op_is op.NotIn = refl
op_is op.Less = refl
op_is op.AtMost = refl
op_is op.Equal = refl
op_is op.Unequal = refl
op_is op.AtLeast = refl
op_is op.More = refl

pub operands_are : (o : Op) → option_map (λ r. r.operands) (row_of o) ≡ Some (operands o)
unfolding row_of
operands_are op.Plus = refl
operands_are op.Negate = refl
operands_are op.Numerator = refl
operands_are op.Denominator = refl
operands_are op.Size = refl
operands_are op.Add = refl
operands_are op.Subtract = refl
operands_are op.Multiply = refl
operands_are op.Divide = refl
operands_are op.Power = refl
operands_are op.Join = refl
operands_are op.Repeat = refl
operands_are op.Behead = refl
operands_are op.Curtail = refl
operands_are op.AlignLeft = refl
operands_are op.Center = refl
operands_are op.AlignRight = refl
operands_are op.Count = refl
operands_are op.Abs = refl
operands_are op.Sign = refl
operands_are op.Floor = refl
operands_are op.Ceiling = refl
operands_are op.Round = refl
operands_are op.Keys = refl
operands_are op.Least = refl
operands_are op.Greatest = refl
operands_are op.Lower = refl
operands_are op.Upper = refl
operands_are op.Stripped = refl
operands_are op.Split = refl
operands_are op.RoundTo = refl
operands_are op.Modulo = refl
operands_are op.LeastAbove = refl
operands_are op.GreatestBelow = refl
operands_are op.Item = refl
operands_are op.In = refl
operands_are op.NotIn = refl
operands_are op.Less = refl
operands_are op.AtMost = refl
operands_are op.Equal = refl
operands_are op.Unequal = refl
operands_are op.AtLeast = refl
operands_are op.More = refl

pub result_is : (o : Op) → option_map (λ r. r.result) (row_of o) ≡ Some (result_of o)
unfolding row_of
result_is op.Plus = refl
result_is op.Negate = refl
result_is op.Numerator = refl
result_is op.Denominator = refl
result_is op.Size = refl
result_is op.Add = refl
result_is op.Subtract = refl
result_is op.Multiply = refl
result_is op.Divide = refl
result_is op.Power = refl
result_is op.Join = refl
result_is op.Repeat = refl
result_is op.Behead = refl
result_is op.Curtail = refl
result_is op.AlignLeft = refl
result_is op.Center = refl
result_is op.AlignRight = refl
result_is op.Count = refl
result_is op.Abs = refl
result_is op.Sign = refl
result_is op.Floor = refl
result_is op.Ceiling = refl
result_is op.Round = refl
result_is op.Keys = refl
result_is op.Least = refl
result_is op.Greatest = refl
result_is op.Lower = refl
result_is op.Upper = refl
result_is op.Stripped = refl
result_is op.Split = refl
result_is op.RoundTo = refl
result_is op.Modulo = refl
result_is op.LeastAbove = refl
result_is op.GreatestBelow = refl
result_is op.Item = refl
result_is op.In = refl
result_is op.NotIn = refl
result_is op.Less = refl
result_is op.AtMost = refl
result_is op.Equal = refl
result_is op.Unequal = refl
result_is op.AtLeast = refl
result_is op.More = refl

-- what an operation takes, and whether it has a result
pub value_operands : (o : Op) (xs : List Tree) → GivesValue o xs → AreTaken (operands o) xs
unfolding GivesValue
value_operands o xs g = g.1

pub test_operands : (o : Op) (xs : List Tree) → IsTest o xs → AreTaken (operands o) xs
unfolding IsTest
test_operands o xs g = g.1

pub has_result : (o : Op) (xs : List Tree) → GivesValue o xs → IsSome (result_of o)
unfolding GivesValue
has_result o xs g = g.0

pub has_no_result : (o : Op) (xs : List Tree) → IsTest o xs → IsNone (result_of o)
unfolding IsTest
has_no_result o xs g = g.0

pub no_result : (l : Option Letter) → l ≡ None → IsSome l → ⊥
no_result (Some l) e h = cc
no_result None e h = let f = h in cc

pub a_result : (l : Option Letter) (m : Letter) → l ≡ Some m → IsNone l → ⊥
a_result (Some l) m e h = let f = h in cc
a_result None m e h = cc
