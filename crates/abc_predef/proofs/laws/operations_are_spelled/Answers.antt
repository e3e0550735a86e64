-- The table has each operation under its spelling.
use Rattle.std.proofs.Common.{refl}
use Rattle.abc_tree.specs.declared.operations.Op.TheVariants as op
use Rattle.abc_predef.proofs.laws.operations_are_spelled.Goals as goal

pub returns-clause-only : goal.returns-clause-only
returns-clause-only c = refl

pub returns-clause-so : goal.returns-clause-so
returns-clause-so c op.Plus = refl
returns-clause-so c op.Negate = refl
returns-clause-so c op.Numerator = refl
returns-clause-so c op.Denominator = refl
returns-clause-so c op.Size = refl
returns-clause-so c op.Add = refl
returns-clause-so c op.Subtract = refl
returns-clause-so c op.Multiply = refl
returns-clause-so c op.Divide = refl
returns-clause-so c op.Power = refl
returns-clause-so c op.Join = refl
returns-clause-so c op.Repeat = refl
returns-clause-so c op.Behead = refl
returns-clause-so c op.Curtail = refl
returns-clause-so c op.AlignLeft = refl
returns-clause-so c op.Center = refl
returns-clause-so c op.AlignRight = refl
returns-clause-so c op.Count = refl
returns-clause-so c op.Abs = refl
returns-clause-so c op.Sign = refl
returns-clause-so c op.Floor = refl
returns-clause-so c op.Ceiling = refl
returns-clause-so c op.Round = refl
returns-clause-so c op.Keys = refl
returns-clause-so c op.Least = refl
returns-clause-so c op.Greatest = refl
returns-clause-so c op.Lower = refl
returns-clause-so c op.Upper = refl
returns-clause-so c op.Stripped = refl
returns-clause-so c op.Split = refl
returns-clause-so c op.RoundTo = refl
returns-clause-so c op.Modulo = refl
returns-clause-so c op.LeastAbove = refl
returns-clause-so c op.GreatestBelow = refl
returns-clause-so c op.Item = refl
returns-clause-so c op.In = refl
returns-clause-so c op.NotIn = refl
returns-clause-so c op.Less = refl
returns-clause-so c op.AtMost = refl
returns-clause-so c op.Equal = refl
returns-clause-so c op.Unequal = refl
returns-clause-so c op.AtLeast = refl
returns-clause-so c op.More = refl
