-- How each operation is spelled: its name or sign, and how many operands it has.
use Rattle.std.specs.Prelude.{◌≡◌, codes, map, Some}
use Rattle.abc_tree.specs.declared.operations.Op.{Op}
use Rattle.abc_tree.specs.declared.operations.Op.TheVariants as op
use Rattle.abc_predef.specs.declared.table.TheConstants.{TABLE}
use Rattle.abc_predef.specs.Order.{Key, key_of, named}

abbrev pub spelling : Op → Key
spelling op.Plus = (codes "+", 1)
spelling op.Negate = (codes "-", 1)
spelling op.Numerator = (codes "*/", 1)
spelling op.Denominator = (codes "/*", 1)
spelling op.Size = (codes "#", 1)
spelling op.Add = (codes "+", 2)
spelling op.Subtract = (codes "-", 2)
spelling op.Multiply = (codes "*", 2)
spelling op.Divide = (codes "/", 2)
spelling op.Power = (codes "**", 2)
spelling op.Join = (codes "^", 2)
spelling op.Repeat = (codes "^^", 2)
spelling op.Behead = (codes "@", 2)
spelling op.Curtail = (codes "|", 2)
spelling op.AlignLeft = (codes "<<", 2)
spelling op.Center = (codes "><", 2)
spelling op.AlignRight = (codes ">>", 2)
spelling op.Count = (codes "#", 2)
spelling op.Abs = (codes "abs", 1)
spelling op.Sign = (codes "sign", 1)
spelling op.Floor = (codes "floor", 1)
spelling op.Ceiling = (codes "ceiling", 1)
spelling op.Round = (codes "round", 1)
spelling op.Keys = (codes "keys", 1)
spelling op.Least = (codes "min", 1)
spelling op.Greatest = (codes "max", 1)
spelling op.Lower = (codes "lower", 1)
spelling op.Upper = (codes "upper", 1)
spelling op.Stripped = (codes "stripped", 1)
spelling op.Split = (codes "split", 1)
spelling op.RoundTo = (codes "round", 2)
spelling op.Modulo = (codes "mod", 2)
spelling op.LeastAbove = (codes "min", 2)
spelling op.GreatestBelow = (codes "max", 2)
spelling op.Item = (codes "item", 2)
spelling op.In = (codes "in", 2)
spelling op.NotIn = (codes "not.in", 2)
spelling op.Less = (codes "<", 2)
spelling op.AtMost = (codes "<=", 2)
spelling op.Equal = (codes "=", 2)
spelling op.Unequal = (codes "<>", 2)
spelling op.AtLeast = (codes ">=", 2)
spelling op.More = (codes ">", 2)

-- the table has each operation under its spelling
abbrev pub IsSpelledSo : Type 0
IsSpelledSo = (o : Op) → named TABLE (spelling o) ≡ Some o

-- and no other name or sign
abbrev pub IsSpelledOnlySo : Type 0
IsSpelledOnlySo = map key_of TABLE ≡ map (λ r. spelling r.op) TABLE
