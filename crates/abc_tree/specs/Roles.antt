-- Where the predefined operations may stand.
use Rattle.std.specs.Prelude.{Bool, true, false, not, ◌&&◌}
use Rattle.abc_tree.specs.declared.operations.Op.{Op}
use Rattle.abc_tree.specs.declared.operations.Op.TheVariants as op

-- a relation of a chain
abbrev pub is_relation : Op → Bool
is_relation op.Less = true
is_relation op.AtMost = true
is_relation op.Equal = true
is_relation op.Unequal = true
is_relation op.AtLeast = true
is_relation op.More = true
is_relation _ = false

-- `in` and `not.in`
abbrev pub is_membership : Op → Bool
is_membership op.In = true
is_membership op.NotIn = true
is_membership _ = false

-- gives a value, with one place
abbrev pub is_prefix : Op → Bool
is_prefix op.Plus = true
is_prefix op.Negate = true
is_prefix op.Numerator = true
is_prefix op.Denominator = true
is_prefix op.Size = true
is_prefix op.Abs = true
is_prefix op.Sign = true
is_prefix op.Floor = true
is_prefix op.Ceiling = true
is_prefix op.Round = true
is_prefix op.Keys = true
is_prefix op.Least = true
is_prefix op.Greatest = true
is_prefix op.Lower = true
is_prefix op.Upper = true
is_prefix op.Stripped = true
is_prefix op.Split = true
is_prefix _ = false

-- gives a value, with two places
abbrev pub is_infix : Op → Bool
is_infix o = not (is_prefix o) && not (is_relation o) && not (is_membership o)
