-- Which operations are one.
use Rattle.std.specs.Prelude.{Bool}
use denote.Enum.Bare.{sameb}
use Rattle.abc_tree.specs.contracts.operations.Op.{the_type}
use Rattle.abc_tree.specs.declared.operations.Op.{Op}

-- whether two operations are one
abbrev pub is_op : Op → Op → Bool
is_op a b = sameb the_type a b
