use Rattle.std.proofs.Common.{◌≡◌, take}
use Rattle.abc_num.specs.Literal.{digits_value}
use Rattle.abc_num.proofs.literal.read_digits.Given as goal

abbrev pub invariant-loop-c : goal.invariant-loop-c
invariant-loop-c l = l.value ≡ digits_value (take l.c-index l.b)
