-- The rows of numbers, computed on values whose results were found elsewhere.
use Rattle.std.proofs.Common.{◌≡◌, refl, pos, negsuc, Ok, Err}
use Rattle.abc_num.specs.Number.{fraction}
use Rattle.abc_tree.specs.declared.operations.Op.TheVariants as op
use Rattle.abc_value.specs.declared.faults.RunFault.TheVariants as fault
use Rattle.abc_value.specs.Tree.{number}
use Rattle.abc_num.specs.Ratio.{gcd_within, gcd, ratio}
use Rattle.abc_predef.specs.Rows.{row_of_one, row_of_two}

plus_rows :
    (row_of_one op.Plus (number (fraction (pos 0) 1)) ≡ Ok (number (fraction (pos 0) 1)))
    × (row_of_one op.Plus (number (fraction (pos 1) 2)) ≡ Ok (number (fraction (pos 1) 2)))
    × (row_of_one op.Plus (number (fraction (pos 170141183460469231731687303715884105727) 1)) ≡ Ok (number (fraction (pos 170141183460469231731687303715884105727) 1)))
unfolding ratio gcd gcd_within
plus_rows = (refl, refl, refl)

negate_rows :
    (row_of_one op.Negate (number (fraction (pos 0) 1)) ≡ Ok (number (fraction (pos 0) 1)))
    × (row_of_one op.Negate (number (fraction (pos 1) 2)) ≡ Ok (number (fraction (negsuc 0) 2)))
    × (row_of_one op.Negate (number (fraction (negsuc 0) 2)) ≡ Ok (number (fraction (pos 1) 2)))
    × (row_of_one op.Negate (number (fraction (pos 3) 2)) ≡ Ok (number (fraction (negsuc 2) 2)))
    × (row_of_one op.Negate (number (fraction (negsuc 2) 2)) ≡ Ok (number (fraction (pos 3) 2)))
    × (row_of_one op.Negate (number (fraction (pos 2) 3)) ≡ Ok (number (fraction (negsuc 1) 3)))
    × (row_of_one op.Negate (number (fraction (negsuc 6) 3)) ≡ Ok (number (fraction (pos 7) 3)))
    × (row_of_one op.Negate (number (fraction (pos 170141183460469231731687303715884105727) 1)) ≡ Ok (number (fraction (negsuc 170141183460469231731687303715884105726) 1)))
    × (row_of_one op.Negate (number (fraction (negsuc 170141183460469231731687303715884105726) 1)) ≡ Ok (number (fraction (pos 170141183460469231731687303715884105727) 1)))
    × (row_of_one op.Negate (number (fraction (negsuc 9223372036854775806) 2)) ≡ Ok (number (fraction (pos 9223372036854775807) 2)))
unfolding ratio gcd gcd_within
negate_rows = (refl, refl, refl, refl, refl, refl, refl, refl, refl, refl)

numerator_rows :
    (row_of_one op.Numerator (number (fraction (pos 0) 1)) ≡ Ok (number (fraction (pos 0) 1)))
    × (row_of_one op.Numerator (number (fraction (pos 1) 2)) ≡ Ok (number (fraction (pos 1) 1)))
    × (row_of_one op.Numerator (number (fraction (negsuc 0) 2)) ≡ Ok (number (fraction (negsuc 0) 1)))
    × (row_of_one op.Numerator (number (fraction (pos 3) 2)) ≡ Ok (number (fraction (pos 3) 1)))
    × (row_of_one op.Numerator (number (fraction (negsuc 2) 2)) ≡ Ok (number (fraction (negsuc 2) 1)))
    × (row_of_one op.Numerator (number (fraction (pos 2) 3)) ≡ Ok (number (fraction (pos 2) 1)))
    × (row_of_one op.Numerator (number (fraction (negsuc 6) 3)) ≡ Ok (number (fraction (negsuc 6) 1)))
    × (row_of_one op.Numerator (number (fraction (pos 170141183460469231731687303715884105727) 1)) ≡ Ok (number (fraction (pos 170141183460469231731687303715884105727) 1)))
    × (row_of_one op.Numerator (number (fraction (negsuc 170141183460469231731687303715884105726) 1)) ≡ Ok (number (fraction (negsuc 170141183460469231731687303715884105726) 1)))
    × (row_of_one op.Numerator (number (fraction (negsuc 9223372036854775806) 2)) ≡ Ok (number (fraction (negsuc 9223372036854775806) 1)))
unfolding ratio gcd gcd_within
numerator_rows = (refl, refl, refl, refl, refl, refl, refl, refl, refl, refl)

denominator_rows :
    (row_of_one op.Denominator (number (fraction (pos 0) 1)) ≡ Ok (number (fraction (pos 1) 1)))
    × (row_of_one op.Denominator (number (fraction (pos 1) 2)) ≡ Ok (number (fraction (pos 2) 1)))
    × (row_of_one op.Denominator (number (fraction (negsuc 0) 2)) ≡ Ok (number (fraction (pos 2) 1)))
    × (row_of_one op.Denominator (number (fraction (pos 3) 2)) ≡ Ok (number (fraction (pos 2) 1)))
    × (row_of_one op.Denominator (number (fraction (negsuc 2) 2)) ≡ Ok (number (fraction (pos 2) 1)))
    × (row_of_one op.Denominator (number (fraction (pos 2) 3)) ≡ Ok (number (fraction (pos 3) 1)))
    × (row_of_one op.Denominator (number (fraction (negsuc 6) 3)) ≡ Ok (number (fraction (pos 3) 1)))
    × (row_of_one op.Denominator (number (fraction (pos 170141183460469231731687303715884105727) 1)) ≡ Ok (number (fraction (pos 1) 1)))
    × (row_of_one op.Denominator (number (fraction (negsuc 170141183460469231731687303715884105726) 1)) ≡ Ok (number (fraction (pos 1) 1)))
    × (row_of_one op.Denominator (number (fraction (negsuc 9223372036854775806) 2)) ≡ Ok (number (fraction (pos 2) 1)))
unfolding ratio gcd gcd_within
denominator_rows = (refl, refl, refl, refl, refl, refl, refl, refl, refl, refl)

abs_rows :
    (row_of_one op.Abs (number (fraction (pos 0) 1)) ≡ Ok (number (fraction (pos 0) 1)))
    × (row_of_one op.Abs (number (fraction (pos 1) 2)) ≡ Ok (number (fraction (pos 1) 2)))
    × (row_of_one op.Abs (number (fraction (negsuc 0) 2)) ≡ Ok (number (fraction (pos 1) 2)))
    × (row_of_one op.Abs (number (fraction (pos 3) 2)) ≡ Ok (number (fraction (pos 3) 2)))
    × (row_of_one op.Abs (number (fraction (negsuc 2) 2)) ≡ Ok (number (fraction (pos 3) 2)))
    × (row_of_one op.Abs (number (fraction (pos 2) 3)) ≡ Ok (number (fraction (pos 2) 3)))
    × (row_of_one op.Abs (number (fraction (negsuc 6) 3)) ≡ Ok (number (fraction (pos 7) 3)))
    × (row_of_one op.Abs (number (fraction (pos 170141183460469231731687303715884105727) 1)) ≡ Ok (number (fraction (pos 170141183460469231731687303715884105727) 1)))
    × (row_of_one op.Abs (number (fraction (negsuc 170141183460469231731687303715884105726) 1)) ≡ Ok (number (fraction (pos 170141183460469231731687303715884105727) 1)))
    × (row_of_one op.Abs (number (fraction (negsuc 9223372036854775806) 2)) ≡ Ok (number (fraction (pos 9223372036854775807) 2)))
unfolding ratio gcd gcd_within
abs_rows = (refl, refl, refl, refl, refl, refl, refl, refl, refl, refl)

sign_rows :
    (row_of_one op.Sign (number (fraction (pos 0) 1)) ≡ Ok (number (fraction (pos 0) 1)))
    × (row_of_one op.Sign (number (fraction (pos 1) 2)) ≡ Ok (number (fraction (pos 1) 1)))
    × (row_of_one op.Sign (number (fraction (negsuc 0) 2)) ≡ Ok (number (fraction (negsuc 0) 1)))
    × (row_of_one op.Sign (number (fraction (pos 3) 2)) ≡ Ok (number (fraction (pos 1) 1)))
    × (row_of_one op.Sign (number (fraction (negsuc 2) 2)) ≡ Ok (number (fraction (negsuc 0) 1)))
    × (row_of_one op.Sign (number (fraction (pos 2) 3)) ≡ Ok (number (fraction (pos 1) 1)))
    × (row_of_one op.Sign (number (fraction (negsuc 6) 3)) ≡ Ok (number (fraction (negsuc 0) 1)))
    × (row_of_one op.Sign (number (fraction (pos 170141183460469231731687303715884105727) 1)) ≡ Ok (number (fraction (pos 1) 1)))
    × (row_of_one op.Sign (number (fraction (negsuc 170141183460469231731687303715884105726) 1)) ≡ Ok (number (fraction (negsuc 0) 1)))
    × (row_of_one op.Sign (number (fraction (negsuc 9223372036854775806) 2)) ≡ Ok (number (fraction (negsuc 0) 1)))
unfolding ratio gcd gcd_within
sign_rows = (refl, refl, refl, refl, refl, refl, refl, refl, refl, refl)

floor_rows :
    (row_of_one op.Floor (number (fraction (pos 0) 1)) ≡ Ok (number (fraction (pos 0) 1)))
    × (row_of_one op.Floor (number (fraction (pos 1) 2)) ≡ Ok (number (fraction (pos 0) 1)))
    × (row_of_one op.Floor (number (fraction (negsuc 0) 2)) ≡ Ok (number (fraction (negsuc 0) 1)))
    × (row_of_one op.Floor (number (fraction (pos 3) 2)) ≡ Ok (number (fraction (pos 1) 1)))
    × (row_of_one op.Floor (number (fraction (negsuc 2) 2)) ≡ Ok (number (fraction (negsuc 1) 1)))
    × (row_of_one op.Floor (number (fraction (pos 2) 3)) ≡ Ok (number (fraction (pos 0) 1)))
    × (row_of_one op.Floor (number (fraction (negsuc 6) 3)) ≡ Ok (number (fraction (negsuc 2) 1)))
    × (row_of_one op.Floor (number (fraction (pos 170141183460469231731687303715884105727) 1)) ≡ Ok (number (fraction (pos 170141183460469231731687303715884105727) 1)))
    × (row_of_one op.Floor (number (fraction (negsuc 170141183460469231731687303715884105726) 1)) ≡ Ok (number (fraction (negsuc 170141183460469231731687303715884105726) 1)))
    × (row_of_one op.Floor (number (fraction (negsuc 9223372036854775806) 2)) ≡ Ok (number (fraction (negsuc 4611686018427387903) 1)))
unfolding ratio gcd gcd_within
floor_rows = (refl, refl, refl, refl, refl, refl, refl, refl, refl, refl)

ceiling_rows :
    (row_of_one op.Ceiling (number (fraction (pos 0) 1)) ≡ Ok (number (fraction (pos 0) 1)))
    × (row_of_one op.Ceiling (number (fraction (pos 1) 2)) ≡ Ok (number (fraction (pos 1) 1)))
    × (row_of_one op.Ceiling (number (fraction (negsuc 0) 2)) ≡ Ok (number (fraction (pos 0) 1)))
    × (row_of_one op.Ceiling (number (fraction (pos 3) 2)) ≡ Ok (number (fraction (pos 2) 1)))
    × (row_of_one op.Ceiling (number (fraction (negsuc 2) 2)) ≡ Ok (number (fraction (negsuc 0) 1)))
    × (row_of_one op.Ceiling (number (fraction (pos 2) 3)) ≡ Ok (number (fraction (pos 1) 1)))
    × (row_of_one op.Ceiling (number (fraction (negsuc 6) 3)) ≡ Ok (number (fraction (negsuc 1) 1)))
    × (row_of_one op.Ceiling (number (fraction (pos 170141183460469231731687303715884105727) 1)) ≡ Ok (number (fraction (pos 170141183460469231731687303715884105727) 1)))
    × (row_of_one op.Ceiling (number (fraction (negsuc 170141183460469231731687303715884105726) 1)) ≡ Ok (number (fraction (negsuc 170141183460469231731687303715884105726) 1)))
    × (row_of_one op.Ceiling (number (fraction (negsuc 9223372036854775806) 2)) ≡ Ok (number (fraction (negsuc 4611686018427387902) 1)))
unfolding ratio gcd gcd_within
ceiling_rows = (refl, refl, refl, refl, refl, refl, refl, refl, refl, refl)

round_rows :
    (row_of_one op.Round (number (fraction (pos 0) 1)) ≡ Ok (number (fraction (pos 0) 1)))
    × (row_of_one op.Round (number (fraction (pos 1) 2)) ≡ Ok (number (fraction (pos 1) 1)))
    × (row_of_one op.Round (number (fraction (negsuc 0) 2)) ≡ Ok (number (fraction (pos 0) 1)))
    × (row_of_one op.Round (number (fraction (pos 3) 2)) ≡ Ok (number (fraction (pos 2) 1)))
    × (row_of_one op.Round (number (fraction (negsuc 2) 2)) ≡ Ok (number (fraction (negsuc 0) 1)))
    × (row_of_one op.Round (number (fraction (pos 2) 3)) ≡ Ok (number (fraction (pos 1) 1)))
    × (row_of_one op.Round (number (fraction (negsuc 6) 3)) ≡ Ok (number (fraction (negsuc 1) 1)))
    × (row_of_one op.Round (number (fraction (pos 170141183460469231731687303715884105727) 1)) ≡ Ok (number (fraction (pos 170141183460469231731687303715884105727) 1)))
    × (row_of_one op.Round (number (fraction (negsuc 170141183460469231731687303715884105726) 1)) ≡ Ok (number (fraction (negsuc 170141183460469231731687303715884105726) 1)))
    × (row_of_one op.Round (number (fraction (negsuc 9223372036854775806) 2)) ≡ Ok (number (fraction (negsuc 4611686018427387902) 1)))
unfolding ratio gcd gcd_within
round_rows = (refl, refl, refl, refl, refl, refl, refl, refl, refl, refl)

add_rows :
    (row_of_two op.Add (number (fraction (pos 1) 3)) (number (fraction (pos 1) 6)) ≡ Ok (number (fraction (pos 1) 2)))
    × (row_of_two op.Add (number (fraction (pos 1) 1)) (number (fraction (pos 2) 1)) ≡ Ok (number (fraction (pos 3) 1)))
    × (row_of_two op.Add (number (fraction (pos 1) 2)) (number (fraction (pos 1) 2)) ≡ Ok (number (fraction (pos 1) 1)))
    × (row_of_two op.Add (number (fraction (negsuc 0) 1)) (number (fraction (pos 1) 1)) ≡ Ok (number (fraction (pos 0) 1)))
    × (row_of_two op.Add (number (fraction (pos 170141183460469231731687303715884105727) 1)) (number (fraction (pos 0) 1)) ≡ Ok (number (fraction (pos 170141183460469231731687303715884105727) 1)))
    × (row_of_two op.Add (number (fraction (pos 170141183460469231731687303715884105727) 1)) (number (fraction (pos 1) 1)) ≡ Err fault.Overflow)
    × (row_of_two op.Add (number (fraction (negsuc 170141183460469231731687303715884105726) 1)) (number (fraction (negsuc 0) 1)) ≡ Err fault.Overflow)
    × (row_of_two op.Add (number (fraction (pos 170141183460469231731687303715884105727) 1)) (number (fraction (pos 1) 2)) ≡ Err fault.Overflow)
    × (row_of_two op.Add (number (fraction (pos 9223372036854775807) 1)) (number (fraction (pos 1) 2)) ≡ Err fault.Overflow)
    × (row_of_two op.Add (number (fraction (pos 9223372036854775807) 2)) (number (fraction (pos 1) 2)) ≡ Ok (number (fraction (pos 4611686018427387904) 1)))
    × (row_of_two op.Add (number (fraction (pos 1) 9223372036854775807)) (number (fraction (pos 1) 9223372036854775806)) ≡ Err fault.Overflow)
    × (row_of_two op.Add (number (fraction (pos 1) 2)) (number (fraction (negsuc 0) 3)) ≡ Ok (number (fraction (pos 1) 6)))
unfolding ratio gcd gcd_within
add_rows = (refl, refl, refl, refl, refl, refl, refl, refl, refl, refl, refl, refl)

subtract_rows :
    (row_of_two op.Subtract (number (fraction (pos 1) 3)) (number (fraction (pos 1) 6)) ≡ Ok (number (fraction (pos 1) 6)))
    × (row_of_two op.Subtract (number (fraction (pos 1) 1)) (number (fraction (pos 2) 1)) ≡ Ok (number (fraction (negsuc 0) 1)))
    × (row_of_two op.Subtract (number (fraction (pos 170141183460469231731687303715884105727) 1)) (number (fraction (negsuc 0) 1)) ≡ Err fault.Overflow)
    × (row_of_two op.Subtract (number (fraction (negsuc 170141183460469231731687303715884105726) 1)) (number (fraction (pos 1) 1)) ≡ Err fault.Overflow)
    × (row_of_two op.Subtract (number (fraction (pos 1) 2)) (number (fraction (pos 1) 2)) ≡ Ok (number (fraction (pos 0) 1)))
    × (row_of_two op.Subtract (number (fraction (pos 1) 2)) (number (fraction (pos 2) 3)) ≡ Ok (number (fraction (negsuc 0) 6)))
    × (row_of_two op.Subtract (number (fraction (pos 170141183460469231731687303715884105727) 1)) (number (fraction (pos 170141183460469231731687303715884105727) 1)) ≡ Ok (number (fraction (pos 0) 1)))
unfolding ratio gcd gcd_within
subtract_rows = (refl, refl, refl, refl, refl, refl, refl)

multiply_rows :
    (row_of_two op.Multiply (number (fraction (pos 1) 9223372036854775807)) (number (fraction (pos 9223372036854775807) 2)) ≡ Ok (number (fraction (pos 1) 2)))
    × (row_of_two op.Multiply (number (fraction (pos 1) 2)) (number (fraction (pos 2) 1)) ≡ Ok (number (fraction (pos 1) 1)))
    × (row_of_two op.Multiply (number (fraction (pos 170141183460469231731687303715884105727) 1)) (number (fraction (pos 1) 1)) ≡ Ok (number (fraction (pos 170141183460469231731687303715884105727) 1)))
    × (row_of_two op.Multiply (number (fraction (pos 170141183460469231731687303715884105727) 1)) (number (fraction (pos 2) 1)) ≡ Err fault.Overflow)
    × (row_of_two op.Multiply (number (fraction (pos 170141183460469231731687303715884105727) 1)) (number (fraction (negsuc 0) 1)) ≡ Ok (number (fraction (negsuc 170141183460469231731687303715884105726) 1)))
    × (row_of_two op.Multiply (number (fraction (pos 2) 3)) (number (fraction (negsuc 2) 2)) ≡ Ok (number (fraction (negsuc 0) 1)))
    × (row_of_two op.Multiply (number (fraction (pos 0) 1)) (number (fraction (pos 170141183460469231731687303715884105727) 1)) ≡ Ok (number (fraction (pos 0) 1)))
    × (row_of_two op.Multiply (number (fraction (pos 1) 4294967296)) (number (fraction (pos 1) 2147483648)) ≡ Err fault.Overflow)
    × (row_of_two op.Multiply (number (fraction (pos 1) 4294967296)) (number (fraction (pos 1) 1073741824)) ≡ Ok (number (fraction (pos 1) 4611686018427387904)))
unfolding ratio gcd gcd_within
multiply_rows = (refl, refl, refl, refl, refl, refl, refl, refl, refl)

divide_rows :
    (row_of_two op.Divide (number (fraction (pos 1) 1)) (number (fraction (pos 3) 1)) ≡ Ok (number (fraction (pos 1) 3)))
    × (row_of_two op.Divide (number (fraction (pos 6) 1)) (number (fraction (pos 3) 1)) ≡ Ok (number (fraction (pos 2) 1)))
    × (row_of_two op.Divide (number (fraction (pos 1) 1)) (number (fraction (pos 0) 1)) ≡ Err fault.DivisionByZero)
    × (row_of_two op.Divide (number (fraction (pos 0) 1)) (number (fraction (pos 0) 1)) ≡ Err fault.DivisionByZero)
    × (row_of_two op.Divide (number (fraction (pos 0) 1)) (number (fraction (pos 5) 1)) ≡ Ok (number (fraction (pos 0) 1)))
    × (row_of_two op.Divide (number (fraction (negsuc 0) 1)) (number (fraction (pos 2) 1)) ≡ Ok (number (fraction (negsuc 0) 2)))
    × (row_of_two op.Divide (number (fraction (pos 170141183460469231731687303715884105727) 1)) (number (fraction (pos 2) 1)) ≡ Err fault.Overflow)
    × (row_of_two op.Divide (number (fraction (pos 1) 2)) (number (fraction (pos 1) 2)) ≡ Ok (number (fraction (pos 1) 1)))
    × (row_of_two op.Divide (number (fraction (pos 1) 1)) (number (fraction (pos 1) 9223372036854775807)) ≡ Ok (number (fraction (pos 9223372036854775807) 1)))
    × (row_of_two op.Divide (number (fraction (pos 170141183460469231731687303715884105727) 1)) (number (fraction (pos 1) 2)) ≡ Err fault.Overflow)
    × (row_of_two op.Divide (number (fraction (pos 1) 1)) (number (fraction (pos 9223372036854775807) 1)) ≡ Ok (number (fraction (pos 1) 9223372036854775807)))
    × (row_of_two op.Divide (number (fraction (pos 1) 1)) (number (fraction (pos 9223372036854775808) 1)) ≡ Err fault.Overflow)
    × (row_of_two op.Divide (number (fraction (pos 7) 1)) (number (fraction (negsuc 6) 1)) ≡ Ok (number (fraction (negsuc 0) 1)))
unfolding ratio gcd gcd_within
divide_rows = (refl, refl, refl, refl, refl, refl, refl, refl, refl, refl, refl, refl, refl)

power_rows :
    (row_of_two op.Power (number (fraction (pos 2) 1)) (number (fraction (negsuc 0) 1)) ≡ Ok (number (fraction (pos 1) 2)))
    × (row_of_two op.Power (number (fraction (pos 0) 1)) (number (fraction (pos 0) 1)) ≡ Ok (number (fraction (pos 1) 1)))
    × (row_of_two op.Power (number (fraction (pos 0) 1)) (number (fraction (pos 5) 1)) ≡ Ok (number (fraction (pos 0) 1)))
    × (row_of_two op.Power (number (fraction (pos 0) 1)) (number (fraction (negsuc 0) 1)) ≡ Err fault.DivisionByZero)
    × (row_of_two op.Power (number (fraction (pos 2) 1)) (number (fraction (pos 1) 2)) ≡ Err fault.NotWhole)
    × (row_of_two op.Power (number (fraction (pos 1) 2)) (number (fraction (pos 2) 1)) ≡ Ok (number (fraction (pos 1) 4)))
    × (row_of_two op.Power (number (fraction (negsuc 1) 1)) (number (fraction (pos 3) 1)) ≡ Ok (number (fraction (negsuc 7) 1)))
    × (row_of_two op.Power (number (fraction (negsuc 1) 1)) (number (fraction (pos 2) 1)) ≡ Ok (number (fraction (pos 4) 1)))
    × (row_of_two op.Power (number (fraction (pos 2) 1)) (number (fraction (pos 126) 1)) ≡ Ok (number (fraction (pos 85070591730234615865843651857942052864) 1)))
    × (row_of_two op.Power (number (fraction (pos 2) 1)) (number (fraction (pos 127) 1)) ≡ Err fault.Overflow)
    × (row_of_two op.Power (number (fraction (negsuc 1) 1)) (number (fraction (pos 127) 1)) ≡ Err fault.Overflow)
    × (row_of_two op.Power (number (fraction (pos 1) 2)) (number (fraction (pos 62) 1)) ≡ Ok (number (fraction (pos 1) 4611686018427387904)))
    × (row_of_two op.Power (number (fraction (pos 1) 2)) (number (fraction (pos 63) 1)) ≡ Err fault.Overflow)
    × (row_of_two op.Power (number (fraction (pos 2) 3)) (number (fraction (negsuc 1) 1)) ≡ Ok (number (fraction (pos 9) 4)))
    × (row_of_two op.Power (number (fraction (negsuc 0) 1)) (number (fraction (pos 5) 1)) ≡ Ok (number (fraction (negsuc 0) 1)))
    × (row_of_two op.Power (number (fraction (pos 1) 1)) (number (fraction (pos 170141183460469231731687303715884105727) 1)) ≡ Ok (number (fraction (pos 1) 1)))
    × (row_of_two op.Power (number (fraction (pos 0) 1)) (number (fraction (pos 1) 2)) ≡ Err fault.NotWhole)
    × (row_of_two op.Power (number (fraction (pos 10) 1)) (number (fraction (pos 38) 1)) ≡ Ok (number (fraction (pos 100000000000000000000000000000000000000) 1)))
    × (row_of_two op.Power (number (fraction (pos 10) 1)) (number (fraction (pos 39) 1)) ≡ Err fault.Overflow)
    × (row_of_two op.Power (number (fraction (negsuc 0) 2)) (number (fraction (negsuc 2) 1)) ≡ Ok (number (fraction (negsuc 7) 1)))
unfolding ratio gcd gcd_within
power_rows = (refl, refl, refl, refl, refl, refl, refl, refl, refl, refl, refl, refl, refl, refl, refl, refl, refl, refl, refl, refl)

round_to_rows :
    (row_of_two op.RoundTo (number (fraction (pos 2) 1)) (number (fraction (pos 2) 3)) ≡ Ok (number (fraction (pos 67) 100)))
    × (row_of_two op.RoundTo (number (fraction (pos 0) 1)) (number (fraction (pos 1) 2)) ≡ Ok (number (fraction (pos 1) 1)))
    × (row_of_two op.RoundTo (number (fraction (pos 0) 1)) (number (fraction (negsuc 0) 2)) ≡ Ok (number (fraction (pos 0) 1)))
    × (row_of_two op.RoundTo (number (fraction (pos 1) 1)) (number (fraction (pos 1) 4)) ≡ Ok (number (fraction (pos 3) 10)))
    × (row_of_two op.RoundTo (number (fraction (negsuc 0) 1)) (number (fraction (pos 15) 1)) ≡ Ok (number (fraction (pos 20) 1)))
    × (row_of_two op.RoundTo (number (fraction (negsuc 0) 1)) (number (fraction (pos 14) 1)) ≡ Ok (number (fraction (pos 10) 1)))
    × (row_of_two op.RoundTo (number (fraction (negsuc 0) 1)) (number (fraction (negsuc 14) 1)) ≡ Ok (number (fraction (negsuc 9) 1)))
    × (row_of_two op.RoundTo (number (fraction (pos 1) 2)) (number (fraction (pos 1) 1)) ≡ Err fault.NotWhole)
    × (row_of_two op.RoundTo (number (fraction (pos 3) 1)) (number (fraction (pos 1) 3)) ≡ Ok (number (fraction (pos 333) 1000)))
    × (row_of_two op.RoundTo (number (fraction (pos 18) 1)) (number (fraction (pos 1) 3)) ≡ Ok (number (fraction (pos 333333333333333333) 1000000000000000000)))
    × (row_of_two op.RoundTo (number (fraction (pos 19) 1)) (number (fraction (pos 1) 3)) ≡ Err fault.Overflow)
    × (row_of_two op.RoundTo (number (fraction (pos 38) 1)) (number (fraction (pos 1) 4)) ≡ Ok (number (fraction (pos 1) 4)))
    × (row_of_two op.RoundTo (number (fraction (pos 50) 1)) (number (fraction (pos 1) 2)) ≡ Ok (number (fraction (pos 1) 2)))
    × (row_of_two op.RoundTo (number (fraction (negsuc 1) 1)) (number (fraction (pos 149) 1)) ≡ Ok (number (fraction (pos 100) 1)))
    × (row_of_two op.RoundTo (number (fraction (negsuc 1) 1)) (number (fraction (pos 150) 1)) ≡ Ok (number (fraction (pos 200) 1)))
    × (row_of_two op.RoundTo (number (fraction (negsuc 39) 1)) (number (fraction (pos 170141183460469231731687303715884105727) 1)) ≡ Ok (number (fraction (pos 0) 1)))
    × (row_of_two op.RoundTo (number (fraction (pos 2) 1)) (number (fraction (pos 5) 1)) ≡ Ok (number (fraction (pos 5) 1)))
    × (row_of_two op.RoundTo (number (fraction (negsuc 37) 1)) (number (fraction (pos 170141183460469231731687303715884105727) 1)) ≡ Err fault.Overflow)
    × (row_of_two op.RoundTo (number (fraction (negsuc 36) 1)) (number (fraction (pos 170141183460469231731687303715884105727) 1)) ≡ Ok (number (fraction (pos 170000000000000000000000000000000000000) 1)))
    × (row_of_two op.RoundTo (number (fraction (pos 19) 1)) (number (fraction (pos 564199706126066489) 288230376151711744)) ≡ Ok (number (fraction (pos 1957460950712206247) 1000000000000000000)))
unfolding ratio gcd gcd_within
round_to_rows = (refl, refl, refl, refl, refl, refl, refl, refl, refl, refl, refl, refl, refl, refl, refl, refl, refl, refl, refl, refl)

modulo_rows :
    (row_of_two op.Modulo (number (fraction (negsuc 6) 1)) (number (fraction (pos 3) 1)) ≡ Ok (number (fraction (pos 2) 1)))
    × (row_of_two op.Modulo (number (fraction (pos 7) 1)) (number (fraction (pos 3) 1)) ≡ Ok (number (fraction (pos 1) 1)))
    × (row_of_two op.Modulo (number (fraction (pos 7) 1)) (number (fraction (negsuc 2) 1)) ≡ Ok (number (fraction (negsuc 1) 1)))
    × (row_of_two op.Modulo (number (fraction (negsuc 6) 1)) (number (fraction (negsuc 2) 1)) ≡ Ok (number (fraction (negsuc 0) 1)))
    × (row_of_two op.Modulo (number (fraction (pos 7) 1)) (number (fraction (pos 0) 1)) ≡ Err fault.DivisionByZero)
    × (row_of_two op.Modulo (number (fraction (pos 7) 2)) (number (fraction (pos 2) 1)) ≡ Ok (number (fraction (pos 3) 2)))
    × (row_of_two op.Modulo (number (fraction (pos 1) 1)) (number (fraction (pos 1) 3)) ≡ Ok (number (fraction (pos 0) 1)))
    × (row_of_two op.Modulo (number (fraction (pos 1) 2)) (number (fraction (pos 1) 3)) ≡ Ok (number (fraction (pos 1) 6)))
    × (row_of_two op.Modulo (number (fraction (pos 170141183460469231731687303715884105727) 1)) (number (fraction (pos 1) 2)) ≡ Ok (number (fraction (pos 0) 1)))
    × (row_of_two op.Modulo (number (fraction (pos 170141183460469231731687303715884105727) 1)) (number (fraction (pos 1) 3)) ≡ Ok (number (fraction (pos 0) 1)))
    × (row_of_two op.Modulo (number (fraction (negsuc 0) 2)) (number (fraction (pos 170141183460469231731687303715884105727) 1)) ≡ Err fault.Overflow)
    × (row_of_two op.Modulo (number (fraction (pos 1) 2)) (number (fraction (pos 170141183460469231731687303715884105727) 1)) ≡ Ok (number (fraction (pos 1) 2)))
    × (row_of_two op.Modulo (number (fraction (pos 0) 1)) (number (fraction (pos 5) 1)) ≡ Ok (number (fraction (pos 0) 1)))
unfolding ratio gcd gcd_within
modulo_rows = (refl, refl, refl, refl, refl, refl, refl, refl, refl, refl, refl, refl, refl)
