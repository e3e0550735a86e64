-- The results of the operations on numbers, computed: abc_num says the same by relations, and the functions of numbers.rt
-- show that both agree.
use Rattle.std.specs.Prelude.{suc, ◌*◌, ◌^◌, ℤ, pos, negsuc, ◌+ℤ◌, ◌-ℤ◌, ◌*ℤ◌, neg_ℤ, unsigned_abs, Bool, false, nat_eq, if◌then◌else◌, Option, None, Some, Result, Ok, Err}
use Rattle.std.specs.Int.{int_pow, int_signum}
use Rattle.abc_num.specs.declared.number.NumFault.{NumFault}
use Rattle.abc_num.specs.declared.number.NumFault.TheVariants.{DivisionByZero, NotWhole}
use Rattle.abc_num.specs.Number.{Fraction, fraction, whole_number, whole_of}
use Rattle.abc_num.specs.Ratio.{ratio}
use Rattle.abc_num.specs.Rounding.{floor_of, floor_mod, nearest_of}

abbrev pub sum_of : Fraction → Fraction → Result Fraction NumFault
sum_of x y = ratio (x.numerator *ℤ pos y.denominator +ℤ y.numerator *ℤ pos x.denominator) (pos (x.denominator * y.denominator))

abbrev pub difference_of : Fraction → Fraction → Result Fraction NumFault
difference_of x y = ratio (x.numerator *ℤ pos y.denominator -ℤ y.numerator *ℤ pos x.denominator) (pos (x.denominator * y.denominator))

abbrev pub product_of : Fraction → Fraction → Result Fraction NumFault
product_of x y = ratio (x.numerator *ℤ y.numerator) (pos (x.denominator * y.denominator))

abbrev pub is_zero : ℤ → Bool
is_zero (pos n) = nat_eq n 0
is_zero (negsuc n) = false

abbrev pub unless_zero : ℤ → Result Fraction NumFault → Result Fraction NumFault
unless_zero divisor answer = if is_zero divisor then Err DivisionByZero else answer

abbrev pub quotient_of : Fraction → Fraction → Result Fraction NumFault
quotient_of x y = unless_zero y.numerator (ratio (x.numerator *ℤ pos y.denominator) (y.numerator *ℤ pos x.denominator))

-- x - y * floor(x / y): the rest over the common denominator
abbrev pub rest_of : Fraction → Fraction → Result Fraction NumFault
rest_of x y = unless_zero y.numerator (ratio (floor_mod (x.numerator *ℤ pos y.denominator) (y.numerator *ℤ pos x.denominator)) (pos (x.denominator * y.denominator)))

-- x to a whole number; a negative power of 0 divides by zero
abbrev pub whole_power : Fraction → ℤ → Result Fraction NumFault
whole_power x (pos n) = ratio (int_pow x.numerator n) (pos (x.denominator ^ n))
whole_power x (negsuc n) = unless_zero x.numerator (ratio (pos (x.denominator ^ suc n)) (int_pow x.numerator (suc n)))

abbrev pub power_to : Fraction → Option ℤ → Result Fraction NumFault
power_to x None = Err NotWhole
power_to x (Some n) = whole_power x n

abbrev pub power_of : Fraction → Fraction → Result Fraction NumFault
power_of x n = power_to x (whole_of n)

-- x to n decimal places, and to a ten, a hundred and so on for a negative n: floor(x * 10^n + 1/2) / 10^n
abbrev pub whole_rounding : Fraction → ℤ → Result Fraction NumFault
whole_rounding x (pos n) = ratio (nearest_of (x.numerator *ℤ pos (10 ^ n)) x.denominator) (pos (10 ^ n))
whole_rounding x (negsuc n) = ratio (nearest_of x.numerator (x.denominator * 10 ^ suc n) *ℤ pos (10 ^ suc n)) (pos 1)

abbrev pub rounding_to : Fraction → Option ℤ → Result Fraction NumFault
rounding_to x None = Err NotWhole
rounding_to x (Some n) = whole_rounding x n

abbrev pub rounding_of : Fraction → Fraction → Result Fraction NumFault
rounding_of n x = rounding_to x (whole_of n)

-- the results that there always are
abbrev pub negative_of : Fraction → Fraction
negative_of x = fraction (neg_ℤ x.numerator) x.denominator

abbrev pub size_of : Fraction → Fraction
size_of x = fraction (pos (unsigned_abs x.numerator)) x.denominator

-- -1, 0 or 1
abbrev pub sign_of : Fraction → Fraction
sign_of x = whole_number (int_signum x.numerator)

abbrev pub floor_number : Fraction → Fraction
floor_number x = whole_number (floor_of x.numerator x.denominator)

abbrev pub ceiling_number : Fraction → Fraction
ceiling_number x = whole_number (neg_ℤ (floor_of (neg_ℤ x.numerator) x.denominator))

abbrev pub nearest_number : Fraction → Fraction
nearest_number x = whole_number (nearest_of x.numerator x.denominator)
