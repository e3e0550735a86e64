-- What the operations on numbers answer. A number is its numerator over its denominator.
use Rattle.std.specs.Prelude.{◌≡◌, ◌<ℤ◌, ℤ, pos, negsuc, suc, ◌*◌, ◌^◌, ◌+ℤ◌, ◌-ℤ◌, ◌*ℤ◌, Result}
use Rattle.std.specs.Int.{int_pow}
use Rattle.abc_num.specs.declared.number.NumFault.{NumFault}
use Rattle.abc_num.specs.Number.{Fraction}
use Rattle.abc_num.specs.Ratio.{IsRatio}
use Rattle.abc_num.specs.Rounding.{floor_mod, nearest_of}

-- x + y
abbrev pub IsSum : Fraction → Fraction → Result Fraction NumFault → Type 0
IsSum x y r = IsRatio (x.numerator *ℤ pos y.denominator +ℤ y.numerator *ℤ pos x.denominator) (pos (x.denominator * y.denominator)) r

-- x - y
abbrev pub IsDifference : Fraction → Fraction → Result Fraction NumFault → Type 0
IsDifference x y r = IsRatio (x.numerator *ℤ pos y.denominator -ℤ y.numerator *ℤ pos x.denominator) (pos (x.denominator * y.denominator)) r

-- x * y
abbrev pub IsProduct : Fraction → Fraction → Result Fraction NumFault → Type 0
IsProduct x y r = IsRatio (x.numerator *ℤ y.numerator) (pos (x.denominator * y.denominator)) r

-- x / y, for a y that is not 0
abbrev pub IsQuotient : Fraction → Fraction → Result Fraction NumFault → Type 0
IsQuotient x y r = IsRatio (x.numerator *ℤ pos y.denominator) (y.numerator *ℤ pos x.denominator) r

-- x - y * floor(x / y), for a y that is not 0: the rest over the common denominator
abbrev pub IsRest : Fraction → Fraction → Result Fraction NumFault → Type 0
IsRest x y r = IsRatio (floor_mod (x.numerator *ℤ pos y.denominator) (y.numerator *ℤ pos x.denominator)) (pos (x.denominator * y.denominator)) r

-- x to the n would divide by zero
abbrev pub DividesByZero : Fraction → ℤ → Type 0
DividesByZero x n = (x.numerator ≡ pos 0) × (n <ℤ pos 0)

-- x to the n, for a whole n, and not for 0 to a negative n
abbrev pub IsPower : Fraction → ℤ → Result Fraction NumFault → Type 0
IsPower x (pos n) r = IsRatio (int_pow x.numerator n) (pos (x.denominator ^ n)) r
IsPower x (negsuc n) r = IsRatio (pos (x.denominator ^ suc n)) (int_pow x.numerator (suc n)) r

-- x to n decimal places, and to a ten, a hundred and so on for a negative n: floor(x * 10^n + 1/2) / 10^n
abbrev pub IsRoundedTo : Fraction → ℤ → Result Fraction NumFault → Type 0
IsRoundedTo x (pos n) r = IsRatio (nearest_of (x.numerator *ℤ pos (10 ^ n)) x.denominator) (pos (10 ^ n)) r
IsRoundedTo x (negsuc n) r = IsRatio (nearest_of x.numerator (x.denominator * 10 ^ suc n) *ℤ pos (10 ^ suc n)) (pos 1) r
