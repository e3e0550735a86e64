-- The number that has a mathematical value, or that there is none.
use Rattle.std.specs.Prelude.{◌≡◌, ℕ, zero, suc, ◌^◌, ◌/◌, ◌%◌, ℤ, pos, negsuc, unsigned_abs, Bool, true, false, not, ◌&&◌, nat_eq, nat_lt, if◌then◌else◌, Result, Ok, Err, MatchResult}
use Rattle.abc_num.specs.declared.number.NumFault.{NumFault}
use Rattle.abc_num.specs.declared.number.NumFault.TheVariants.{Overflow}
use Rattle.abc_num.specs.Number.{Fraction, fraction, signed, IsNumber, Equals}

-- n is the number a / b
abbrev pub HasValue : ℤ → ℤ → Fraction → Type 0
HasValue a b n = IsNumber n × Equals a b n

-- no number is a / b
abbrev pub IsNoNumber : ℤ → ℤ → Type 0
IsNoNumber a b = (n : Fraction) → IsNumber n → ¬ (Equals a b n)

-- the number a / b, or Overflow where there is none
unfoldable pub IsRatio : ℤ → ℤ → Result Fraction NumFault → Type 0
IsRatio a b r = MatchResult r (HasValue a b) (λ fault. (fault ≡ Overflow) × IsNoNumber a b)

-- The same, computed. The greatest common divisor in so many turns: that of a and 0 is a, that of a and b is that of b and
-- the rest of a by b.
unfoldable pub gcd_within : ℕ → ℕ → ℕ → ℕ
gcd_within zero a b = a
gcd_within (suc turns) a zero = a
gcd_within (suc turns) a (suc b) = gcd_within turns (suc b) (a % suc b)

unfoldable pub gcd : ℕ → ℕ → ℕ
gcd a b = gcd_within (suc b) a b

-- whether a number may have these parts, which are in lowest terms
abbrev pub are_within : ℕ → ℕ → Bool
are_within top bottom = if nat_eq bottom 1 then nat_lt top (2 ^ 127) else (nat_lt top (2 ^ 63) && nat_lt bottom (2 ^ 63))

abbrev pub number_or_overflow : Bool → ℕ → ℕ → Result Fraction NumFault
number_or_overflow negative top bottom = if are_within top bottom then Ok (fraction (signed negative top) bottom) else Err Overflow

abbrev pub is_negative : ℤ → Bool
is_negative (pos n) = false
is_negative (negsuc n) = true

abbrev pub differ : Bool → Bool → Bool
differ true b = not b
differ false b = b

-- the number a / b in lowest terms, or Overflow where there is none
unfoldable pub ratio : ℤ → ℤ → Result Fraction NumFault
ratio a b =
    let common = gcd (unsigned_abs a) (unsigned_abs b) in
    number_or_overflow (differ (is_negative a) (is_negative b)) (unsigned_abs a / common) (unsigned_abs b / common)
