-- What a number is, and the order of numbers.
use Rattle.std.specs.Prelude.{◌≡◌, ◌≢◌, ℕ, ◌<◌, ◌≤◌, ◌^◌, ◌⊎◌, ℤ, pos, ◌*ℤ◌, neg_ℤ, Bool, true, false, unsigned_abs, Option, Some, None, if◌then◌else◌, nat_eq}
use Rattle.std.specs.Int.{IsGcd}
use Rattle.std.specs.declared.cmp.Ordering.{Ordering}
use Rattle.std.specs.Ordering.{int_cmp}

-- a numerator and a denominator, as contracts see a `Num`
pub record Fraction : Type 0 where
  pub numerator : ℤ
  pub denominator : ℕ

abbrev pub fraction : ℤ → ℕ → Fraction
fraction p q = record { numerator = p; denominator = q }

-- a whole number of at most 127 bits
abbrev pub IsWhole : Fraction → Type 0
IsWhole f = (f.denominator ≡ 1) × (unsigned_abs f.numerator < 2 ^ 127)

-- a fraction in lowest terms that is not whole, whose parts have at most 63 bits
abbrev pub IsProper : Fraction → Type 0
IsProper f =
    (2 ≤ f.denominator) × (f.denominator < 2 ^ 63) × (unsigned_abs f.numerator < 2 ^ 63) × IsGcd (unsigned_abs f.numerator) f.denominator 1

-- a number: whole, or a proper fraction
unfoldable pub IsNumber : Fraction → Type 0
IsNumber f = IsWhole f ⊎ IsProper f

-- the sizes of a number's numerator and denominator: `IsNumber` in other words, for the code
pub record AreParts (top bottom : ℕ) : Type 0 where
  pub lowest : IsGcd top bottom 1
  pub positive : 0 < bottom
  pub bottom_fits : bottom < 2 ^ 63
  pub top_fits : top < 2 ^ 127
  pub narrow : bottom ≢ 1 → top < 2 ^ 63

-- f has the value a / b
abbrev pub Equals : ℤ → ℤ → Fraction → Type 0
Equals a b f = f.numerator *ℤ b ≡ a *ℤ pos f.denominator

-- n, or -n
abbrev pub signed : Bool → ℕ → ℤ
signed false n = pos n
signed true n = neg_ℤ (pos n)

-- the whole number n
abbrev pub whole_number : ℤ → Fraction
whole_number n = fraction n 1

-- the whole number that f is, if it is one
abbrev pub whole_of : Fraction → Option ℤ
whole_of f = if nat_eq f.denominator 1 then Some f.numerator else None

-- by size: a / b against c / d as a * d against c * b
abbrev pub num_cmp : Fraction → Fraction → Ordering
num_cmp x y = int_cmp (x.numerator *ℤ pos y.denominator) (y.numerator *ℤ pos x.denominator)
