-- The spelling of a number, and its value.
use Rattle.std.specs.Prelude.{◌≡◌, ◌≢◌, ◌⊎◌, ℕ, ◌+◌, ◌-◌, ◌*◌, ◌^◌, ◌<◌, ◌≤◌, List, [], ◌∷◌, ◌++◌, length, All, nat_eq, if◌then◌else◌}
use Rattle.std.specs.Int.{IsGcd}

-- the code of a digit, 0 to 9
abbrev pub IsDigit : ℕ → Type 0
IsDigit c = (48 ≤ c) × (c ≤ 57)

-- the code of the point
abbrev pub point : ℕ
point = 46

-- one or more digits
abbrev pub IsDigits : List ℕ → Type 0
IsDigits b = (b ≢ []) × All IsDigit b

-- no digit or some, a point, one or more digits
abbrev pub HasPoint : List ℕ → Type 0
HasPoint b = (whole : List ℕ) × (decimals : List ℕ) × (b ≡ whole ++ (point ∷ decimals)) × All IsDigit whole × IsDigits decimals

-- a number token: digits with at most one point, which has digits behind it
abbrev pub IsNumberToken : List ℕ → Type 0
IsNumberToken b = IsDigits b ⊎ HasPoint b

-- each digit counts ten to the power of how many stand behind it
abbrev pub digits_value : List ℕ → ℕ
digits_value [] = 0
digits_value (c ∷ cs) = (c - 48) * 10 ^ length cs + digits_value cs

-- what stands in front of the point, all where there is none
abbrev pub in_front : List ℕ → List ℕ
in_front [] = []
in_front (c ∷ cs) = if nat_eq c point then [] else c ∷ in_front cs

-- what stands behind the point, nothing where there is none
abbrev pub behind : List ℕ → List ℕ
behind [] = []
behind (c ∷ cs) = if nat_eq c point then cs else behind cs

-- the value of a number token is its digits as a whole number over a ten for each digit behind the point
abbrev pub literal_numerator : List ℕ → ℕ
literal_numerator b = digits_value (in_front b) * 10 ^ length (behind b) + digits_value (behind b)

abbrev pub literal_denominator : List ℕ → ℕ
literal_denominator b = 10 ^ length (behind b)

-- top / bottom is the fraction that these decimals spell, in lowest terms, with a denominator of at most 63 bits
pub record SpellsFraction (b : List ℕ) (top bottom : ℕ) : Type 0 where
  pub lowest : IsGcd top bottom 1
  pub proper : top < bottom
  pub bottom_fits : bottom < 2 ^ 63
  pub value : top * 10 ^ length b ≡ digits_value b * bottom
