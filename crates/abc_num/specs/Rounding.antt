-- Whole numbers near a quotient.
use Rattle.std.specs.Prelude.{ℕ, ℤ, pos, negsuc, neg_ℤ, suc, ◌*◌, ◌/◌, ◌+ℤ◌, ◌-ℤ◌, ◌*ℤ◌, Bool, nat_lt, nat_le, if◌then◌else◌}

-- the greatest whole number that is at most a / b, for a positive b
abbrev pub floor_of : ℤ → ℕ → ℤ
floor_of (pos a) b = pos (a / b)
floor_of (negsuc a) b = negsuc (a / b)

-- the greatest whole number that is at most a / b, for a b that is not 0
abbrev pub floor_ratio : ℤ → ℤ → ℤ
floor_ratio a (pos b) = floor_of a b
floor_ratio a (negsuc b) = floor_of (neg_ℤ a) (suc b)

-- what is left of a when floor(a / b) times b is taken away
abbrev pub floor_mod : ℤ → ℤ → ℤ
floor_mod a b = a -ℤ floor_ratio a b *ℤ b

-- the whole number nearest to a / b, the greater one of two: floor(a / b + 1/2)
abbrev pub nearest_of : ℤ → ℕ → ℤ
nearest_of a b = floor_of (pos 2 *ℤ a +ℤ pos b) (2 * b)

-- whether the whole number further from 0 is the nearest, by the rest over b: half goes up
abbrev pub away_of : Bool → ℕ → ℕ → Bool
away_of negative rest b = if negative then nat_lt b (2 * rest) else nat_le b (2 * rest)
