-- Things with the lines on which they stand.
use Rattle.std.specs.Prelude.{ℕ, List, map, filter, nat_le}

abbrev pub Lined : Type 0 → Type 0
Lined X = List (ℕ × X)

-- all of these, on one line
abbrev pub at : {X : Type 0} → ℕ → List X → Lined X
at line xs = map (λ x. (line, x)) xs

-- those on lines up to n
abbrev pub upto : {X : Type 0} → ℕ → Lined X → List X
upto n lined = map (λ x. x.1) (filter (λ x. nat_le x.0 n) lined)
