-- A list of different texts, numbered from 0.
use Rattle.std.specs.Prelude.{◌≢◌, ℕ, List, [], ◌∷◌, ◌++◌, Option, position, if◌then◌else◌}
use Rattle.std.specs.List.{AllPairs, list_any}
use Rattle.abc_num.specs.Text.{text_eq}

-- no text stands twice
abbrev pub AreDifferent : List (List ℕ) → Type 0
AreDifferent names = AllPairs (λ s t. s ≢ t) names

-- the number of a text, if it is there
abbrev pub number_of : List (List ℕ) → List ℕ → Option ℕ
number_of names t = position (text_eq t) names

-- the list with a text, which goes last if it is new
abbrev pub with_name : List (List ℕ) → List ℕ → List (List ℕ)
with_name names t = if list_any (text_eq t) names then names else names ++ t ∷ []
