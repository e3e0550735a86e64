-- The line that ends a reply, in plain words.
use Rattle.std.specs.Prelude.{◌≡◌, ◌⊎◌, ◌↔◌, ℕ, List, [], ◌∷◌, ◌++◌}
use Rattle.std.specs.List.{AllByRecursion}
use Rattle.abc_make.specs.Summary.{reply_line}

-- a line begins behind these bytes: there are none, or an LF is the last of them
abbrev pub EndsALine : List ℕ → Type 0
EndsALine front = (front ≡ []) ⊎ ((before : List ℕ) × (front ≡ before ++ 10 ∷ []))

-- no LF is among these bytes
abbrev pub HasNoLf : List ℕ → Type 0
HasNoLf text = AllByRecursion (λ b. (b ≡ 10) → ⊥) text

-- The last line of a reply: it begins where a line ends, or where the reply begins, and goes to the end of the reply; an LF stands nowhere
-- in it but maybe at its end. It is empty only where the reply is.
pub record IsLastLine (reply line : List ℕ) : Type 0 where
  pub front : List ℕ
  pub text : List ℕ
  pub end : List ℕ
  pub whole : reply ≡ front ++ line
  pub begins : EndsALine front
  pub is : line ≡ text ++ end
  pub one : HasNoLf text
  pub ends : (end ≡ []) ⊎ (end ≡ 10 ∷ [])
  pub some : line ≡ [] → reply ≡ []

-- the line that is found is the last one, and there is no other
abbrev pub LastLineIsFound : Type 0
LastLineIsFound = (reply line : List ℕ) → IsLastLine reply line ↔ (line ≡ reply_line reply)
