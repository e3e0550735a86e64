-- What the inner functions do for the shape of a line.
use Rattle.std.specs.Prelude.{◌≡◌, ℕ, ◌≤◌, true, List, length, Option, Some, IfSome, slice_get}
use Rattle.abc_tokens.specs.declared.kinds.Token.{Token}
use Rattle.abc_tokens.specs.declared.shaping.Ends.{Ends}
use Rattle.abc_tokens.specs.Shape.{last, tokens_found}
use Rattle.abc_tokens.specs.inner.Reads.{found_from}

-- the token stands in the text
pub record IsWithin (text : List ℕ) (t : Token) : Type 0 where
  pub ordered : t.start ≤ t.end
  pub within : t.end ≤ length text

-- the first two of these tokens and the last one, which stand in the text
pub record AreEnds (text : List ℕ) (ts : List Token) (ends : Ends) : Type 0 where
  pub first : ends.first ≡ slice_get ts 0
  pub second : ends.second ≡ slice_get ts 1
  pub last_one : ends.last ≡ last ts
  pub first_within : IfSome ends.first (IsWithin text)
  pub second_within : IfSome ends.second (IsWithin text)
  pub last_within : IfSome ends.last (IsWithin text)

-- the ends of the tokens that the text has when it is read loosely
abbrev pub EndsFound : List ℕ → Ends → Type 0
EndsFound text ends = (ts : List Token) × (ns : List (List ℕ)) × (found_from true text 0 ≡ Some (ts, ns)) × AreEnds text ts ends

-- the first of the tokens that the text has when it is read loosely
abbrev pub IsFirstFound : List ℕ → Option Token → Type 0
IsFirstFound text first = first ≡ slice_get (tokens_found (found_from true text 0)) 0
