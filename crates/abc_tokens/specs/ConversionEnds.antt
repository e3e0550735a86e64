-- Where the conversion ends with which some bytes begin.
use Rattle.std.specs.Prelude.{◌≡◌, ℕ, suc, ◌<◌, true, List, length, take, drop, All}
use Rattle.abc_tokens.specs.Texts.{Converts}
use Rattle.abc_tokens.specs.Tokens.{IsSound, has_characters}

-- At the backquote of this number: the tokens before it, read from the front, leave it. All bytes before it are characters, and
-- each number among the tokens has a value.
abbrev pub EndsAt : List ℕ → ℕ → Type 0
EndsAt bytes n = (n < length bytes) × (has_characters (take n bytes) ≡ true) × ((ns : List (List ℕ)) × Converts bytes (drop (suc n) bytes) ns × All IsSound ns)
