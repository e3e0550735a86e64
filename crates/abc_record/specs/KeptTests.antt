-- Which names and lines have a spelling, as tests.
use Rattle.std.specs.Prelude.{ℕ, Bool, true, false, not, ◌&&◌, ◌||◌, ◌==◌, nat_le, List, [], ◌∷◌, length}
use Rattle.abc_num.specs.Characters.{are_characters}
use Rattle.abc_num.specs.declared.limits.TheConstants.{MOST_LINE_BYTES}
use Rattle.abc_tokens.specs.Bytes.{is_small, point, space, begins}
use Rattle.abc_tokens.specs.Words.{goes_on}

-- the rest of a name: what a name goes on with, and points that stand between two such characters
abbrev pub goes_on_with : List ℕ → Bool
goes_on_with [] = false
goes_on_with (b ∷ bytes) = goes_on is_small b || ((b == point) && begins (goes_on is_small) bytes)

unfoldable pub is_tail : List ℕ → Bool
is_tail [] = true
is_tail (b ∷ bytes) = goes_on_with (b ∷ bytes) && is_tail bytes

-- a small letter, and the rest
unfoldable pub is_name : List ℕ → Bool
is_name [] = false
is_name (b ∷ bytes) = is_small b && is_tail bytes

-- a name, which a line has room for
abbrev pub is_kept_name : List ℕ → Bool
is_kept_name name = is_name name && nat_le (length name) MOST_LINE_BYTES

-- the first byte is no space
abbrev pub is_flush : List ℕ → Bool
is_flush [] = true
is_flush (b ∷ bytes) = not (b == space)

-- characters, no more than a line may have, that don't begin with a space
abbrev pub is_kept_line : List ℕ → Bool
is_kept_line text = are_characters text && (nat_le (length text) MOST_LINE_BYTES && is_flush text)
