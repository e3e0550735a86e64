-- The bytes that tokens are made of.
use Rattle.std.specs.Prelude.{ℕ, Bool, false, ◌&&◌, ◌||◌, ◌==◌, nat_le, List, [], ◌∷◌}
-- a character of a line, 32 to 126
pub use Rattle.abc_num.specs.Characters.{is_character}

-- a to z
abbrev pub is_small : ℕ → Bool
is_small b = nat_le 97 b && nat_le b 122

-- A to Z
abbrev pub is_capital : ℕ → Bool
is_capital b = nat_le 65 b && nat_le b 90

-- 0 to 9
abbrev pub is_digit : ℕ → Bool
is_digit b = nat_le 48 b && nat_le b 57

-- " or '
abbrev pub is_quote : ℕ → Bool
is_quote b = (b == 34) || (b == 39)

abbrev pub space : ℕ
space = 32

-- what begins a comment
abbrev pub backslash : ℕ
backslash = 92

-- what begins and ends a conversion
abbrev pub backquote : ℕ
backquote = 96

abbrev pub point : ℕ
point = 46

-- whether the bytes begin with a byte of the class
abbrev pub begins : (ℕ → Bool) → List ℕ → Bool
begins class [] = false
begins class (b ∷ bytes) = class b
