-- What a character of a text is.
use Rattle.std.specs.Prelude.{ℕ, ◌≤◌, Bool, ◌&&◌, nat_le, List}
use Rattle.std.specs.List.{AllByRecursion, list_all}
use Rattle.abc_num.specs.declared.limits.TheConstants.{FIRST_CHARACTER, LAST_CHARACTER}

-- the code of a character
abbrev pub IsCharacter : ℕ → Type 0
IsCharacter c = (FIRST_CHARACTER ≤ c) × (c ≤ LAST_CHARACTER)

abbrev pub AreCharacters : List ℕ → Type 0
AreCharacters b = AllByRecursion IsCharacter b

-- the same, as tests
abbrev pub is_character : ℕ → Bool
is_character c = nat_le FIRST_CHARACTER c && nat_le c LAST_CHARACTER

abbrev pub are_characters : List ℕ → Bool
are_characters b = list_all is_character b
