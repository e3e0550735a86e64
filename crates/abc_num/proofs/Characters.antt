-- The tests of characters tell what they are named for.
use Rattle.std.proofs.Common.{◌≡◌, ℕ, Bool, true, false, List, [], ◌∷◌, refl, arith}
use Rattle.std.specs.Prelude.{◌&&◌}
use Rattle.std.proofs.lemmas.Bool.Decides.{nat_tests}
use Rattle.abc_num.specs.Characters.{IsCharacter, AreCharacters, is_character, are_characters}

pub character_tested : (c : ℕ) → IsCharacter c → is_character c ≡ true
character_tested c h = grind (arith, nat_tests, h.0, h.1)

pub tested_character : (c : ℕ) → is_character c ≡ true → IsCharacter c
tested_character c h = (grind (arith, nat_tests), grind (arith, nat_tests))

pub characters_tested : (b : List ℕ) → AreCharacters b → are_characters b ≡ true
characters_tested [] h = refl
characters_tested (c ∷ b) h = let e = character_tested c h.0 in let f = characters_tested b h.1 in cc

behind : (b : List ℕ) (c : ℕ) (t : Bool) → is_character c ≡ t → (t && are_characters b) ≡ true → (are_characters b ≡ true → AreCharacters b) → AreCharacters (c ∷ b)
behind b c true f e k = (tested_character c f, k e)
behind b c false f e k = cc

pub tested_characters : (b : List ℕ) → are_characters b ≡ true → AreCharacters b
tested_characters [] h = tt
tested_characters (c ∷ b) h = behind b c (is_character c) refl h (tested_characters b)
