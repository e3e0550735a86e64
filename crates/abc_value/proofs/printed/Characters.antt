-- What is made of characters is characters.
use Rattle.std.proofs.Common.{ℕ, zero, suc, List, [], ◌∷◌, ◌++◌, take, drop, Bool, true, false, ◌==◌, ◌||◌, if◌then◌else◌}
use Rattle.std.specs.List.{flat_map}
use Rattle.abc_value.specs.Regular.{IsCharacter, AreCharacters}
use Rattle.abc_value.specs.Printed.{doubled}

pub characters-append : (b c : List ℕ) → AreCharacters b → AreCharacters c → AreCharacters (b ++ c)
characters-append [] c h k = k
characters-append (x ∷ b) c h k = (h.0, characters-append b c h.1 k)

pub characters-drop : (n : ℕ) (b : List ℕ) → AreCharacters b → AreCharacters (drop n b)
characters-drop zero b h = h
characters-drop (suc n) [] h = tt
characters-drop (suc n) (x ∷ b) h = characters-drop n b h.1

pub characters-take : (n : ℕ) (b : List ℕ) → AreCharacters b → AreCharacters (take n b)
characters-take zero b h = tt
characters-take (suc n) [] h = tt
characters-take (suc n) (x ∷ b) h = (h.0, characters-take n b h.1)

doubled_characters : (c : ℕ) → IsCharacter c → AreCharacters (doubled c)
doubled_characters c h = at ((c == 34) || (c == 96))
  where
    at : (b : Bool) → AreCharacters (if b then c ∷ c ∷ [] else c ∷ [])
    at true = (h, (h, tt))
    at false = (h, tt)

pub characters-doubled : (b : List ℕ) → AreCharacters b → AreCharacters (flat_map doubled b)
characters-doubled [] h = tt
characters-doubled (c ∷ b) h = characters-append (doubled c) (flat_map doubled b) (doubled_characters c h.0) (characters-doubled b h.1)
