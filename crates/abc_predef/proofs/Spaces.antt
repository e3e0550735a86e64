-- Texts with spaces beside them are characters.
use Rattle.std.proofs.Common.{ℕ, zero, suc, List, ◌++◌, arith}
use Rattle.std.specs.Prelude.{replicate}
use Rattle.abc_value.specs.Regular.{AreCharacters}
use Rattle.abc_value.proofs.printed.Characters.{characters-append}
use Rattle.abc_predef.specs.Aligned.{between_spaces}
use Rattle.abc_predef.specs.Characters.{space}

spaces : (n : ℕ) → AreCharacters (replicate n space)
spaces zero = tt
spaces (suc n) = ((omega arith, omega arith), spaces n)

pub between_characters : (m n : ℕ) (b : List ℕ) → AreCharacters b → AreCharacters (between_spaces m b n)
between_characters m n b h =
    characters-append (replicate m space ++ b) (replicate n space) (characters-append (replicate m space) b (spaces m) h) (spaces n)
