-- Marks that are kept as stamps above the base of a search.
use Rattle.std.specs.Prelude.{ℕ, ◌+◌, ◌-◌, ◌≤◌, ◌^◌, List, map}
use Rattle.std.specs.List.{All}

-- the marks that the stamps stand for: how far each is above the base
abbrev pub marks_of : ℕ → List ℕ → List ℕ
marks_of base stamps = map (λ s. s - base) stamps

-- no stamp is above the last one, and there is room for a search above it
pub record IsStamped (base last : ℕ) (stamps : List ℕ) : Type 0 where
  pub below : All (λ s. s ≤ last) stamps
  pub few : base ≤ 2 ^ 62
  pub room : last ≤ 2 ^ 62 + 2 ^ 40
