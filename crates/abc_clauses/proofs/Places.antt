-- Where a loop over tokens finds the place of a cut.
use Rattle.std.proofs.Common.{ℕ, ◌+◌, Option}
use Rattle.std.specs.Prelude.{option_map}

-- a place, counted from so many tokens before
abbrev pub shifted : ℕ → Option ℕ → Option ℕ
shifted n place = option_map (λ i. n + i) place
