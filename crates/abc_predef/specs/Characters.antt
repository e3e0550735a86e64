-- The code of the character that names and texts are padded with, and that parts words.
use Rattle.std.specs.Prelude.{ℕ}

abbrev pub space : ℕ
space = 32
