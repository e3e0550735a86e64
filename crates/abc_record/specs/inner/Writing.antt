-- What is written piece by piece.
use Rattle.std.specs.Prelude.{ℕ, List, ◌++◌}
use Rattle.abc_value.specs.Tree.{Tree}
use Rattle.abc_record.specs.Spelling.{spelled_value}

-- a key, and its associate
abbrev pub spelled_pair : Tree × Tree → List ℕ
spelled_pair p = spelled_value p.0 ++ spelled_value p.1
