-- The spaces and tabs at the front of a line.
use Rattle.std.proofs.Common.{◌≡◌, ℕ, ◌*◌, ◌≤◌, List, length, drop}
use Rattle.abc_tokens.specs.Shape.{text_column, indentation, text_of}

-- where the front was read up to
pub record HasFront (line : List ℕ) (bytes columns : ℕ) : Type 0 where
  pub within : bytes ≤ length line
  pub narrow : columns ≤ 8 * bytes
  pub columns_left : text_column columns (drop bytes line) ≡ indentation line
  pub text_left : text_of (drop bytes line) ≡ text_of line
