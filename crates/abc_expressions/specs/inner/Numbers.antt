-- The value of a number token, computed.
use Rattle.std.specs.Prelude.{ℕ, pos, List, Option}
use Rattle.std.specs.Result.{result_ok}
use Rattle.abc_num.specs.Literal.{literal_numerator, literal_denominator}
use Rattle.abc_num.specs.Number.{Fraction}
-- the division that the operations on numbers have too; rows above compute by it
unfoldable pub use Rattle.abc_num.specs.Ratio.{gcd_within, gcd, ratio}

unfoldable pub number_at : List ℕ → Option Fraction
number_at bytes = result_ok (ratio (pos (literal_numerator bytes)) (pos (literal_denominator bytes)))
