-- Whether the value of a number token is a number, computed.
use Rattle.std.specs.Prelude.{ℕ, pos, Bool, List}
use Rattle.std.specs.Result.{is_ok}
use Rattle.abc_num.specs.Literal.{literal_numerator, literal_denominator}
use Rattle.abc_num.specs.Ratio.{ratio}

-- a number token has a value
unfoldable pub has_value : List ℕ → Bool
has_value n = is_ok (ratio (pos (literal_numerator n)) (pos (literal_denominator n)))
