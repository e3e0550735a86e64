use Rattle.abc_num.proofs.Decimal.{AreDecimals}
use Rattle.abc_num.proofs.rounding.decimals_of.Given as goal

abbrev pub invariant-loop : goal.invariant-loop
invariant-loop l = AreDecimals l.top l.bottom l.decimals.digits l.decimals.rest l.decimals.power l.counter
