use Rattle.abc_value.proofs.printed.LongDivision.{IsWritten}
use Rattle.abc_value.proofs.numeral.push_decimals.Given as goal

abbrev pub invariant-loop : goal.invariant-loop
invariant-loop l = IsWritten l.fn.bytes.items l.bytes.items l.top l.bottom l.rest l.counter
