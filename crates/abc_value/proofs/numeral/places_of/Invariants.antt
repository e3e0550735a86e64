use Rattle.abc_value.proofs.printed.LongDivision.{IsSearched}
use Rattle.abc_value.proofs.numeral.places_of.Given as goal

abbrev pub invariant-loop-count : goal.invariant-loop-count
invariant-loop-count l = IsSearched l.bottom l.rest l.count
