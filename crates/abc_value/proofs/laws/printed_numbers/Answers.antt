use Rattle.abc_value.proofs.printed.FiniteDecimals.{decimals_are_exact, decimals_are_fewest, quotients_have_no_decimals}
use Rattle.abc_value.proofs.laws.printed_numbers.Goals as goal

pub returns-clause-exact : goal.returns-clause-exact
returns-clause-exact c = decimals_are_exact

pub returns-clause-fewest : goal.returns-clause-fewest
returns-clause-fewest c = decimals_are_fewest

pub returns-clause-quotients : goal.returns-clause-quotients
returns-clause-quotients c = quotients_have_no_decimals
