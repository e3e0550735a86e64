use Rattle.abc_expressions.proofs.AddressNumbers.{address_numbered}
use Rattle.abc_expressions.proofs.laws.address_numbers.Goals as goal

pub returns : goal.returns
returns c own d ts a p = address_numbered own d a ts p
