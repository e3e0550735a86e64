use Rattle.abc_expressions.proofs.AddressLaws.{spelled_address, address_spelled}
use Rattle.abc_expressions.proofs.laws.address_form.Goals as goal

pub returns : goal.returns
returns c own d a ts rest = (address_spelled own d a ts rest, λ p. spelled_address own d a ts rest p.0 p.1)
