use Rattle.abc_value.proofs.ordering.Found.{element_there, there_element}
use Rattle.abc_value.proofs.laws.elements_are_found.Goals as goal

pub returns : goal.returns
returns c = λ e xs i r. (element_there e xs i r, there_element e xs)
