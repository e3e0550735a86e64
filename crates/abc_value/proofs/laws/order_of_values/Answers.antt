use Rattle.abc_value.proofs.ordering.OrderLaws.{order-refl, order-reverse, order-same, order-trans}
use Rattle.abc_value.proofs.laws.order_of_values.Goals as goal

pub returns : goal.returns
returns c = record { reflexive = order-refl; total = order-reverse; antisymmetric = order-same; transitive = order-trans }
