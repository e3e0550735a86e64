use Rattle.std.proofs.Common.{ap, ◌∙◌, nat_lt}
use Rattle.std.specs.Ordering.{is_eq}
use Rattle.abc_value.specs.Order.{order}
use Rattle.abc_value.specs.Items.{elements_of}
use Rattle.abc_predef.proofs.Halves.{any_is}
use Rattle.abc_predef.proofs.trains.contains.Goals as goal

pub returns-in-List : goal.returns-in-List
returns-in-List c = ap (nat_lt 0) c.count.ensures ∙ any_is (λ x. is_eq (order x c.args.e.now)) (elements_of c.args.t.now)
