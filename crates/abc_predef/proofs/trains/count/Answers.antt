use Rattle.std.proofs.Common.{arith}
use Rattle.abc_value.specs.Items.{elements_of}
use Rattle.abc_predef.proofs.Halves.{sides_count}
use Rattle.abc_predef.proofs.trains.count.Goals as goal

pub overflow_sub-result : goal.overflow_sub-result
overflow_sub-result c = omega (arith, c.count_on.ensures.count, c.count_on-in-List.ensures.count, sides_count c.args.e.now (elements_of c.args.t.now))

pub returns-in-List : goal.returns-in-List
returns-in-List c = omega (arith, c.count_on.ensures.count, c.count_on-in-List.ensures.count, sides_count c.args.e.now (elements_of c.args.t.now))
