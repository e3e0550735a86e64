use Rattle.std.proofs.Common.{arith}
use Rattle.abc_value.proofs.trees.Making.{regular_sizes}
use Rattle.abc_value.proofs.sizes.entry_weight.Goals as goal

pub overflow_add-result : goal.overflow_add-result
overflow_add-result c =
    let k = regular_sizes c.args.entry.now.key c.weight.ensures.regular in
    let a = regular_sizes c.args.entry.now.associate c.weight-2.ensures.regular in
    omega (arith, k.1, a.1, c.weight.ensures.weight, c.weight-2.ensures.weight)

pub returns-clause-bound : goal.returns-clause-bound
returns-clause-bound c =
    let k = regular_sizes c.args.entry.now.key c.weight.ensures.regular in
    let a = regular_sizes c.args.entry.now.associate c.weight-2.ensures.regular in
    omega (arith, k.1, a.1, c.weight.ensures.weight, c.weight-2.ensures.weight)
