use Rattle.std.proofs.Common.{◌+◌, map, ap, arith}
use Rattle.std.specs.List.{between}
use Rattle.abc_value.specs.Tree.{pairs}
use Rattle.abc_value.specs.Sizes.{pairs_height}
use Rattle.abc_value.specs.View.{as_pair}
use Rattle.abc_value.proofs.trees.Making.{regular_sizes}
use Rattle.abc_value.proofs.tables.Heights.{others_are}
use Rattle.abc_value.proofs.sizes.tallest_other.Goals as goal

pub overflow_add-here : goal.overflow_add-here
overflow_add-here c = let s = regular_sizes c.index.result.now.key c.height-here.ensures.regular in omega (arith, s.0, c.height-here.ensures.height)

pub returns : goal.returns
returns c =
    let others = others_are c.args.entries.now c.args.place c.index.result.now c.requires c.index.ensures in
    let behind = ap (λ n. pairs_height (pairs (map as_pair (between (c.args.place + 1) n c.args.entries.now)))) c.len-end.ensures in
    omega (arith, others, behind, c.height-here.ensures.height)
