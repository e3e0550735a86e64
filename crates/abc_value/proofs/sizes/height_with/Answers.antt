use Rattle.std.proofs.Common.{arith}
use Rattle.abc_value.proofs.trees.Making.{regular_sizes}
use Rattle.abc_value.proofs.tables.Heights.{whole_height}
use Rattle.abc_value.proofs.sizes.height_with.Goals as goal

pub overflow_add-gone : goal.overflow_add-gone
overflow_add-gone c = let s = regular_sizes c.index.result.now.associate c.height-gone.ensures.regular in omega (arith, s.0, c.height-gone.ensures.height)

pub returns-then-gone-was : goal.returns-then-gone-was
returns-then-gone-was c =
    let w = whole_height c.args.entries.now c.args.place c.index.result.now c.requires.place c.index.ensures in
    omega (arith, w, c.requires.height, c.height-gone.ensures.height, c.max.ensures)

pub returns-then-came-was : goal.returns-then-came-was
returns-then-came-was c =
    let w = whole_height c.args.entries.now c.args.place c.index.result.now c.requires.place c.index.ensures in
    omega (arith, w, c.requires.height, c.height-gone.ensures.height)
