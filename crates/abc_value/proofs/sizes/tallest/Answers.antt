use Rattle.std.proofs.Common.{◌+◌, max, ap, ◌∙◌, arith}
use Rattle.abc_value.proofs.trees.Making.{regular_sizes, front_height, taller}
use Rattle.abc_value.proofs.sizes.tallest.Goals as goal

pub overflow_add-height : goal.overflow_add-height
overflow_add-height c = let s = regular_sizes c.index.result.now c.height.ensures.regular in omega (arith, s.0, c.height.ensures.height)

pub loop-i-preserved : goal.loop-i-preserved
loop-i-preserved c =
    taller c.args.parts.now c.loop-i.i c.loop-i.height c.max-height.result c.index.result.now (omega arith) c.index.ensures c.loop-i.invariant
    (c.max-height.ensures ∙ ap (λ h. max c.loop-i.height (h + 1)) c.height.ensures.height)

pub returns-then-height-most : goal.returns-then-height-most
returns-then-height-most c =
    let now = taller c.args.parts.now c.loop-i.i c.loop-i.height c.max-height.result c.index.result.now (omega arith) c.index.ensures c.loop-i.invariant
    (c.max-height.ensures ∙ ap (λ h. max c.loop-i.height (h + 1)) c.height.ensures.height) in
    let front = front_height c.args.parts.now (c.loop-i.i + 1) in
    omega arith
