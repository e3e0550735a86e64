use Rattle.std.proofs.Common.{[], ◌∷◌, ◌++◌, None, ap, sym, ◌∙◌, length, ◌<◌, arith}
use Rattle.abc_outline.proofs.NameKinds.{none_more}
use Rattle.abc_outline.proofs.kinds.no_kinds.Goals as goal

pub loop-i-preserved : goal.loop-i-preserved
loop-i-preserved c =
    let less : c.loop-i.i < length c.args.names.now = grind (arith, c.loop-i-test.true, c.len-i-end.ensures.count) in
    c.in_ok-push.ensures.items ∙ ap (λ xs. xs ++ None ∷ []) c.loop-i.invariant ∙ sym (none_more c.args.names.now c.loop-i.i less)
