use Rattle.std.proofs.Common.{◌++◌, ◌∷◌, [], ◌∙◌, sym, ap, append_assoc}
use Rattle.abc_groups.proofs.sorted.all_values.Goals as goal

pub loop-t-preserved : goal.loop-t-preserved
loop-t-preserved c =
    ap (λ all. all ++ c.next.new.self) (c.in_ok-push.ensures.ok ∙ ap (λ t. c.loop-t.all ++ t ∷ []) c.in_ok-copy.ensures) ∙ append_assoc c.loop-t.all (c.in-Some.t.now ∷ []) c.next.new.self
    ∙ ap (λ ts. c.loop-t.all ++ ts) (sym c.in-Some.ensures.steps) ∙ c.loop-t.invariant
