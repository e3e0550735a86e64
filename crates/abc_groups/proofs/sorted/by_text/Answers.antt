use Rattle.std.proofs.Common.{◌∙◌}
use Rattle.abc_groups.proofs.Sorting.{by_text_next, by_text_none}
use Rattle.abc_groups.proofs.sorted.by_text.Goals as goal

pub loop-t-init : goal.loop-t-init
loop-t-init c = rw c.new-named.ensures.empty by_text_none

pub loop-t-preserved : goal.loop-t-preserved
loop-t-preserved c =
    by_text_next c.args.templates.now c.loop-t.t-index c.t-item.result c.loop-t.named.entries c.insert.new.self.entries c.from_vec-text.result c.in_ok-copy.field-0 c.loop-t-test.true c.t-item.is
    (c.from_vec-text.ensures ∙ c.in_ok-text.ensures) c.in_ok-copy.ensures c.in_ok-insert.ensures.entries c.loop-t.invariant
