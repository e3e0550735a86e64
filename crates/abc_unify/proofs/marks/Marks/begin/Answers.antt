use Rattle.std.proofs.Common.{◌≤◌}
use Rattle.std.proofs.lemmas.List.Elements.{All-take}
use Rattle.abc_unify.proofs.Stamping.{none_above}
use Rattle.abc_unify.proofs.marks.Marks.begin.Goals as goal

pub returns-clause-none : goal.returns-clause-none
returns-clause-none c =
    let base = c.next_base-base.result in
    none_above base c.fill.new.stamps.items (c.fill.ensures.below base (rw c.truncate.ensures.items (All-take (λ s. s ≤ base) c.args.count c.next_base-base.new.stamps.items c.next_base-base.ensures.below)))
