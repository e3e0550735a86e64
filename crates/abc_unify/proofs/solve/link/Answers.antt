use Rattle.std.proofs.Common.{◌≡◌}
use Rattle.abc_unify.proofs.Steps.{link_keeps}
use Rattle.abc_unify.proofs.solve.link.Goals as goal

pub returns-clause-solutions : goal.returns-clause-solutions
returns-clause-solutions c =
    let same : c.in_ok-held.held ≡ c.kind_at.result.now = c.in_ok-held.ensures in
    rw (c.in_ok-write.ensures.slots, c.in_ok-push.ensures.items, same) (link_keeps c.args.slots.now c.args.work.now.items c.args.high c.args.low c.kind_at.result.now c.requires.high c.kind_at.ensures)
