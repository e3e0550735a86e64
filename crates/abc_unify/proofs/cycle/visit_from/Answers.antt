use Rattle.abc_unify.proofs.Ranking.{visit_turns}
use Rattle.abc_unify.proofs.cycle.visit_from.Goals as goal

pub returns : goal.returns
returns c = visit_turns c.args.slots.now c.args.named.now c.args.marks.now c.visit.new.marks c.args.start c.in_ok-walk.walk c.in_ok-walk.ensures
