use Rattle.abc_unify.proofs.Stamping.{none_marked}
use Rattle.abc_unify.proofs.cycle.find_cycle.Goals as goal

pub visit_all-requires-clause-marks : goal.visit_all-requires-clause-marks
visit_all-requires-clause-marks c = none_marked c.args.slots.now c.begin.new.self c.in_ok-begin.ensures.count c.in_ok-begin.ensures.none
