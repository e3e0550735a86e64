use Rattle.std.proofs.Common.{ap, subst, ◌∙◌}
use Rattle.abc_frames.specs.Maps.{IsRising, value_at, without_at}
use Rattle.abc_state.proofs.Restoring.{name_again, name_back}
use Rattle.abc_state.proofs.run.CallNames.take.Goals as goal

pub returns-clause-again : goal.returns-clause-again
returns-clause-again c = λ v.
    name_again c.args.name c.args.self.now c.remove.new.self.entries v (subst IsRising c.self.view_is c.len-count.ensures.ordered) (c.remove.ensures.entries ∙ ap (without_at c.args.name) c.self.view_is)

pub returns-clause-back : goal.returns-clause-back
returns-clause-back c =
    name_back c.args.name c.remove.result c.args.self.now (subst IsRising c.self.view_is c.len-count.ensures.ordered) (c.remove.ensures.value ∙ ap (value_at c.args.name) c.self.view_is)
