use Rattle.abc_state.proofs.Restoring.{target_again, target_back, target_none}
use Rattle.abc_state.proofs.looking.take_target.Goals as goal

pub returns-clause-again : goal.returns-clause-again
returns-clause-again c = λ v. target_again c.drop_name.result c.args.target.now c.args.targets.now c.drop_name.new.self v c.len-count.ensures.rising c.drop_name.ensures.ok

pub returns-clause-back : goal.returns-clause-back
returns-clause-back c = target_back c.drop_name.result c.args.target.now c.args.targets.now c.len-count.ensures.rising c.drop_name.ensures.value

pub returns-clause-none : goal.returns-clause-none
returns-clause-none c = target_none c.drop_name.result c.args.target.now c.args.targets.now c.drop_name.new.self c.drop_name.ensures.value c.drop_name.ensures.ok
