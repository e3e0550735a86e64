use Rattle.abc_principal.proofs.Freshness.{fresh_none, fresh_one}
use Rattle.abc_principal.proofs.fresh.fresh_result.Goals as goal

pub returns-in_ok-a-in-Function-clause-fresh : goal.returns-in_ok-a-in-Function-clause-fresh
returns-in_ok-a-in-Function-clause-fresh c = fresh_one c.args.g.now c.fresh.new.self c.in_ok-a-in-Function.a c.in_ok-a-in-Function.ensures.number c.in_ok-a-in-Function.ensures.ok

pub returns-in-Command-clause-fresh : goal.returns-in-Command-clause-fresh
returns-in-Command-clause-fresh c = fresh_none c.args.g.now

pub returns-in-Predicate-clause-fresh : goal.returns-in-Predicate-clause-fresh
returns-in-Predicate-clause-fresh c = fresh_none c.args.g.now
