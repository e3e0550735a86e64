use Rattle.abc_turns.proofs.Fronts.{fronts}
use Rattle.abc_turns.proofs.Unfolding.{unfolds, waits}
use Rattle.abc_turns.proofs.Using.{used_then, used_served}
use Rattle.abc_turns.proofs.laws.sessions.Goals as goal

pub returns-clause-fronts : goal.returns-clause-fronts
returns-clause-fronts g c = fronts

pub returns-clause-unfolds : goal.returns-clause-unfolds
returns-clause-unfolds g c = unfolds

pub returns-clause-waits : goal.returns-clause-waits
returns-clause-waits g c = waits

pub returns-clause-uses : goal.returns-clause-uses
returns-clause-uses g c = used_then

pub returns-clause-serves : goal.returns-clause-serves
returns-clause-serves g c next outcome k start work used turns said said_later p says ended left = used_served next outcome k start work used turns p ended left (Unit {0}) said said_later (λ any. says)
