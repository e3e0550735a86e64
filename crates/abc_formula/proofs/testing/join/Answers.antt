use Rattle.std.proofs.Common.{◌∙◌, sym}
use Rattle.abc_formula.proofs.TestTurns.{rest_is, ends_joined}
use Rattle.abc_formula.proofs.testing.join.Goals as goal

pub returns-in_ok-push-in-And-clause-rest : goal.returns-in_ok-push-in-And-clause-rest
returns-in_ok-push-in-And-clause-rest c = rest_is c.args.rest.now c.rest_of.result.now c.rest_of.ensures c.requires

pub returns-in_ok-push-in-Or-clause-rest : goal.returns-in_ok-push-in-Or-clause-rest
returns-in_ok-push-in-Or-clause-rest c = rest_is c.args.rest.now c.rest_of-in-Or.result.now c.rest_of-in-Or.ensures c.requires

pub returns-in_ok-test-in-Ends-clause-joins : goal.returns-in_ok-test-in-Ends-clause-joins
returns-in_ok-test-in-Ends-clause-joins c next d =
    ends_joined c.args.frames.now c.args.place next d c.args.test c.in_ok-test-in-Ends.test c.args.rest.now (sym c.behind_of.ensures ∙ c.in-Ends.is) c.in_ok-test-in-Ends.ensures
