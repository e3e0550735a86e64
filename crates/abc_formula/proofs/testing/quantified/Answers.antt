use Rattle.std.proofs.Common.{arith}
use Rattle.abc_formula.proofs.testing.quantified.Goals as goal

pub returns-in-Some-clause-rest : goal.returns-in-Some-clause-rest
returns-in-Some-clause-rest c =
    let fewer = c.in-Some.ensures.fewer c.in_ok-front.ensures.rest.1 in
    (omega (arith, fewer.0, c.in_ok-front.ensures.rest.0, c.in_ok-named.ensures.rest.0), fewer.1)
