use Rattle.abc_clauses.proofs.LawsOf.{laws_of}
use Rattle.abc_clauses.proofs.Commands.{simple_found, simple_told}
use Rattle.abc_clauses.proofs.laws.computed_simple.Goals as goal

pub returns : goal.returns
returns c own kinds commands text line node =
    let laws = laws_of c.computed_expression.ensures c.computed_single.ensures c.computed_address.ensures c.computed_test.ensures c.displays_read_back.ensures.computed own in
    (λ p. simple_found own laws kinds commands text p, λ e. simple_told own laws kinds commands text line node e)
