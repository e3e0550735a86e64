use Rattle.abc_clauses.proofs.LawsOf.{laws_of}
use Rattle.abc_clauses.proofs.Sayings.{alternative_found, alternative_told}
use Rattle.abc_clauses.proofs.laws.computed_alternative.Goals as goal

pub returns : goal.returns
returns c own kinds commands text line head beside =
    let laws = laws_of c.computed_expression.ensures c.computed_single.ensures c.computed_address.ensures c.computed_test.ensures c.displays_read_back.ensures.computed own in
    (λ p. alternative_found own laws kinds commands text p, λ e. alternative_told own laws kinds commands text line (head, beside) e)
