use Rattle.std.proofs.Common.{◌∙◌, sym}
use Rattle.std.proofs.lemmas.Result.{err_from_is_err_and}
use Rattle.abc_tokens.proofs.TokenLaws.{answer_tokens, answer_fault, answer_bad_number}
use Rattle.abc_tokens.proofs.scan.tokens.Goals as goal

pub returns-in_err-scan-clause-fault : goal.returns-in_err-scan-clause-fault
returns-in_err-scan-clause-fault c =
    let p = err_from_is_err_and c.from_residual-in_err-scan.result c.from_residual-in_err-scan.ensures.1 in
    rw (p.1, p.2) (answer_fault _ _ (sym c.has_characters.ensures ∙ c.if-not-has_characters.false) c.in_err-scan.ensures.fault)

pub returns-then-scan-clause-found : goal.returns-then-scan-clause-found
returns-then-scan-clause-found c =
    answer_tokens _ _ (sym c.has_characters.ensures ∙ c.if-not-has_characters.false) (rw c.if-scan.true at c.in_ok-scan.ensures.found)

pub returns-clause-fault : goal.returns-clause-fault
returns-clause-fault c =
    answer_bad_number _ _ (sym c.has_characters.ensures ∙ c.if-not-has_characters.false) (rw c.if-scan.false at c.in_ok-scan.ensures.found)
