use Rattle.std.proofs.lemmas.Result.{err_from_is_err_and}
use Rattle.abc_acts.proofs.changing.change_whole.Goals as goal

pub returns-in_err-insert-in-Inserts : goal.returns-in_err-insert-in-Inserts
returns-in_err-insert-in-Inserts c = λ missing.
    let p = err_from_is_err_and c.from_residual.result c.from_residual.ensures.1 in
    rw (c.in-Inserts.is, p.1, p.2) (c.in_err-insert-in-Inserts.ensures missing)

pub returns-in_ok-insert-in-Inserts : goal.returns-in_ok-insert-in-Inserts
returns-in_ok-insert-in-Inserts c = λ missing. rw c.in-Inserts.is (c.in_ok-insert-in-Inserts.ensures missing)

pub returns-in_err-remove-in-Removes : goal.returns-in_err-remove-in-Removes
returns-in_err-remove-in-Removes c = λ missing.
    let p = err_from_is_err_and c.from_residual-in_err-remove-in-Removes.result c.from_residual-in_err-remove-in-Removes.ensures.1 in
    rw (c.in-Removes.is, p.1, p.2) (c.in_err-remove-in-Removes.ensures missing)

pub returns-in_ok-remove-in-Removes : goal.returns-in_ok-remove-in-Removes
returns-in_ok-remove-in-Removes c = λ missing. rw c.in-Removes.is (c.in_ok-remove-in-Removes.ensures missing)
