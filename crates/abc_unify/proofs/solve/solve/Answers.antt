use Rattle.abc_unify.proofs.Steps.{keeps_then}
use Rattle.abc_unify.proofs.Logging.{logged_then}
use Rattle.abc_unify.proofs.Shortening.{shortened_keeps}
use Rattle.abc_unify.proofs.solve.solve.Goals as goal

pub returns-in_err-shorten_written-in-Solved-clause-logged : goal.returns-in_err-shorten_written-in-Solved-clause-logged
returns-in_err-shorten_written-in-Solved-clause-logged c = logged_then _ _ _ _ _ _ c.solve_each.ensures.logged c.shorten_written.ensures.logged

pub returns-in_ok-shorten_written-in-Solved-clause-solutions : goal.returns-in_ok-shorten_written-in-Solved-clause-solutions
returns-in_ok-shorten_written-in-Solved-clause-solutions c =
    let solved = rw c.in-Solved.is at c.in_ok-solve_each.ensures.solutions in
    keeps_then _ _ _ _ _ _ solved (shortened_keeps _ _ _ c.in_ok-shorten_written-in-Solved.ensures.shortened)

pub returns-in_ok-shorten_written-in-Solved-clause-logged : goal.returns-in_ok-shorten_written-in-Solved-clause-logged
returns-in_ok-shorten_written-in-Solved-clause-logged c = logged_then _ _ _ _ _ _ c.solve_each.ensures.logged c.shorten_written.ensures.logged
