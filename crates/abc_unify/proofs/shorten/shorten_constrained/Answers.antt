use Rattle.abc_unify.proofs.Logging.{logged_then}
use Rattle.abc_unify.proofs.Shortening.{shortened_then}
use Rattle.abc_unify.proofs.shorten.shorten_constrained.Goals as goal

pub returns-in_err-shorten_parts-in-Is-clause-logged : goal.returns-in_err-shorten_parts-in-Is-clause-logged
returns-in_err-shorten_parts-in-Is-clause-logged c = logged_then _ _ _ _ _ _ c.shorten.ensures.logged c.shorten_parts.ensures.logged

pub returns-in_ok-shorten_parts-in-Is-clause-shortened : goal.returns-in_ok-shorten_parts-in-Is-clause-shortened
returns-in_ok-shorten_parts-in-Is-clause-shortened c = shortened_then _ _ _ c.in_ok-shorten-in-Is.ensures.shortened c.in_ok-shorten_parts-in-Is.ensures.shortened

pub returns-in_ok-shorten_parts-in-Is-clause-logged : goal.returns-in_ok-shorten_parts-in-Is-clause-logged
returns-in_ok-shorten_parts-in-Is-clause-logged c = logged_then _ _ _ _ _ _ c.shorten.ensures.logged c.shorten_parts.ensures.logged
