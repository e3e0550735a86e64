use Rattle.std.proofs.Common.{refl}
use Rattle.abc_formula.proofs.PredicateLaws.{call_form}
use Rattle.abc_formula.proofs.test_laws.predicate_forms.Goals as goal

pub returns : goal.returns
returns c own d f actuals ts rest plain end p = call_form p f actuals refl plain end
