use Rattle.std.proofs.Common.{◌≡◌, ◌↔◌, List, Bool, true, false, sym, subst}
use Rattle.std.specs.Prelude.{IfOk, IsTrue}
use Rattle.abc_ground.specs.Groups.{Cut}
use Rattle.abc_ground.specs.Typable.{Values, IsTypable}
use Rattle.abc_check.specs.Standing.{StandsFor}
use Rattle.abc_check.specs.declared.checker.Checker.{Checker as TheChecker}
use Rattle.abc_check.proofs.checker.Checker.fits.Goals as goal

pub returns-in-Typable-clause-exact : goal.returns-in-Typable-clause-exact
returns-in-Typable-clause-exact c =
    subst (λ (x : TheChecker). IfOk c.fits.result (λ (yes : Bool). (w : List Cut) → StandsFor x w → (IsTrue yes ↔ IsTypable c.args.targets.now w))) (sym c.in-Typable.is) c.fits.ensures.exact

pub returns-in-Untypable-clause-exact : goal.returns-in-Untypable-clause-exact
returns-in-Untypable-clause-exact c = λ w stands.
    let never : (values : Values) → IsTypable values w → ⊥ = subst (λ (x : TheChecker). StandsFor x w) c.in-Untypable.is stands in
    (λ yes. let f : false ≡ true = yes in cc, λ typable. absurd (never c.args.targets.now typable))
