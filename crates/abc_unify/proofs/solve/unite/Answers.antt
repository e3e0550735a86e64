use Rattle.std.proofs.Common.{◌≡◌, ap, arith}
use Rattle.abc_unify.specs.declared.kind.Constraint.TheVariants.{Equal}
use Rattle.abc_unify.proofs.Steps.{instead, spare, of_roots, of_roots_turned}
use Rattle.abc_unify.proofs.solve.unite.Goals as goal

pub returns-then-of_a-of_b-clause-solutions : goal.returns-then-of_a-of_b-clause-solutions
returns-then-of_a-of_b-clause-solutions c =
    instead _ _ (Equal c.args.a c.args.b) (Equal c.find-of_b.result c.find-of_a.result) _ _ (of_roots_turned _ _ _ _ _ c.find-of_a.ensures.same c.find-of_b.ensures.same) c.in_ok-link.ensures.solutions

pub returns-then-of_b-of_a-clause-solutions : goal.returns-then-of_b-of_a-clause-solutions
returns-then-of_b-of_a-clause-solutions c =
    instead _ _ (Equal c.args.a c.args.b) (Equal c.find-of_a.result c.find-of_b.result) _ _ (of_roots _ _ _ _ _ c.find-of_a.ensures.same c.find-of_b.ensures.same) c.in_ok-link-2.ensures.solutions

pub returns-clause-solutions : goal.returns-clause-solutions
returns-clause-solutions c =
    let one : c.find-of_a.result.0 ≡ c.find-of_b.result.0 = omega arith in
    spare _ _ (Equal c.args.a c.args.b) (λ v m. (of_roots _ _ _ _ _ c.find-of_a.ensures.same c.find-of_b.ensures.same v m).1 (ap v one))
