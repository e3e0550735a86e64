use Rattle.std.proofs.Common.{[], subst, sym}
use Rattle.abc_unify.specs.inner.States.{IsKept}
use Rattle.abc_unify.specs.inner.Naming.{AreNoted}
use Rattle.abc_unify.proofs.Undoing.{nothing_kept}
use Rattle.abc_unify.proofs.Noting.{nothing_noted}
use Rattle.abc_unify.proofs.state.State.new.Goals as goal

pub returns-clause-kept : goal.returns-clause-kept
returns-clause-kept c =
    let slots = c.new.result.items in
    let log = c.new-2.result.items in
    let demands = c.new-3.result.items in
    let history = c.new-4.result.items in
    let named = c.new-5.result.items in
    record {
      kept = subst (λ x. IsKept x log demands history) (sym c.new.ensures.items) (subst (λ x. IsKept [] x demands history) (sym c.new-2.ensures.items) (subst (λ x. IsKept [] [] x history) (sym c.new-3.ensures.items) (subst (λ x. IsKept [] [] [] x) (sym c.new-4.ensures.items) nothing_kept)));
      noted = subst (λ x. AreNoted x log named) (sym c.new.ensures.items) (subst (λ x. AreNoted [] x named) (sym c.new-2.ensures.items) (subst (λ x. AreNoted [] [] x) (sym c.new-5.ensures.items) nothing_noted));
    }
