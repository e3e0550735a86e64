use Rattle.std.proofs.Common.{◌≡◌, ◌∙◌, ap, sym, subst}
use Rattle.std.specs.Prelude.{Some}
use Rattle.abc_principal.specs.declared.principal.Principal.{Principal}
use Rattle.abc_principal.specs.Exact.{known_of, AreWhole}
use Rattle.abc_principal.specs.Principals.{IsWhole}
use Rattle.abc_principal.proofs.Knowing.{found_new, found_others, whole_new}
use Rattle.abc_principal.proofs.known.Principals.put.Goals as goal

pub returns-clause-same : goal.returns-clause-same
returns-clause-same c = found_new c.self.inside.entries.entries c.insert.new.self.entries c.args.text (Some c.args.p) c.in_ok-insert.ensures.updates.0

pub returns-clause-others : goal.returns-clause-others
returns-clause-others c = λ t n.
    found_others c.self.inside.entries.entries c.insert.new.self.entries c.args.text (Some c.args.p) c.in_ok-insert.ensures.updates.0 t n ∙ ap (λ es. known_of es t) c.self.view_is

pub invariant_of-self : goal.invariant_of-self
invariant_of-self c = subst AreWhole (sym c.in_err-insert.ensures.err) c.self.invariant

pub invariant_of-self-2 : goal.invariant_of-self-2
invariant_of-self-2 c =
    whole_new c.self.inside.entries.entries c.insert.new.self.entries c.args.text (Some c.args.p) c.in_ok-insert.ensures.updates.0 c.self.invariant (λ p e. same p e)
  where
    same : (p : Principal) → Some c.args.p ≡ Some p → IsWhole p
    same p e = let f : c.args.p ≡ p = cc in subst IsWhole f c.requires
