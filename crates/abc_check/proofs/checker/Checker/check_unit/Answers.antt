use Rattle.std.proofs.Common.{◌≡◌, ◌∙◌, ◌≤◌, subst, sym, true, false}
use Rattle.abc_ground.specs.Groups.{with_cut}
use Rattle.abc_ground.specs.Typable.{IsTypable}
use Rattle.abc_check.specs.Cuts.{CutsAreSpelled}
use Rattle.abc_check.specs.declared.fault.CheckFault.TheVariants as fault
use Rattle.abc_check.proofs.checker.Checker.check_unit.Goals as goal

pub returns-then-branch-clause-ok : goal.returns-then-branch-clause-ok
returns-then-branch-clause-ok c =
    subst (λ n. CutsAreSpelled (with_cut c.args.unit.now n c.args.units.now) → IsTypable c.args.targets.now (with_cut c.args.unit.now n c.args.units.now)) c.in_ok-lines.ensures (λ spelled. (c.in_ok-fits_upto.ensures spelled).0 c.if-branch.true)

pub returns-else-branch-clause-fault : goal.returns-else-branch-clause-fault
returns-else-branch-clause-fault c = λ line e spelled one.
    let n = c.in_ok-lines.lines in
    let f : c.unit_fault.result ≡ fault.TypeFault line = cc in
    let no : IsTypable c.args.targets.now (with_cut c.args.unit.now n c.args.units.now) → ⊥ = λ p. let g : false ≡ true = sym c.if-branch.false ∙ (c.in_ok-fits_upto.ensures (spelled n)).1 p in cc in
    (c.unit_fault.ensures line f spelled (subst (λ k. 1 ≤ k) (sym c.in_ok-lines.ensures) one) no, subst (λ k. IsTypable c.args.targets.now (with_cut c.args.unit.now k c.args.units.now) → ⊥) c.in_ok-lines.ensures no)
