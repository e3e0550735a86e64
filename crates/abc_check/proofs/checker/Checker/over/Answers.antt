use Rattle.std.proofs.Common.{List, ◌∙◌, ap, sym, subst}
use Rattle.std.specs.Prelude.{IfOk}
use Rattle.abc_tree.specs.Ordered.{RiseBy}
use Rattle.abc_ground.specs.Groups.{Cut, template_of}
use Rattle.abc_principal.specs.declared.member.Member.{Member}
use Rattle.abc_principal.specs.Exact.{cuts_of}
use Rattle.abc_check.specs.Cuts.{CutsAreSpelled}
use Rattle.abc_check.specs.Standing.{StandsFor}
use Rattle.abc_check.specs.declared.checker.Checker.{Checker as TheChecker}
use Rattle.abc_check.proofs.checker.Checker.over.Goals as goal

pub checker_of-requires : goal.checker_of-requires
checker_of-requires c = subst (λ (ms : List Member). RiseBy template_of (cuts_of ms)) (sym c.deref.ensures.value) c.in_ok-members.ensures.rising

pub returns-clause-stands : goal.returns-clause-stands
returns-clause-stands c =
    subst (λ (cs : List Cut). IfOk c.checker_of.result (λ (x : TheChecker). CutsAreSpelled cs → StandsFor x cs)) (ap cuts_of c.deref.ensures.value ∙ c.in_ok-members.ensures.cuts) c.checker_of.ensures.stands
