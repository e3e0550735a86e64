use Rattle.std.proofs.Common.{◌∙◌, ap, refl}
use Rattle.std.specs.Prelude.{Err}
use Rattle.abc_unify.specs.declared.graph.UnifyFault.{UnifyFault}
use Rattle.abc_check.proofs.Accepting.{typable_of}
use Rattle.abc_check.proofs.Linewise.{clash_denies}
use Rattle.abc_check.proofs.types.UnitTypes.fits.Goals as goal

pub returns-in-Ok-clause-exact : goal.returns-in-Ok-clause-exact
returns-in-Ok-clause-exact c = λ w knows. ((λ t. typable_of c.hold_values-answer.new.graph.demands c.hold_values-answer.new.vars c.args.targets.now w (c.in-Ok.ensures.ok w knows.asked) c.count-count.ensures.solvable), λ h. refl)

pub returns-in-Err-clause-exact : goal.returns-in-Err-clause-exact
returns-in-Err-clause-exact c =
    clash_denies c.no_types.result c.in-Err.fault c.args.self.now c.args.targets.now c.no_types.ensures (λ is w knows typable. c.hold_values-answer.ensures.clash (c.in-Err.is ∙ ap (λ (f : UnifyFault). Err f) is) w knows.asked typable)
