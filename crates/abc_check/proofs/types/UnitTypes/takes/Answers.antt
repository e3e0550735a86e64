use Rattle.std.proofs.Common.{◌≡◌, ◌∙◌, true, false, ap, refl}
use Rattle.std.specs.Prelude.{Err}
use Rattle.abc_unify.specs.declared.graph.UnifyFault.{UnifyFault}
use Rattle.abc_check.proofs.Halving.{clash_tells}
use Rattle.abc_check.proofs.types.UnitTypes.takes.Goals as goal

pub returns-in-Ok-clause-exact : goal.returns-in-Ok-clause-exact
returns-in-Ok-clause-exact c = λ values w stands spelled. ((λ t. c.in-Ok.ensures.ok values w stands.units (spelled c.args.upto) stands.asked), λ h. refl)

pub returns-in-Err-clause-exact : goal.returns-in-Err-clause-exact
returns-in-Err-clause-exact c =
    clash_tells c.no_types.result c.in-Err.fault c.args.self.now c.args.command.now c.args.upto c.no_types.ensures
    (λ is values w stands spelled. (
      (λ t. let f : false ≡ true = t in cc),
      λ typable. absurd (c.ask-answer.ensures.clash (c.in-Err.is ∙ ap (λ (f : UnifyFault). Err f) is) values w stands.units (spelled c.args.upto) stands.asked typable),
    ))
