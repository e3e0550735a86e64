use Rattle.std.proofs.Common.{◌∙◌, ap}
use Rattle.abc_principal.specs.Exact.{known_of}
use Rattle.abc_principal.proofs.Knowing.{looked_up, whole_found}
use Rattle.abc_principal.proofs.known.Principals.find.Goals as goal

pub returns-clause-found : goal.returns-clause-found
returns-clause-found c = c.get.ensures.value ∙ (looked_up c.self.inside.entries.entries c.args.text.now ∙ ap (λ es. known_of es c.args.text.now) c.self.view_is)

pub returns-clause-whole : goal.returns-clause-whole
returns-clause-whole c =
    let es = c.self.inside.entries.entries in
    whole_found c.get.result es c.args.text.now c.self.invariant (c.get.ensures.value ∙ looked_up es c.args.text.now)
