use Rattle.std.proofs.Common.{◌∙◌, sym, refl}
use Rattle.abc_outline.proofs.NameKinds.{found_kinds, no_kinds}
use Rattle.abc_outline.proofs.kinds.tell_kind.Goals as goal

pub returns-in-Some : goal.returns-in-Some
returns-in-Some c behind b =
    found_kinds c.args.refinement.now behind c.args.names.now c.in-Some.i c.args.kinds.now _ c.find.ensures.different (sym c.in-Some.is ∙ c.find.ensures.number) b refl

pub returns-in_default : goal.returns-in_default
returns-in_default c behind b = no_kinds c.args.refinement.now behind c.args.names.now c.args.kinds.now c.find.ensures.different (sym c.in_default.is ∙ c.find.ensures.number) b
