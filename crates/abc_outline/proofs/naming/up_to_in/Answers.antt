use Rattle.std.proofs.Common.{◌∙◌, sym}
use Rattle.abc_outline.specs.LineNames.{is_in}
use Rattle.abc_outline.proofs.Cuts.{first_none, first_some, first_within}
use Rattle.abc_outline.proofs.naming.up_to_in.Goals as goal

pub front-requires : goal.front-requires
front-requires c = first_within is_in c.args.tokens.now c.in-Some.at (sym c.in-Some.is ∙ c.in_at.ensures)

pub returns-in-Some : goal.returns-in-Some
returns-in-Some c = first_some is_in c.args.tokens.now c.in-Some.at c.front.result.now (sym c.in-Some.is ∙ c.in_at.ensures) c.front.ensures

pub returns-in-None : goal.returns-in-None
returns-in-None c = first_none is_in c.args.tokens.now c.front-in-None.result.now (sym c.in-None.is ∙ c.in_at.ensures) c.front-in-None.ensures
