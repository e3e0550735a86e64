use Rattle.std.proofs.Common.{◌∙◌, sym}
use Rattle.abc_outline.specs.LineNames.{ends_address}
use Rattle.abc_outline.proofs.Cuts.{first_none, first_some, first_within}
use Rattle.abc_outline.proofs.naming.up_to_example.Goals as goal

pub front-requires : goal.front-requires
front-requires c = first_within ends_address c.args.tokens.now c.in-Some.at (sym c.in-Some.is ∙ c.example_at.ensures)

pub returns-in-Some : goal.returns-in-Some
returns-in-Some c = first_some ends_address c.args.tokens.now c.in-Some.at c.front.result.now (sym c.in-Some.is ∙ c.example_at.ensures) c.front.ensures

pub returns-in-None : goal.returns-in-None
returns-in-None c = first_none ends_address c.args.tokens.now c.front-in-None.result.now (sym c.in-None.is ∙ c.example_at.ensures) c.front-in-None.ensures
