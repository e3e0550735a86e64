use Rattle.std.proofs.Common.{◌∙◌, sym, arith}
use Rattle.abc_outline.proofs.Cuts.{cut_none, cut_some, cut_within}
use Rattle.abc_outline.proofs.parts.first_part.Goals as goal

pub front-requires : goal.front-requires
front-requires c = let w = cut_within c.args.tokens.now c.in-Some.at (sym c.in-Some.is ∙ c.colon_at.ensures) in omega (arith, w)

pub overflow_add-at : goal.overflow_add-at
overflow_add-at c = let w = cut_within c.args.tokens.now c.in-Some.at (sym c.in-Some.is ∙ c.colon_at.ensures) in grind (arith, w)

pub rest-requires : goal.rest-requires
rest-requires c = let w = cut_within c.args.tokens.now c.in-Some.at (sym c.in-Some.is ∙ c.colon_at.ensures) in omega (arith, w)

pub returns-in-Some-clause-parts : goal.returns-in-Some-clause-parts
returns-in-Some-clause-parts c =
    cut_some c.args.tokens.now c.in-Some.at c.front.result.now c.rest.result.now (sym c.in-Some.is ∙ c.colon_at.ensures) c.front.ensures c.rest.ensures

pub returns-in-None-clause-parts : goal.returns-in-None-clause-parts
returns-in-None-clause-parts c = cut_none c.args.tokens.now c.args.tokens.now (sym c.in-None.is ∙ c.colon_at.ensures)
