use Rattle.std.proofs.Common.{ap, ◌∙◌, arith}
use Rattle.abc_value.specs.Tree.{trees}
use Rattle.abc_value.specs.Sizes.{trees_height}
use Rattle.abc_value.proofs.sizes.height_without.Goals as goal

pub tallest-requires : goal.tallest-requires
tallest-requires c = omega (arith, c.requires, ap (λ xs. trees_height (trees xs)) c.items.ensures)

pub returns : goal.returns
returns c = c.tallest.ensures ∙ ap (λ xs. trees_height (trees xs)) c.items.ensures
