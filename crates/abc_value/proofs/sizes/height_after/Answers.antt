use Rattle.std.proofs.Common.{map, ap, ◌∙◌, arith}
use Rattle.abc_value.specs.Tree.{pairs}
use Rattle.abc_value.specs.Sizes.{pairs_height}
use Rattle.abc_value.specs.View.{as_pair}
use Rattle.abc_value.proofs.sizes.height_after.Goals as goal

pub tallest_entry-requires : goal.tallest_entry-requires
tallest_entry-requires c = omega (arith, c.requires.1, c.requires.2, ap (λ es. pairs_height (pairs (map as_pair es))) c.items.ensures)

pub returns : goal.returns
returns c = c.tallest_entry.ensures ∙ ap (λ es. pairs_height (pairs (map as_pair es))) c.items.ensures
