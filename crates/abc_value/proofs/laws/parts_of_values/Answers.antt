use Rattle.abc_value.proofs.trees.Lower.{part_lower, key_lower}
use Rattle.abc_value.proofs.forms.ShapeLooks.{part_falls}
use Rattle.abc_value.proofs.laws.parts_of_values.Goals as goal

pub returns : goal.returns
returns c = record { parts = part_lower; keys = key_lower; shapes = part_falls }
