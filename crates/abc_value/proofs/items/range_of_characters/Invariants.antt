use Rattle.std.proofs.Common.{◌≡◌}
use Rattle.abc_value.specs.Items.{characters_from}
use Rattle.abc_value.proofs.items.range_of_characters.Given as goal

abbrev pub invariant-loop-k : goal.invariant-loop-k
invariant-loop-k l = l.items ≡ characters_from l.first l.k
