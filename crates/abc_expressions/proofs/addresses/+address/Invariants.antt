use Rattle.std.proofs.Common.{◌≡◌, drop, map}
use Rattle.abc_tree.specs.Regular.{is_address, every}
use Rattle.abc_expressions.proofs.addresses.+address.Given as goal

abbrev pub invariant-are_addresses-loop-part : goal.invariant-are_addresses-loop-part
invariant-are_addresses-loop-part l = every (map is_address (drop l.part-index l.parts)) ≡ every (map is_address l.parts)
