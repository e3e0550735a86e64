use Rattle.std.proofs.Common.{◌≡◌, drop, map}
use Rattle.abc_tree.specs.Regular.{every}
use Rattle.abc_clauses.specs.inner.Naming.{gives_value, address_is_fit}
use Rattle.abc_clauses.proofs.formulas.+addresses.Given as goal

abbrev pub invariant-addresses_fit-loop-part : goal.invariant-addresses_fit-loop-part
invariant-addresses_fit-loop-part l = every (map (address_is_fit (gives_value l.kinds)) (drop l.part-index l.parts)) ≡ every (map (address_is_fit (gives_value l.kinds)) l.parts)
