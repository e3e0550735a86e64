use Rattle.std.proofs.Common.{◌≡◌, drop}
use Rattle.std.specs.List.{list_any}
use Rattle.abc_clauses.specs.Formulas.{value_is_high}
use Rattle.abc_clauses.proofs.formulas.one_is_high.Given as goal

abbrev pub invariant-loop-value : goal.invariant-loop-value
invariant-loop-value l = list_any value_is_high (drop l.value-index l.values) ≡ list_any value_is_high l.values
