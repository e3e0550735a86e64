use Rattle.std.proofs.Common.{◌≡◌, ◌≤◌, length}
use Rattle.abc_scheme.specs.inner.Copies.{AreMadeBehind}
use Rattle.abc_scheme.proofs.copying.fresh_vars.Given as goal

abbrev pub invariant-loop : goal.invariant-loop
invariant-loop l = record { made : AreMadeBehind l.initial.g l.g l.vars.items; count : length l.vars.items ≡ l.counter; within : l.counter ≤ l.count }
