use Rattle.std.proofs.Common.{◌≡◌, drop}
use Rattle.abc_faults.specs.Causes.{goes_on}
use Rattle.abc_faults.proofs.causes.goes_on.Given as goal

abbrev pub invariant-loop-row : goal.invariant-loop-row
invariant-loop-row l = goes_on l.fn.indent l.below ≡ goes_on l.fn.indent (drop l.row-index l.below)
