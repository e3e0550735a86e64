use Rattle.std.proofs.Common.{◌≡◌, take}
use Rattle.abc_terms.specs.Renamed.{number_in}
use Rattle.abc_scheme.specs.inner.Places.{placed_vars}
use Rattle.abc_scheme.proofs.renaming.renamed_vars.Given as goal

abbrev pub invariant-loop-i : goal.invariant-loop-i
invariant-loop-i l = l.all.items ≡ placed_vars (number_in l.to) (take l.i l.vars)
