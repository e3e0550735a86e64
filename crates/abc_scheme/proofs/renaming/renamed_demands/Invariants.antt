use Rattle.std.proofs.Common.{◌≡◌, map, take}
use Rattle.abc_terms.specs.Renamed.{renamed, number_in}
use Rattle.abc_scheme.proofs.renaming.renamed_demands.Given as goal

abbrev pub invariant-loop-i : goal.invariant-loop-i
invariant-loop-i l = l.all.items ≡ map (renamed (number_in l.to)) (take l.i l.demands)
