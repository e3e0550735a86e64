use Rattle.std.proofs.Common.{◌≡◌, map, take}
use Rattle.abc_terms.specs.Renamed.{renamed_term, number_in}
use Rattle.abc_terms.proofs.term.renamed_compound.Given as goal

abbrev pub invariant-loop-at : goal.invariant-loop-at
invariant-loop-at l = l.terms ≡ map (renamed_term (number_in l.to)) (take l.at l.fields)
