use Rattle.std.proofs.Common.{◌≡◌, map, take}
use Rattle.abc_terms.specs.declared.term.Term.TheVariants.{Var}
use Rattle.abc_terms.proofs.term.Term.compound_of.Given as goal

abbrev pub invariant-loop-i : goal.invariant-loop-i
invariant-loop-i l = l.terms ≡ map Var (take l.i l.fields)
