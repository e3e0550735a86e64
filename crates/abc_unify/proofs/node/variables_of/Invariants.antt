use Rattle.std.proofs.Common.{◌≡◌, map, take}
use Rattle.abc_terms.specs.declared.term.Term.TheVariants.{Var}
use Rattle.abc_unify.proofs.node.variables_of.Given as goal

abbrev pub invariant-loop-i : goal.invariant-loop-i
invariant-loop-i l = take l.i l.terms ≡ map Var l.vars.items
