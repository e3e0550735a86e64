use Rattle.abc_principal.proofs.Loops.{IsFreshening}
use Rattle.abc_principal.proofs.fresh.fresh_vars.Given as goal

abbrev pub invariant-loop : goal.invariant-loop
invariant-loop l = IsFreshening l.initial.g l.g l.vars.items l.counter l.count
