use Rattle.abc_principal.proofs.Loops.{IsCalling}
use Rattle.abc_principal.proofs.calling.call_signatures.Given as goal

abbrev pub invariant-loop-i : goal.invariant-loop-i
invariant-loop-i l = IsCalling l.members l.known l.owns l.initial.g l.g l.initial.targets l.targets l.templates l.i l.calls.items
