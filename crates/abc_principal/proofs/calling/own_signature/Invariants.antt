use Rattle.std.proofs.Common.{◌≡◌, drop}
use Rattle.abc_principal.specs.Exact.{cuts_of}
use Rattle.abc_principal.specs.Calls.{own_of}
use Rattle.abc_principal.proofs.calling.own_signature.Given as goal

abbrev pub invariant-loop-i : goal.invariant-loop-i
invariant-loop-i l = own_of l.t (cuts_of l.members) l.owns ≡ own_of l.t (drop l.i (cuts_of l.members)) (drop l.i l.owns)
