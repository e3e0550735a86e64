use Rattle.std.proofs.Common.{◌≡◌, take, map}
use Rattle.abc_principal.proofs.reading.names_of.Given as goal

abbrev pub invariant-loop-i : goal.invariant-loop-i
invariant-loop-i l = l.names.items ≡ take l.i (map (λ p. p.0) l.targets)
