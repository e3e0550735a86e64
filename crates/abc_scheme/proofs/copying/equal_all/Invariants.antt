use Rattle.std.proofs.Common.{◌≡◌, ◌++◌, take}
use Rattle.abc_scheme.specs.inner.Copies.{equals}
use Rattle.abc_scheme.proofs.copying.equal_all.Given as goal

abbrev pub invariant-loop-i : goal.invariant-loop-i
invariant-loop-i l = l.demands.items ≡ l.initial.demands.items ++ equals (take l.i l.xs) l.ys
