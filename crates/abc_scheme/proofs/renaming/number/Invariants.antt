use Rattle.std.proofs.Common.{◌≡◌, length}
use Rattle.abc_scheme.specs.inner.Places.{numbers, PlacedUpto}
use Rattle.abc_scheme.proofs.renaming.number.Given as goal

abbrev pub invariant-loop-i : goal.invariant-loop-i
invariant-loop-i l = record { placed : PlacedUpto (numbers l.all) l.i l.table; count : length l.table ≡ length l.initial.table }
