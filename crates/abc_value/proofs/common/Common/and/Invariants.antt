use Rattle.std.proofs.Common.{◌≡◌, List, length, ◌++◌}
use Rattle.std.specs.List.{between}
use Rattle.abc_value.specs.Tree.{Tree}
use Rattle.abc_value.specs.inner.Keeps.{Keeps, column}
use Rattle.abc_value.proofs.common.Common.and.Given as goal

abbrev pub invariant-loop-i : goal.invariant-loop-i
invariant-loop-i l = (ts : List Tree) → length ts ≡ l.others → Keeps l.fn.self ts → Keeps l.common (ts ++ between l.from l.i (column l.all))
