use Rattle.abc_groups.specs.Program.{texts}
use Rattle.abc_groups.specs.inner.Least.{IsLeast}
use Rattle.abc_groups.proofs.missing.least.Given as goal

abbrev pub invariant-loop-i : goal.invariant-loop-i
invariant-loop-i l = IsLeast (texts l.explored.templates.items) l.explored.there.items l.i l.best
