use Rattle.std.proofs.Common.{ℕ, ◌≡◌, ◌<◌}
use Rattle.abc_groups.specs.inner.Search.{IsIdle, AreClasses, mark}
use Rattle.abc_groups.proofs.search.all_groups.Given as goal

abbrev pub invariant-loop-root : goal.invariant-loop-root
invariant-loop-root l = record {
  idle : IsIdle l.graph l.there l.marks;
  classes : AreClasses l.graph l.there l.marks l.groups.items;
  done : (x : ℕ) → x < l.root → mark l.marks x ≡ 1;
}
