use Rattle.std.proofs.Common.{◌≡◌, drop}
use Rattle.abc_store.specs.inner.Later.{are_of_targets}
use Rattle.abc_store.proofs.later.are_of_targets.Given as goal

abbrev pub invariant-loop-change : goal.invariant-loop-change
invariant-loop-change l = are_of_targets l.changes ≡ are_of_targets (drop l.change-index l.changes)
