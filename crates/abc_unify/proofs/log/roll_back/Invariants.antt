use Rattle.std.proofs.Common.{◌≡◌, ◌≤◌, length, take, drop}
use Rattle.std.specs.List.{All}
use Rattle.abc_unify.specs.inner.Logs.{rolled, EntryIn}
use Rattle.abc_unify.proofs.log.roll_back.Given as goal

abbrev pub invariant-loop-log : goal.invariant-loop-log
invariant-loop-log l = record {
  keep : l.keep ≤ length l.log.items;
  inside : All (EntryIn (length l.slots)) l.log.items;
  same : rolled l.slots (drop l.keep l.log.items) ≡ rolled l.initial.slots (drop l.keep l.initial.log.items);
  older : take l.keep l.log.items ≡ take l.keep l.initial.log.items;
}

abbrev pub decreases-loop-log : goal.decreases-loop-log
decreases-loop-log l = length l.log.items
