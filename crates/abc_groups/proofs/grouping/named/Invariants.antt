use Rattle.std.proofs.Common.{map, take}
use Rattle.std.specs.List.{All}
use Rattle.abc_tree.specs.Ordered.{RiseBy}
use Rattle.abc_groups.specs.Program.{texts}
use Rattle.abc_groups.specs.inner.Named.{AreNamed}
use Rattle.abc_groups.proofs.grouping.named.Given as goal

abbrev pub invariant-loop-row : goal.invariant-loop-row
invariant-loop-row l = record {
  named : AreNamed (texts l.templates) (take l.row-index l.numbers) (map texts l.groups.items);
  rising : All (RiseBy (λ t. t)) l.groups.items;
}
