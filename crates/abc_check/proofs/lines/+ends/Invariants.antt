use Rattle.std.proofs.Common.{◌≡◌, map, take}
use Rattle.std.specs.Prelude.{max}
use Rattle.abc_tree.specs.Height.{highest}
use Rattle.abc_tree.specs.Lists.{flat}
use Rattle.abc_check.specs.inner.Ends.{EndBy, of_action, of_alternative, last_of_action, last_of_alternative}
use Rattle.abc_check.proofs.lines.+ends.Given as goal

abbrev pub invariant-suite_end-loop-action : goal.invariant-suite_end-loop-action
invariant-suite_end-loop-action l = record {
  ends : EndBy l.last (flat (map of_action (take l.action-index l.suite)));
  greatest : l.last ≡ max l.before (highest (map last_of_action (take l.action-index l.suite)));
}

abbrev pub invariant-alternatives_end-loop-alternative : goal.invariant-alternatives_end-loop-alternative
invariant-alternatives_end-loop-alternative l = record {
  ends : EndBy l.last (flat (map of_alternative (take l.alternative-index l.alternatives)));
  greatest : l.last ≡ max l.before (highest (map last_of_alternative (take l.alternative-index l.alternatives)));
}
