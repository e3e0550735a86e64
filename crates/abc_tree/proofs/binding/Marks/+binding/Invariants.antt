use Rattle.std.proofs.Common.{◌≡◌, map, drop}
use Rattle.abc_tree.specs.Lists.{flat}
use Rattle.abc_tree.specs.inner.Bindings.{bound_in_action, bound_in_alternative, marked}
use Rattle.abc_tree.proofs.binding.Marks.+binding.Given as goal

abbrev pub invariant-alternatives-loop-alternative : goal.invariant-alternatives-loop-alternative
invariant-alternatives-loop-alternative l =
    marked l.initial.self (flat (map bound_in_alternative l.alternatives)) ≡ marked l.self (flat (map bound_in_alternative (drop l.alternative-index l.alternatives)))

abbrev pub invariant-suite-loop-action : goal.invariant-suite-loop-action
invariant-suite-loop-action l = marked l.initial.self (flat (map bound_in_action l.suite)) ≡ marked l.self (flat (map bound_in_action (drop l.action-index l.suite)))
