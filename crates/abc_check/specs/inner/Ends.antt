-- Up to which line a command reaches.
use Rattle.std.specs.Prelude.{ℕ, ◌≤◌, max}
use Rattle.std.specs.List.{AllByRecursion}
use Rattle.abc_tree.specs.Height.{highest}
use Rattle.abc_tree.specs.Lined.{Lined}
use Rattle.abc_tree.specs.declared.commands.Action.{Action, fold-Action}
use Rattle.abc_tree.specs.declared.commands.ActionNode.{ActionNode, fold-ActionNode}
use Rattle.abc_tree.specs.declared.commands.ActionNode.TheOpen.{Action-F, ActionNode-F, Alternative-F}
use Rattle.abc_tree.specs.declared.commands.Alternative.{Alternative, fold-Alternative}
use Rattle.abc_ground.specs.Seen.{Node, leaf, result, seen_action, seen_alternative}
use Rattle.abc_demand.specs.inner.Walks.{inner_nodes}

-- all of these stand on lines up to n
abbrev pub EndBy : ℕ → Lined Node → Type 0
EndBy n xs = AllByRecursion (λ x. x.0 ≤ n) xs

-- what is seen of a command, of an alternative, and of the commands in a command
abbrev pub of_action : Action → Lined Node
of_action = seen_action (leaf result)

abbrev pub of_alternative : Alternative → Lined Node
of_alternative = seen_alternative (leaf result)

abbrev pub of_inner : ActionNode → Lined Node
of_inner = inner_nodes (leaf result)

-- The greatest line in a command or an alternative: its own, or that of a command or an alternative in it. Of the commands in a
-- command alone it is 0 where there are none.
abbrev pub inner_last : ActionNode-F ℕ ℕ ℕ → ℕ
inner_last (ActionNode-F.If test suite) = highest suite
inner_last (ActionNode-F.Select alternatives) = highest alternatives
inner_last (ActionNode-F.While test suite) = highest suite
inner_last (ActionNode-F.For names train suite) = highest suite
inner_last _ = 0

abbrev pub action_last : Action-F ℕ ℕ ℕ → ℕ
action_last action = max action.line action.node

abbrev pub alternative_last : Alternative-F ℕ ℕ ℕ → ℕ
alternative_last alternative = max alternative.line (highest alternative.suite)

abbrev pub last_of_action : Action → ℕ
last_of_action = fold-Action ℕ ℕ ℕ inner_last action_last alternative_last

abbrev pub last_of_alternative : Alternative → ℕ
last_of_alternative = fold-Alternative ℕ ℕ ℕ inner_last action_last alternative_last

abbrev pub last_of_inner : ActionNode → ℕ
last_of_inner = fold-ActionNode ℕ ℕ ℕ inner_last action_last alternative_last
