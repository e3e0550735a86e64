-- Worked commands: the greatest line in each, computed.
use Rattle.std.proofs.Common.{◌≡◌, ℕ, List, [], ◌∷◌, Option, Some, None, rules}
use Rattle.abc_tree.specs.declared.formulas.Test.{Test}
use Rattle.abc_tree.specs.declared.commands.Action.{Action}
use Rattle.abc_tree.specs.declared.commands.ActionNode.{ActionNode, the_lemmas as actions}
use Rattle.abc_tree.specs.declared.commands.ActionNode.TheVariants as n
use Rattle.abc_tree.specs.declared.commands.Alternative.{Alternative, roll-Alternative}
use Rattle.abc_check.specs.inner.Ends.{last_of_action}

abbrev on_line : ℕ → ActionNode → Action
on_line line node = record { line = line; node = node }

suites_reach_further : (t : Test) → last_of_action (on_line 1 (n.While t (on_line 2 n.Pass ∷ on_line 3 (n.If t (on_line 4 n.Quit ∷ [])) ∷ []))) ≡ 4
suites_reach_further t = search (rules, actions)

abbrev way_on_line : ℕ → Option Test → List Action → Alternative
way_on_line line test suite = roll-Alternative (record { line = line; test = test; suite = suite })

alternatives_count_too : (t : Test) → last_of_action (on_line 1 (n.Select (way_on_line 2 (Some t) (on_line 2 n.Pass ∷ []) ∷ way_on_line 3 None (on_line 5 n.Quit ∷ on_line 4 n.Fail ∷ []) ∷ []))) ≡ 5
alternatives_count_too t = search (rules, actions)

alone_it_is_its_own : last_of_action (on_line 7 n.Pass) ≡ 7
alone_it_is_its_own = search (rules, actions)
