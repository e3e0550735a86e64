-- The calls of units that stand in a tree.
use Rattle.std.specs.Prelude.{ℕ, Bool, true, false, List, [], ◌∷◌, ◌++◌, map, Option, Some, None, if◌then◌else◌}
use Rattle.abc_tree.specs.Ordered.{placed_by}
use Rattle.abc_tree.specs.Lists.{flat}
use Rattle.abc_tree.specs.Lined.{Lined, at, upto}
use Rattle.abc_tree.specs.declared.templates.Template.{Template}
use Rattle.abc_tree.specs.declared.templates.Word.{Word}
use Rattle.abc_tree.specs.declared.templates.Word.TheVariants as word
use Rattle.abc_tree.specs.declared.formulas.Expr.{Expr, fold-Expr}
use Rattle.abc_tree.specs.declared.formulas.Expr.TheOpen.{Expr-F, Fill-F, Piece-F, Pair-F}
use Rattle.abc_tree.specs.declared.formulas.Fill.{Fill, fold-Fill}
use Rattle.abc_tree.specs.declared.formulas.Piece.{Piece, fold-Piece}
use Rattle.abc_tree.specs.declared.formulas.Pair.{Pair, fold-Pair}
use Rattle.abc_tree.specs.declared.formulas.Test.{Test, fold-Test}
use Rattle.abc_tree.specs.declared.formulas.Test.TheOpen.{Test-F}
use Rattle.abc_tree.specs.declared.commands.Action.{Action, fold-Action}
use Rattle.abc_tree.specs.declared.commands.ActionNode.{ActionNode, fold-ActionNode}
use Rattle.abc_tree.specs.declared.commands.Alternative.{Alternative, fold-Alternative}
use Rattle.abc_tree.specs.declared.commands.ActionNode.TheOpen.{Action-F, ActionNode-F, Alternative-F}
use Rattle.abc_tree.specs.declared.commands.Refinement.{Refinement}
use Rattle.abc_tree.specs.declared.commands.Command.{Command}
use Rattle.abc_tree.specs.declared.commands.Unit.{Unit as Routine}

abbrev pub Calls : Type 0
Calls = List Template

-- a call with the calls in each of its actuals: the template is the first
abbrev pub template_first : Template → List Calls → Calls
template_first template actuals = template ∷ flat actuals

abbrev pub begins_with_place : List Word → Bool
begins_with_place (word.Place ∷ ws) = true
begins_with_place _ = false

-- the same in the order of the text: where the template begins with a place, its first actual stands before its first word
abbrev pub in_text_order : Template → List Calls → Calls
in_text_order template [] = template ∷ []
in_text_order template (first ∷ actuals) = if begins_with_place template.words then first ++ (template ∷ flat actuals) else template ∷ (first ++ flat actuals)

-- the calls of a command whose line is still to be given
abbrev pub At : Type 0
At = ℕ → Lined Template

-- The calls of a tree one after the other. `join` says where a call stands among those in its actuals.
module _ (join : Template → List Calls → Calls) where
  -- in an expression
  abbrev pub piece_calls : Piece-F Calls Calls Calls Calls → Calls
  piece_calls (Piece-F.Chars bytes) = []
  piece_calls (Piece-F.Conversion e) = e

  abbrev pub fill_calls : Fill-F Calls Calls Calls Calls → Calls
  fill_calls (Fill-F.One e) = e
  fill_calls (Fill-F.Range from to) = from ++ to

  abbrev pub pair_calls : Pair-F Calls Calls Calls Calls → Calls
  pair_calls pair = pair.key ++ pair.associate

  abbrev pub expression_calls : Expr-F Calls Calls Calls Calls → Calls
  expression_calls (Expr-F.Number n) = []
  expression_calls (Expr-F.Text pieces) = flat pieces
  expression_calls (Expr-F.Name i) = []
  expression_calls (Expr-F.Compound parts) = flat parts
  expression_calls Expr-F.Empty = []
  expression_calls (Expr-F.List fills) = flat fills
  expression_calls (Expr-F.Table pairs) = flat pairs
  expression_calls (Expr-F.Select t k) = t ++ k
  expression_calls (Expr-F.Apply1 op x) = x
  expression_calls (Expr-F.Apply2 op x y) = x ++ y
  expression_calls (Expr-F.Call template actuals) = join template actuals

  abbrev pub expression_by : Expr → Calls
  expression_by = fold-Expr Calls Calls Calls Calls expression_calls fill_calls piece_calls pair_calls

  -- in a test
  abbrev pub test_calls : Test-F Calls → Calls
  test_calls (Test-F.Chain first links) = expression_by first ++ flat (map (λ link. expression_by link.right) links)
  test_calls (Test-F.Member op e t) = expression_by e ++ expression_by t
  test_calls (Test-F.And a b) = a ++ b
  test_calls (Test-F.Or a b) = a ++ b
  test_calls (Test-F.Not a) = a
  test_calls (Test-F.Quantified q names train test) = expression_by train ++ test
  test_calls (Test-F.Call template actuals) = join template (map expression_by actuals)
  test_calls (Test-F.Refinement i) = []

  abbrev pub test_by : Test → Calls
  test_by = fold-Test Calls test_calls

  -- in a command, with the line of each
  abbrev pub part_by : Option Expr → Calls
  part_by None = []
  part_by (Some e) = expression_by e

  abbrev pub test_if_any_by : Option Test → Calls
  test_if_any_by None = []
  test_if_any_by (Some t) = test_by t

  abbrev pub node_calls : ActionNode-F At (Lined Template) (Lined Template) → At
  node_calls (ActionNode-F.Write before part after) line = at line (part_by part)
  node_calls (ActionNode-F.Put value address) line = at line (expression_by value ++ expression_by address)
  node_calls (ActionNode-F.Insert value address) line = at line (expression_by value ++ expression_by address)
  node_calls (ActionNode-F.Remove value address) line = at line (expression_by value ++ expression_by address)
  node_calls (ActionNode-F.Delete address) line = at line (expression_by address)
  node_calls (ActionNode-F.ReadExample address example) line = at line (expression_by address ++ expression_by example)
  node_calls (ActionNode-F.ReadRaw address) line = at line (expression_by address)
  node_calls (ActionNode-F.Check test) line = at line (test_by test)
  node_calls ActionNode-F.Pass line = []
  node_calls (ActionNode-F.If test suite) line = at line (test_by test) ++ flat suite
  node_calls (ActionNode-F.Select alternatives) line = flat alternatives
  node_calls (ActionNode-F.While test suite) line = at line (test_by test) ++ flat suite
  node_calls (ActionNode-F.For names train suite) line = at line (expression_by train) ++ flat suite
  node_calls ActionNode-F.Quit line = []
  node_calls (ActionNode-F.Return value) line = at line (expression_by value)
  node_calls (ActionNode-F.Report test) line = at line (test_by test)
  node_calls ActionNode-F.Succeed line = []
  node_calls ActionNode-F.Fail line = []
  node_calls (ActionNode-F.Call template actuals) line = at line (join template (map expression_by actuals))
  node_calls (ActionNode-F.Refinement name) line = []

  abbrev pub action_calls : Action-F At (Lined Template) (Lined Template) → Lined Template
  action_calls action = action.node action.line

  abbrev pub alternative_calls : Alternative-F At (Lined Template) (Lined Template) → Lined Template
  alternative_calls alternative = at alternative.line (test_if_any_by alternative.test) ++ flat alternative.suite

  abbrev pub action_by : Action → Lined Template
  action_by = fold-Action At (Lined Template) (Lined Template) node_calls action_calls alternative_calls

  -- in a unit: in its commands, and then in its refinements
  abbrev pub refinement_by : Refinement → Lined Template
  refinement_by refinement = flat (map action_by refinement.suite)

  abbrev pub unit_by : Routine → Lined Template
  unit_by unit = flat (map action_by unit.body) ++ flat (map refinement_by unit.refinements)

-- the calls in an expression and its parts
abbrev pub calls_in : Expr → Calls
calls_in = expression_by template_first

abbrev pub calls_in_fill : Fill → Calls
calls_in_fill = fold-Fill Calls Calls Calls Calls (expression_calls template_first) (fill_calls template_first) (piece_calls template_first) (pair_calls template_first)

abbrev pub calls_in_piece : Piece → Calls
calls_in_piece = fold-Piece Calls Calls Calls Calls (expression_calls template_first) (fill_calls template_first) (piece_calls template_first) (pair_calls template_first)

abbrev pub calls_in_pair : Pair → Calls
calls_in_pair = fold-Pair Calls Calls Calls Calls (expression_calls template_first) (fill_calls template_first) (piece_calls template_first) (pair_calls template_first)

abbrev pub part_calls : Option Expr → Calls
part_calls = part_by template_first

-- in a test
abbrev pub calls_in_test : Test → Calls
calls_in_test = test_by template_first

abbrev pub test_if_any : Option Test → Calls
test_if_any = test_if_any_by template_first

-- in a command that is seen with its line
abbrev pub calls_in_node : ActionNode → At
calls_in_node = fold-ActionNode At (Lined Template) (Lined Template) (node_calls template_first) (action_calls template_first) (alternative_calls template_first)

abbrev pub calls_in_alternative : Alternative → Lined Template
calls_in_alternative = fold-Alternative At (Lined Template) (Lined Template) (node_calls template_first) (action_calls template_first) (alternative_calls template_first)

abbrev pub calls_in_action : Action → Lined Template
calls_in_action = action_by template_first

-- in a unit
abbrev pub calls_in_refinement : Refinement → Lined Template
calls_in_refinement = refinement_by template_first

abbrev pub calls_in_unit : Routine → Lined Template
calls_in_unit = unit_by template_first

-- The templates of the call nodes on lines up to n, in the order of the text, one for each node.
abbrev pub unit_nodes : ℕ → Routine → Calls
unit_nodes n unit = upto n (unit_by in_text_order unit)

abbrev pub command_nodes : ℕ → Command → Calls
command_nodes n command = upto n (action_by in_text_order command.action)

-- one more among templates in their order; one that is there stays
abbrev pub with_call : Template → Calls → Calls
with_call = placed_by (λ t. t) false

-- these too
abbrev pub with_calls : Calls → Calls → Calls
with_calls found [] = found
with_calls found (call ∷ calls) = with_calls (with_call call found) calls

-- the templates that a unit calls on lines up to n, in their order, each once
abbrev pub called_upto : ℕ → Routine → Calls
called_upto n unit = with_calls [] (upto n (calls_in_unit unit))

-- the templates that a command calls on lines up to n, in their order, each once
abbrev pub command_called_upto : ℕ → Command → Calls
command_called_upto n command = with_calls [] (upto n (calls_in_action command.action))
