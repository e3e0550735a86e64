-- The templates of the calls in parts of a tree, in the order of the text.
use Rattle.std.specs.Prelude.{List, [], ◌∷◌, ◌++◌, Option}
use Rattle.abc_tree.specs.Lined.{Lined}
use Rattle.abc_tree.specs.Calls.{Calls, At, in_text_order, expression_calls, fill_calls, piece_calls, pair_calls, expression_by, part_by, test_by, test_if_any_by, node_calls, action_calls, alternative_calls, action_by, refinement_by}
use Rattle.abc_tree.specs.declared.templates.Template.{Template}
use Rattle.abc_tree.specs.declared.formulas.Expr.{Expr}
use Rattle.abc_tree.specs.declared.formulas.Fill.{Fill, fold-Fill}
use Rattle.abc_tree.specs.declared.formulas.Piece.{Piece, fold-Piece}
use Rattle.abc_tree.specs.declared.formulas.Pair.{Pair, fold-Pair}
use Rattle.abc_tree.specs.declared.formulas.Test.{Test}
use Rattle.abc_tree.specs.declared.commands.Action.{Action}
use Rattle.abc_tree.specs.declared.commands.ActionNode.{ActionNode, fold-ActionNode}
use Rattle.abc_tree.specs.declared.commands.Alternative.{Alternative, fold-Alternative}
use Rattle.abc_tree.specs.declared.commands.Refinement.{Refinement}

abbrev pub nodes_in : Expr → Calls
nodes_in = expression_by in_text_order

abbrev pub nodes_in_fill : Fill → Calls
nodes_in_fill = fold-Fill Calls Calls Calls Calls (expression_calls in_text_order) (fill_calls in_text_order) (piece_calls in_text_order) (pair_calls in_text_order)

abbrev pub nodes_in_piece : Piece → Calls
nodes_in_piece = fold-Piece Calls Calls Calls Calls (expression_calls in_text_order) (fill_calls in_text_order) (piece_calls in_text_order) (pair_calls in_text_order)

abbrev pub nodes_in_pair : Pair → Calls
nodes_in_pair = fold-Pair Calls Calls Calls Calls (expression_calls in_text_order) (fill_calls in_text_order) (piece_calls in_text_order) (pair_calls in_text_order)

abbrev pub part_nodes : Option Expr → Calls
part_nodes = part_by in_text_order

abbrev pub nodes_in_test : Test → Calls
nodes_in_test = test_by in_text_order

abbrev pub nodes_if_any : Option Test → Calls
nodes_if_any = test_if_any_by in_text_order

-- in a command that is seen with its line
abbrev pub nodes_in_node : ActionNode → At
nodes_in_node = fold-ActionNode At (Lined Template) (Lined Template) (node_calls in_text_order) (action_calls in_text_order) (alternative_calls in_text_order)

abbrev pub nodes_in_alternative : Alternative → Lined Template
nodes_in_alternative = fold-Alternative At (Lined Template) (Lined Template) (node_calls in_text_order) (action_calls in_text_order) (alternative_calls in_text_order)

abbrev pub nodes_in_action : Action → Lined Template
nodes_in_action = action_by in_text_order

abbrev pub nodes_in_refinement : Refinement → Lined Template
nodes_in_refinement = refinement_by in_text_order

-- templates behind others, one after the other
abbrev pub with_nodes : Calls → Calls → Calls
with_nodes found [] = found
with_nodes found (t ∷ ts) = with_nodes (found ++ t ∷ []) ts
