-- What the typing rules see of a tree: nodes with a rule and with parts, in the order of the text.
use Rattle.std.specs.Prelude.{ℕ, Bool, true, false, List, [], ◌∷◌, ◌++◌, map, Option, Some, None, if◌then◌else◌}
use Rattle.abc_num.specs.Names.{number_of}
use Rattle.abc_tree.specs.Lists.{flat}
use Rattle.abc_tree.specs.Lined.{Lined, at, upto}
use Rattle.abc_tree.specs.Calls.{begins_with_place}
use Rattle.abc_tree.specs.declared.operations.Op.{Op}
use Rattle.abc_tree.specs.declared.templates.Template.{Template}
use Rattle.abc_tree.specs.declared.formulas.Bound.{Bound, fold-Bound}
use Rattle.abc_tree.specs.declared.formulas.Bound.TheOpen.{Bound-F}
use Rattle.abc_tree.specs.declared.formulas.Expr.{Expr, fold-Expr}
use Rattle.abc_tree.specs.declared.formulas.Expr.TheOpen.{Expr-F, Fill-F, Piece-F, Pair-F}
use Rattle.abc_tree.specs.declared.formulas.Fill.{Fill, fold-Fill}
use Rattle.abc_tree.specs.declared.formulas.Piece.{Piece, fold-Piece}
use Rattle.abc_tree.specs.declared.formulas.Pair.{Pair, fold-Pair}
use Rattle.abc_tree.specs.declared.formulas.Test.{Test, fold-Test}
use Rattle.abc_tree.specs.declared.formulas.Test.TheOpen.{Test-F}
use Rattle.abc_tree.specs.declared.commands.Action.{Action, fold-Action}
use Rattle.abc_tree.specs.declared.commands.ActionNode.{ActionNode, fold-ActionNode}
use Rattle.abc_tree.specs.declared.commands.Alternative.{Alternative, fold-Alternative}
use Rattle.abc_tree.specs.declared.commands.ActionNode.TheOpen.{Action-F, ActionNode-F, Alternative-F}
use Rattle.abc_tree.specs.declared.commands.Refinement.{Refinement}
use Rattle.abc_tree.specs.declared.commands.RefinementKind.{RefinementKind}
use Rattle.abc_tree.specs.declared.commands.RefinementKind.TheVariants as refines
use Rattle.abc_tree.specs.declared.commands.Command.{Command}
use Rattle.abc_tree.specs.declared.commands.Unit.{Unit as Routine}

-- Which rule the types of a node and of its parts keep: a number; a text; a name by its number; what the unit gives; a
-- compound; `{}`; a list display, and whether it has a range; a table display; `t[k]`; a predefined operation that gives a value,
-- and one that is a test; parts of one type; names and a train of theirs; an element and a list of its type; an address for a line of the input; whatever its
-- parts have.
pub data Rule : Type 0 where
  numeral : Rule
  characters : Rule
  name : ℕ → Rule
  result : Rule
  fields : Rule
  nothing : Rule
  elements : Bool → Rule
  entries : Rule
  selection : Rule
  row : Op → Rule
  test_row : Op → Rule
  one_type : Rule
  train : Rule
  member : Rule
  line_of_text : Rule
  any : Rule

mutual
  -- A node has a rule and parts. A call has its template between the actuals before its first word and those behind it; it
  -- may give a value.
  pub data Node : Type 0 where
    node : Rule → Nodes → Node
    call : Bool → Template → Nodes → Nodes → Node

  pub data Nodes : Type 0 where
    no_nodes : Nodes
    more : Node → Nodes → Nodes

abbrev pub nodes : List Node → Nodes
nodes [] = no_nodes
nodes (x ∷ xs) = more x (nodes xs)

-- a node with no, one, two parts
abbrev pub leaf : Rule → Node
leaf r = node r no_nodes

abbrev pub over : Rule → Node → Node
over r x = node r (more x no_nodes)

abbrev pub over_two : Rule → Node → Node → Node
over_two r x y = node r (more x (more y no_nodes))

-- a call: where its template begins with a place, its first actual stands before its first word
abbrev pub call_of : Bool → Template → List Node → Node
call_of gives t [] = call gives t no_nodes no_nodes
call_of gives t (x ∷ xs) = if begins_with_place t.words then call gives t (more x no_nodes) (nodes xs) else call gives t no_nodes (nodes (x ∷ xs))

-- the parts of a filler, and whether it is a range
pub record Filled : Type 0 where
  pub parts : List Node
  pub ranged : Bool

abbrev pub filled : List Filled → List Node
filled fills = flat (map (λ (f : Filled). f.parts) fills)

abbrev pub any_ranged : List Filled → Bool
any_ranged [] = false
any_ranged (f ∷ fs) = if f.ranged then true else any_ranged fs

-- an expression
abbrev pub piece_seen : Piece-F Node Filled (List Node) (List Node) → List Node
piece_seen (Piece-F.Chars bytes) = []
piece_seen (Piece-F.Conversion e) = e ∷ []

abbrev pub fill_seen : Fill-F Node Filled (List Node) (List Node) → Filled
fill_seen (Fill-F.One e) = record { parts = e ∷ []; ranged = false }
fill_seen (Fill-F.Range from to) = record { parts = from ∷ to ∷ []; ranged = true }

abbrev pub pair_seen : Pair-F Node Filled (List Node) (List Node) → List Node
pair_seen pair = pair.key ∷ pair.associate ∷ []

abbrev pub expression_seen : Expr-F Node Filled (List Node) (List Node) → Node
expression_seen (Expr-F.Number n) = leaf numeral
expression_seen (Expr-F.Text pieces) = node characters (nodes (flat pieces))
expression_seen (Expr-F.Name i) = leaf (name i.0)
expression_seen (Expr-F.Compound parts) = node fields (nodes parts)
expression_seen Expr-F.Empty = leaf nothing
expression_seen (Expr-F.List fills) = node (elements (any_ranged fills)) (nodes (filled fills))
expression_seen (Expr-F.Table pairs) = node entries (nodes (flat pairs))
expression_seen (Expr-F.Select t k) = over_two selection t k
expression_seen (Expr-F.Apply1 op x) = over (row op) x
expression_seen (Expr-F.Apply2 op x y) = over_two (row op) x y
expression_seen (Expr-F.Call template actuals) = call_of true template actuals

abbrev pub seen : Expr → Node
seen = fold-Expr Node Filled (List Node) (List Node) expression_seen fill_seen piece_seen pair_seen

abbrev pub seen_fill : Fill → Filled
seen_fill = fold-Fill Node Filled (List Node) (List Node) expression_seen fill_seen piece_seen pair_seen

abbrev pub seen_piece : Piece → List Node
seen_piece = fold-Piece Node Filled (List Node) (List Node) expression_seen fill_seen piece_seen pair_seen

abbrev pub seen_pair : Pair → List Node
seen_pair = fold-Pair Node Filled (List Node) (List Node) expression_seen fill_seen piece_seen pair_seen

-- names that are bound, or a formal
abbrev pub bound_seen : Bound-F Node → Node
bound_seen (Bound-F.One i) = leaf (name i.0)
bound_seen (Bound-F.Several parts) = node fields (nodes parts)

abbrev pub seen_bound : Bound → Node
seen_bound = fold-Bound Node bound_seen

-- a test
abbrev pub test_seen : Test-F Node → Node
test_seen (Test-F.Chain first links) = node one_type (nodes (seen first ∷ map (λ link. seen link.right) links))
test_seen (Test-F.Member op e t) = over_two (test_row op) (seen e) (seen t)
test_seen (Test-F.And a b) = over_two any a b
test_seen (Test-F.Or a b) = over_two any a b
test_seen (Test-F.Not a) = over any a
test_seen (Test-F.Quantified q names train_of test) = over_two any (over_two train (seen_bound names) (seen train_of)) test
test_seen (Test-F.Call template actuals) = call_of false template (map seen actuals)
test_seen (Test-F.Refinement i) = leaf any

abbrev pub seen_test : Test → Node
seen_test = fold-Test Node test_seen

-- what may be left out of a command
abbrev pub part_seen : Option Expr → Node
part_seen None = leaf any
part_seen (Some e) = over any (seen e)

abbrev pub tested : Option Test → Node
tested None = leaf any
tested (Some t) = seen_test t

-- a command whose line is still to be given
abbrev pub At : Type 0
At = ℕ → Lined Node

-- where a RETURN gives what `place` has
module _ (place : Node) where
  -- a command by itself, without the commands in it
  abbrev pub own_seen : {A B C : Type 0} → ActionNode-F A B C → List Node
  own_seen (ActionNode-F.Write before part after) = part_seen part ∷ []
  own_seen (ActionNode-F.Put value address) = over_two one_type (seen value) (seen address) ∷ []
  own_seen (ActionNode-F.Insert value address) = over_two member (seen value) (seen address) ∷ []
  own_seen (ActionNode-F.Remove value address) = over_two member (seen value) (seen address) ∷ []
  own_seen (ActionNode-F.Delete address) = over any (seen address) ∷ []
  own_seen (ActionNode-F.ReadExample address example) = over_two one_type (seen address) (seen example) ∷ []
  own_seen (ActionNode-F.ReadRaw address) = over line_of_text (seen address) ∷ []
  own_seen (ActionNode-F.Check test) = seen_test test ∷ []
  own_seen ActionNode-F.Pass = []
  own_seen (ActionNode-F.If test suite) = seen_test test ∷ []
  own_seen (ActionNode-F.Select alternatives) = []
  own_seen (ActionNode-F.While test suite) = seen_test test ∷ []
  own_seen (ActionNode-F.For names train_of suite) = over_two train (seen_bound names) (seen train_of) ∷ []
  own_seen ActionNode-F.Quit = []
  own_seen (ActionNode-F.Return value) = over_two one_type (seen value) place ∷ []
  own_seen (ActionNode-F.Report test) = seen_test test ∷ []
  own_seen ActionNode-F.Succeed = []
  own_seen ActionNode-F.Fail = []
  own_seen (ActionNode-F.Call template actuals) = call_of false template (map seen actuals) ∷ []
  own_seen (ActionNode-F.Refinement called) = []

  -- the commands in it
  abbrev pub inner_seen : {A : Type 0} → ActionNode-F A (Lined Node) (Lined Node) → Lined Node
  inner_seen (ActionNode-F.If test suite) = flat suite
  inner_seen (ActionNode-F.Select alternatives) = flat alternatives
  inner_seen (ActionNode-F.While test suite) = flat suite
  inner_seen (ActionNode-F.For names train_of suite) = flat suite
  inner_seen _ = []

  -- both: a command by itself stands on its line
  abbrev pub node_seen : ActionNode-F At (Lined Node) (Lined Node) → At
  node_seen n line = at line (own_seen n) ++ inner_seen n

  abbrev pub action_seen : Action-F At (Lined Node) (Lined Node) → Lined Node
  action_seen action = action.node action.line

  abbrev pub alternative_seen : Alternative-F At (Lined Node) (Lined Node) → Lined Node
  alternative_seen alternative = at alternative.line (tested alternative.test ∷ []) ++ flat alternative.suite

  abbrev pub seen_node : ActionNode → At
  seen_node = fold-ActionNode At (Lined Node) (Lined Node) node_seen action_seen alternative_seen

  abbrev pub seen_alternative : Alternative → Lined Node
  seen_alternative = fold-Alternative At (Lined Node) (Lined Node) node_seen action_seen alternative_seen

  abbrev pub seen_action : Action → Lined Node
  seen_action = fold-Action At (Lined Node) (Lined Node) node_seen action_seen alternative_seen

-- In a refinement: a RETURN of an expression refinement gives what its name has. A name without a number, which is not among
-- the names of the unit, has no type, like a compound of nothing.
abbrev pub name_place : Option ℕ → Node
name_place None = leaf fields
name_place (Some i) = leaf (name i)

abbrev pub place_in : List (List ℕ) → RefinementKind → List ℕ → Node
place_in names refines.Expression called = name_place (number_of names called)
place_in names _ called = leaf result

abbrev pub seen_refinement : List (List ℕ) → Refinement → Lined Node
seen_refinement names r = flat (map (seen_action (place_in names r.kind r.name)) r.suite)

-- in a unit: in its commands, and then in its refinements
abbrev pub seen_unit : Routine → Lined Node
seen_unit unit = flat (map (seen_action (leaf result)) unit.body) ++ flat (map (seen_refinement unit.names) unit.refinements)

abbrev pub seen_command : Command → Lined Node
seen_command c = seen_action (leaf result) c.action

-- the formals in the heading of a unit
abbrev pub seen_heading : Routine → List Node
seen_heading unit = map seen_bound unit.formals

-- the nodes of a unit, of a command on lines up to n
abbrev pub unit_upto : ℕ → Routine → Nodes
unit_upto n unit = nodes (upto n (seen_unit unit))

abbrev pub command_upto : ℕ → Command → Nodes
command_upto n c = nodes (upto n (seen_command c))
