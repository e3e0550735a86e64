-- The calls that the rules see are those that stand in the tree, in the order of the text.
use Rattle.std.proofs.Common.{◌≡◌, ◌∙◌, ℕ, List, [], ◌∷◌, ◌++◌, map, Bool, true, false, Option, Some, None, ap, sym, subst, refl, append_assoc}
use Rattle.std.specs.Prelude.{nat_le, if◌then◌else◌}
use Rattle.std.proofs.lemmas.List.{append-nil, map-append}
use Rattle.abc_num.specs.Names.{number_of}
use Rattle.abc_tree.specs.Lists.{flat}
use Rattle.abc_tree.specs.Lined.{Lined, at, upto}
use Rattle.abc_tree.proofs.Adding.{upto-append}
use Rattle.abc_tree.specs.declared.templates.Template.{Template}
use Rattle.abc_tree.specs.declared.formulas.Expr.{Expr, roll-Expr, map-Expr}
use Rattle.abc_tree.specs.declared.formulas.Expr.TheOpen.{Expr-F, Fill-F, Piece-F, Pair-F}
use Rattle.abc_tree.specs.declared.formulas.Expr.TheFolds.{ind-Expr, fold-roll-Expr, fold-roll-Fill, fold-roll-Piece, fold-roll-Pair}
use Rattle.abc_tree.specs.declared.formulas.Fill.{Fill, fold-Fill, roll-Fill, map-Fill}
use Rattle.abc_tree.specs.declared.formulas.Piece.{Piece, fold-Piece, roll-Piece, map-Piece}
use Rattle.abc_tree.specs.declared.formulas.Pair.{Pair, fold-Pair, roll-Pair, map-Pair}
use Rattle.abc_tree.specs.declared.formulas.Link.{Link}
use Rattle.abc_tree.specs.declared.formulas.Bound.{Bound}
use Rattle.abc_tree.specs.declared.formulas.Test.{Test, roll-Test, map-Test}
use Rattle.abc_tree.specs.declared.formulas.Test.TheOpen.{Test-F}
use Rattle.abc_tree.specs.declared.formulas.Test.TheFolds.{ind-Test, fold-roll-Test}
use Rattle.abc_tree.specs.declared.commands.Action.{Action, fold-Action, roll-Action, map-Action}
use Rattle.abc_tree.specs.declared.commands.ActionNode.{ActionNode, fold-ActionNode, roll-ActionNode, map-ActionNode}
use Rattle.abc_tree.specs.declared.commands.ActionNode.TheOpen.{Action-F, ActionNode-F, Alternative-F}
use Rattle.abc_tree.specs.declared.commands.ActionNode.TheFolds.{ind-Action, fold-roll-ActionNode, fold-roll-Action, fold-roll-Alternative}
use Rattle.abc_tree.specs.declared.commands.Alternative.{Alternative, fold-Alternative, roll-Alternative, map-Alternative}
use Rattle.abc_tree.specs.declared.commands.Refinement.{Refinement}
use Rattle.abc_tree.specs.declared.commands.RefinementKind.{RefinementKind}
use Rattle.abc_tree.specs.declared.commands.RefinementKind.TheVariants as refines
use Rattle.abc_tree.specs.declared.commands.Command.{Command}
use Rattle.abc_tree.specs.declared.commands.Unit.{Unit as Routine}
use Rattle.abc_tree.specs.Calls.{Calls, begins_with_place, node_calls, action_calls, alternative_calls, refinement_by, unit_nodes, command_nodes, in_text_order, piece_calls, fill_calls, pair_calls, expression_calls, expression_by, test_calls, test_by, part_by, test_if_any_by}
use Rattle.abc_ground.specs.Seen.{Node, nodes, no_nodes, more, call, call_of, Filled, filled, over_two, train, piece_seen, fill_seen, pair_seen, expression_seen, seen, seen_fill, seen_piece, seen_pair, seen_bound, test_seen, seen_test, part_seen, tested, leaf, over, one_type, member, any, line_of_text, result, At, node_seen, action_seen, alternative_seen, seen_node, seen_action, seen_alternative, name_place, place_in, seen_refinement, seen_unit, seen_command, unit_upto, command_upto}
use Rattle.abc_ground.specs.Calls.{templates, each_templates}
use Rattle.abc_ground.proofs.Heading.{bound_none}

-- in an expression, a filler, a part of a text, a pair
abbrev in_expression : Expr → Calls
in_expression = expression_by in_text_order

abbrev in_fill : Fill → Calls
in_fill = fold-Fill Calls Calls Calls Calls (expression_calls in_text_order) (fill_calls in_text_order) (piece_calls in_text_order) (pair_calls in_text_order)

abbrev in_piece : Piece → Calls
in_piece = fold-Piece Calls Calls Calls Calls (expression_calls in_text_order) (fill_calls in_text_order) (piece_calls in_text_order) (pair_calls in_text_order)

abbrev in_pair : Pair → Calls
in_pair = fold-Pair Calls Calls Calls Calls (expression_calls in_text_order) (fill_calls in_text_order) (piece_calls in_text_order) (pair_calls in_text_order)

pub templates_both : (xs ys : List Node) → each_templates (nodes (xs ++ ys)) ≡ each_templates (nodes xs) ++ each_templates (nodes ys)
templates_both [] ys = refl
templates_both (x ∷ xs) ys = ap (λ ts. templates x ++ ts) (templates_both xs ys) ∙ sym (append_assoc (templates x) (each_templates (nodes xs)) (each_templates (nodes ys)))

abbrev ExprSeen : Expr → Type 0
ExprSeen e = templates (seen e) ≡ in_expression e

abbrev FillSeen : Fill → Type 0
FillSeen f = each_templates (nodes (seen_fill f).parts) ≡ in_fill f

abbrev PieceSeen : Piece → Type 0
PieceSeen p = each_templates (nodes (seen_piece p)) ≡ in_piece p

abbrev PairSeen : Pair → Type 0
PairSeen p = each_templates (nodes (seen_pair p)) ≡ in_pair p

abbrev E : Type 0
E = (e : Expr) × ExprSeen e

abbrev F : Type 0
F = (f : Fill) × FillSeen f

abbrev P : Type 0
P = (p : Piece) × PieceSeen p

abbrev Q : Type 0
Q = (p : Pair) × PairSeen p

exprs : (es : List E) → each_templates (nodes (map seen (map (λ e. e.0) es))) ≡ flat (map in_expression (map (λ e. e.0) es))
exprs [] = refl
exprs (e ∷ es) =
    ap (λ ts. ts ++ each_templates (nodes (map seen (map (λ d. d.0) es)))) e.1 ∙ ap (λ ts. in_expression e.0 ++ ts) (exprs es)

fills : (fs : List F) → each_templates (nodes (filled (map seen_fill (map (λ f. f.0) fs)))) ≡ flat (map in_fill (map (λ f. f.0) fs))
fills [] = refl
fills (f ∷ fs) =
    templates_both (seen_fill f.0).parts (filled (map seen_fill (map (λ g. g.0) fs)))
    ∙ (ap (λ ts. ts ++ each_templates (nodes (filled (map seen_fill (map (λ g. g.0) fs))))) f.1 ∙ ap (λ ts. in_fill f.0 ++ ts) (fills fs))

pieces : (ps : List P) → each_templates (nodes (flat (map seen_piece (map (λ p. p.0) ps)))) ≡ flat (map in_piece (map (λ p. p.0) ps))
pieces [] = refl
pieces (p ∷ ps) =
    templates_both (seen_piece p.0) (flat (map seen_piece (map (λ q. q.0) ps)))
    ∙ (ap (λ ts. ts ++ each_templates (nodes (flat (map seen_piece (map (λ q. q.0) ps))))) p.1 ∙ ap (λ ts. in_piece p.0 ++ ts) (pieces ps))

pairs : (ps : List Q) → each_templates (nodes (flat (map seen_pair (map (λ p. p.0) ps)))) ≡ flat (map in_pair (map (λ p. p.0) ps))
pairs [] = refl
pairs (p ∷ ps) =
    templates_both (seen_pair p.0) (flat (map seen_pair (map (λ q. q.0) ps)))
    ∙ (ap (λ ts. ts ++ each_templates (nodes (flat (map seen_pair (map (λ q. q.0) ps))))) p.1 ∙ ap (λ ts. in_pair p.0 ++ ts) (pairs ps))

-- a call and its actuals
placed : (b gives : Bool) (t : Template) (x : Node) (xs : List Node) (first : Calls) (rest : List Calls) → templates x ≡ first → each_templates (nodes xs) ≡ flat rest
    → templates (if b then call gives t (more x no_nodes) (nodes xs) else call gives t no_nodes (more x (nodes xs))) ≡ (if b then first ++ (t ∷ flat rest) else t ∷ (first ++ flat rest))
placed true gives t x xs first rest e f =
    ap (λ ts. ts ++ (t ∷ each_templates (nodes xs))) (append-nil (templates x) ∙ e) ∙ ap (λ ts. first ++ (t ∷ ts)) f
placed false gives t x xs first rest e f = ap (λ ts. t ∷ (ts ++ each_templates (nodes xs))) e ∙ ap (λ ts. t ∷ (first ++ ts)) f

called : (gives : Bool) (t : Template) (es : List E) → templates (call_of gives t (map seen (map (λ e. e.0) es))) ≡ in_text_order t (map in_expression (map (λ e. e.0) es))
called gives t [] = refl
called gives t (e ∷ es) = placed (begins_with_place t.words) gives t (seen e.0) (map seen (map (λ d. d.0) es)) (in_expression e.0) (map in_expression (map (λ d. d.0) es)) e.1 (exprs es)

two_seen : (x y : Node) (xs ys : Calls) → templates x ≡ xs → templates y ≡ ys → templates x ++ (templates y ++ []) ≡ xs ++ ys
two_seen x y xs ys e f = ap (λ ts. templates x ++ ts) (append-nil (templates y)) ∙ (ap (λ ts. ts ++ templates y) e ∙ ap (λ ts. xs ++ ts) f)

abbrev rolled : (x : Expr-F Expr Fill Piece Pair) → seen (roll-Expr x) ≡ expression_seen (map-Expr Expr Fill Piece Pair Node Filled (List Node) (List Node) seen seen_fill seen_piece seen_pair x)
rolled = fold-roll-Expr Node Filled (List Node) (List Node) expression_seen fill_seen piece_seen pair_seen

abbrev rolled_calls : (x : Expr-F Expr Fill Piece Pair) → in_expression (roll-Expr x) ≡ expression_calls in_text_order (map-Expr Expr Fill Piece Pair Calls Calls Calls Calls in_expression in_fill in_piece in_pair x)
rolled_calls = fold-roll-Expr Calls Calls Calls Calls (expression_calls in_text_order) (fill_calls in_text_order) (piece_calls in_text_order) (pair_calls in_text_order)

abbrev opened : Expr-F E F P Q → Expr-F Expr Fill Piece Pair
opened y = map-Expr E F P Q Expr Fill Piece Pair (λ e. e.0) (λ f. f.0) (λ p. p.0) (λ p. p.0) y

expr_layer : (y : Expr-F E F P Q) → templates (expression_seen (map-Expr Expr Fill Piece Pair Node Filled (List Node) (List Node) seen seen_fill seen_piece seen_pair (opened y)))
    ≡ expression_calls in_text_order (map-Expr Expr Fill Piece Pair Calls Calls Calls Calls in_expression in_fill in_piece in_pair (opened y))
expr_layer (Expr-F.Number n) = refl
expr_layer (Expr-F.Text ps) = pieces ps
expr_layer (Expr-F.Name i) = refl
expr_layer (Expr-F.Compound es) = exprs es
expr_layer Expr-F.Empty = refl
expr_layer (Expr-F.List fs) = fills fs
expr_layer (Expr-F.Table ps) = pairs ps
expr_layer (Expr-F.Select t k) = two_seen (seen t.0) (seen k.0) (in_expression t.0) (in_expression k.0) t.1 k.1
expr_layer (Expr-F.Apply1 op x) = append-nil (templates (seen x.0)) ∙ x.1
expr_layer (Expr-F.Apply2 op x y) = two_seen (seen x.0) (seen y.0) (in_expression x.0) (in_expression y.0) x.1 y.1
expr_layer (Expr-F.Call t es) = called true t es

expr_step : (y : Expr-F E F P Q) → ExprSeen (roll-Expr (opened y))
expr_step y = ap templates (rolled (opened y)) ∙ (expr_layer y ∙ sym (rolled_calls (opened y)))

fill_step : (y : Fill-F E F P Q) → FillSeen (roll-Fill (map-Fill E F P Q Expr Fill Piece Pair (λ e. e.0) (λ f. f.0) (λ p. p.0) (λ p. p.0) y))
fill_step (Fill-F.One e) =
    ap (λ (f : Filled). each_templates (nodes f.parts)) (fold-roll-Fill Node Filled (List Node) (List Node) expression_seen fill_seen piece_seen pair_seen (Fill-F.One e.0))
    ∙ ((append-nil (templates (seen e.0)) ∙ e.1) ∙ sym (fold-roll-Fill Calls Calls Calls Calls (expression_calls in_text_order) (fill_calls in_text_order) (piece_calls in_text_order) (pair_calls in_text_order) (Fill-F.One e.0)))
fill_step (Fill-F.Range e f) =
    ap (λ (g : Filled). each_templates (nodes g.parts)) (fold-roll-Fill Node Filled (List Node) (List Node) expression_seen fill_seen piece_seen pair_seen (Fill-F.Range e.0 f.0))
    ∙ (two_seen (seen e.0) (seen f.0) (in_expression e.0) (in_expression f.0) e.1 f.1 ∙ sym (fold-roll-Fill Calls Calls Calls Calls (expression_calls in_text_order) (fill_calls in_text_order) (piece_calls in_text_order) (pair_calls in_text_order) (Fill-F.Range e.0 f.0)))

piece_step : (y : Piece-F E F P Q) → PieceSeen (roll-Piece (map-Piece E F P Q Expr Fill Piece Pair (λ e. e.0) (λ f. f.0) (λ p. p.0) (λ p. p.0) y))
piece_step (Piece-F.Chars b) =
    ap (λ (xs : List Node). each_templates (nodes xs)) (fold-roll-Piece Node Filled (List Node) (List Node) expression_seen fill_seen piece_seen pair_seen (Piece-F.Chars b))
    ∙ sym (fold-roll-Piece Calls Calls Calls Calls (expression_calls in_text_order) (fill_calls in_text_order) (piece_calls in_text_order) (pair_calls in_text_order) (Piece-F.Chars b))
piece_step (Piece-F.Conversion e) =
    ap (λ (xs : List Node). each_templates (nodes xs)) (fold-roll-Piece Node Filled (List Node) (List Node) expression_seen fill_seen piece_seen pair_seen (Piece-F.Conversion e.0))
    ∙ ((append-nil (templates (seen e.0)) ∙ e.1) ∙ sym (fold-roll-Piece Calls Calls Calls Calls (expression_calls in_text_order) (fill_calls in_text_order) (piece_calls in_text_order) (pair_calls in_text_order) (Piece-F.Conversion e.0)))

pair_step : (y : Pair-F E F P Q) → PairSeen (roll-Pair (map-Pair E F P Q Expr Fill Piece Pair (λ e. e.0) (λ f. f.0) (λ p. p.0) (λ p. p.0) y))
pair_step y =
    ap (λ (xs : List Node). each_templates (nodes xs)) (fold-roll-Pair Node Filled (List Node) (List Node) expression_seen fill_seen piece_seen pair_seen (map-Pair E F P Q Expr Fill Piece Pair (λ e. e.0) (λ f. f.0) (λ p. p.0) (λ p. p.0) y))
    ∙ (two_seen (seen y.key.0) (seen y.associate.0) (in_expression y.key.0) (in_expression y.associate.0) y.key.1 y.associate.1
    ∙ sym (fold-roll-Pair Calls Calls Calls Calls (expression_calls in_text_order) (fill_calls in_text_order) (piece_calls in_text_order) (pair_calls in_text_order) (map-Pair E F P Q Expr Fill Piece Pair (λ e. e.0) (λ f. f.0) (λ p. p.0) (λ p. p.0) y)))

pub expr_seen : (e : Expr) → ExprSeen e
expr_seen =
    ind-Expr ExprSeen FillSeen PieceSeen PairSeen (λ x y is. subst (λ z. ExprSeen (roll-Expr z)) is (expr_step y)) (λ x y is. subst (λ z. FillSeen (roll-Fill z)) is (fill_step y))
    (λ x y is. subst (λ z. PieceSeen (roll-Piece z)) is (piece_step y)) (λ x y is. subst (λ z. PairSeen (roll-Pair z)) is (pair_step y))

abbrev with_seen : List Expr → List E
with_seen [] = []
with_seen (e ∷ es) = (e, expr_seen e) ∷ with_seen es

without_seen : (es : List Expr) → map (λ e. e.0) (with_seen es) ≡ es
without_seen [] = refl
without_seen (e ∷ es) = ap (λ ds. e ∷ ds) (without_seen es)

pub call_seen : (gives : Bool) (t : Template) (es : List Expr) → templates (call_of gives t (map seen es)) ≡ in_text_order t (map in_expression es)
call_seen gives t es = subst (λ ds. templates (call_of gives t (map seen ds)) ≡ in_text_order t (map in_expression ds)) (without_seen es) (called gives t (with_seen es))

-- in a test
abbrev TestSeen : Test → Type 0
TestSeen t = templates (seen_test t) ≡ test_by in_text_order t

abbrev T : Type 0
T = (t : Test) × TestSeen t

links : (ls : List Link) → each_templates (nodes (map (λ link. seen link.right) ls)) ≡ flat (map (λ link. in_expression link.right) ls)
links [] = refl
links (l ∷ ls) = ap (λ ts. ts ++ each_templates (nodes (map (λ link. seen link.right) ls))) (expr_seen l.right) ∙ ap (λ ts. in_expression l.right ++ ts) (links ls)

bound_train : (names : Bound) (x : Expr) → templates (over_two train (seen_bound names) (seen x)) ≡ in_expression x
bound_train names x = ap (λ ts. ts ++ (templates (seen x) ++ [])) (bound_none names) ∙ (append-nil (templates (seen x)) ∙ expr_seen x)

test_layer : (y : Test-F T) → templates (test_seen (map-Test Test Node seen_test (map-Test T Test (λ t. t.0) y))) ≡ test_calls in_text_order (map-Test Test Calls (test_by in_text_order) (map-Test T Test (λ t. t.0) y))
test_layer (Test-F.Chain first ls) = ap (λ ts. ts ++ each_templates (nodes (map (λ link. seen link.right) ls))) (expr_seen first) ∙ ap (λ ts. in_expression first ++ ts) (links ls)
test_layer (Test-F.Member op e t) = two_seen (seen e) (seen t) (in_expression e) (in_expression t) (expr_seen e) (expr_seen t)
test_layer (Test-F.And a b) = two_seen (seen_test a.0) (seen_test b.0) (test_by in_text_order a.0) (test_by in_text_order b.0) a.1 b.1
test_layer (Test-F.Or a b) = two_seen (seen_test a.0) (seen_test b.0) (test_by in_text_order a.0) (test_by in_text_order b.0) a.1 b.1
test_layer (Test-F.Not a) = append-nil (templates (seen_test a.0)) ∙ a.1
test_layer (Test-F.Quantified q names x a) = two_seen (over_two train (seen_bound names) (seen x)) (seen_test a.0) (in_expression x) (test_by in_text_order a.0) (bound_train names x) a.1
test_layer (Test-F.Call t es) = call_seen false t es
test_layer (Test-F.Refinement i) = refl

test_step : (y : Test-F T) → TestSeen (roll-Test (map-Test T Test (λ t. t.0) y))
test_step y =
    ap templates (fold-roll-Test Node test_seen (map-Test T Test (λ t. t.0) y)) ∙ (test_layer y ∙ sym (fold-roll-Test Calls (test_calls in_text_order) (map-Test T Test (λ t. t.0) y)))

pub test_is_seen : (t : Test) → TestSeen t
test_is_seen = ind-Test TestSeen (λ x y is. subst (λ z. TestSeen (roll-Test z)) is (test_step y))

pub part_is_seen : (part : Option Expr) → templates (part_seen part) ≡ part_by in_text_order part
part_is_seen None = refl
part_is_seen (Some e) = append-nil (templates (seen e)) ∙ expr_seen e

pub tested_is_seen : (t : Option Test) → templates (tested t) ≡ test_if_any_by in_text_order t
tested_is_seen None = refl
tested_is_seen (Some t) = test_is_seen t

-- ---- in commands, with the line of each

-- the calls in nodes that stand on lines
abbrev pub lined_calls : Lined Node → Lined Template
lined_calls [] = []
lined_calls (x ∷ xs) = at x.0 (templates x.1) ++ lined_calls xs

lined_both : (xs ys : Lined Node) → lined_calls (xs ++ ys) ≡ lined_calls xs ++ lined_calls ys
lined_both [] ys = refl
lined_both (x ∷ xs) ys = ap (λ ts. at x.0 (templates x.1) ++ ts) (lined_both xs ys) ∙ sym (append_assoc (at x.0 (templates x.1)) (lined_calls xs) (lined_calls ys))

at_both : (line : ℕ) (xs ys : Calls) → at line (xs ++ ys) ≡ at line xs ++ at line ys
at_both line xs ys = map-append (λ (t : Template). (line, t)) xs ys

lined_at : (line : ℕ) (xs : List Node) → lined_calls (at line xs) ≡ at line (each_templates (nodes xs))
lined_at line [] = refl
lined_at line (x ∷ xs) = ap (λ ts. at line (templates x) ++ ts) (lined_at line xs) ∙ sym (at_both line (templates x) (each_templates (nodes xs)))

-- those on lines up to n
pub upto_seen : (n : ℕ) (xs : Lined Node) → each_templates (nodes (upto n xs)) ≡ upto n (lined_calls xs)
upto_seen n [] = refl
upto_seen n (x ∷ xs) = by_line (nat_le x.0 n) (upto_seen n xs) refl
  where
    by_line : (b : Bool) → each_templates (nodes (upto n xs)) ≡ upto n (lined_calls xs) → nat_le x.0 n ≡ b → each_templates (nodes (upto n (x ∷ xs))) ≡ upto n (lined_calls (x ∷ xs))
    by_line true rest is =
        let here : upto n (at x.0 (templates x.1)) ≡ templates x.1 = on_line (templates x.1) in
        rw is (ap (λ ts. templates x.1 ++ ts) rest ∙ (ap (λ ts. ts ++ upto n (lined_calls xs)) (sym here) ∙ sym (upto-append n (at x.0 (templates x.1)) (lined_calls xs))))
      where
        on_line : (ts : Calls) → upto n (at x.0 ts) ≡ ts
        on_line [] = refl
        on_line (t ∷ ts) = rw is (ap (λ us. t ∷ us) (on_line ts))
    by_line false rest is =
        let gone : upto n (at x.0 (templates x.1)) ≡ [] = off_line (templates x.1) in
        rw is (rest ∙ (ap (λ ts. ts ++ upto n (lined_calls xs)) (sym gone) ∙ sym (upto-append n (at x.0 (templates x.1)) (lined_calls xs))))
      where
        off_line : (ts : Calls) → upto n (at x.0 ts) ≡ []
        off_line [] = refl
        off_line (t ∷ ts) = rw is (off_line ts)

abbrev calls_node : ActionNode → ℕ → Lined Template
calls_node = fold-ActionNode (ℕ → Lined Template) (Lined Template) (Lined Template) (node_calls in_text_order) (action_calls in_text_order) (alternative_calls in_text_order)

abbrev calls_action : Action → Lined Template
calls_action = fold-Action (ℕ → Lined Template) (Lined Template) (Lined Template) (node_calls in_text_order) (action_calls in_text_order) (alternative_calls in_text_order)

abbrev calls_alternative : Alternative → Lined Template
calls_alternative = fold-Alternative (ℕ → Lined Template) (Lined Template) (Lined Template) (node_calls in_text_order) (action_calls in_text_order) (alternative_calls in_text_order)

module _ (place : Node) (none : templates place ≡ []) where
  abbrev NodeSeen : ActionNode → Type 0
  NodeSeen n = (line : ℕ) → lined_calls (seen_node place n line) ≡ calls_node n line

  abbrev ActionSeen : Action → Type 0
  ActionSeen a = lined_calls (seen_action place a) ≡ calls_action a

  abbrev WaySeen : Alternative → Type 0
  WaySeen a = lined_calls (seen_alternative place a) ≡ calls_alternative a

  abbrev N : Type 0
  N = (n : ActionNode) × NodeSeen n

  abbrev A : Type 0
  A = (a : Action) × ActionSeen a

  abbrev W : Type 0
  W = (a : Alternative) × WaySeen a

  actions_seen : (xs : List A) → lined_calls (flat (map (seen_action place) (map (λ a. a.0) xs))) ≡ flat (map calls_action (map (λ a. a.0) xs))
  actions_seen [] = refl
  actions_seen (a ∷ xs) =
      lined_both (seen_action place a.0) (flat (map (seen_action place) (map (λ d. d.0) xs)))
      ∙ (ap (λ ts. ts ++ lined_calls (flat (map (seen_action place) (map (λ d. d.0) xs)))) a.1 ∙ ap (λ ts. calls_action a.0 ++ ts) (actions_seen xs))

  ways_seen : (xs : List W) → lined_calls (flat (map (seen_alternative place) (map (λ a. a.0) xs))) ≡ flat (map calls_alternative (map (λ a. a.0) xs))
  ways_seen [] = refl
  ways_seen (a ∷ xs) =
      lined_both (seen_alternative place a.0) (flat (map (seen_alternative place) (map (λ d. d.0) xs)))
      ∙ (ap (λ ts. ts ++ lined_calls (flat (map (seen_alternative place) (map (λ d. d.0) xs)))) a.1 ∙ ap (λ ts. calls_alternative a.0 ++ ts) (ways_seen xs))

  -- a node on a line, and what is in it
  alone : (line : ℕ) (x : Node) (ts : Calls) → templates x ≡ ts → lined_calls (at line (x ∷ []) ++ []) ≡ at line ts
  alone line x ts e = append-nil (at line (templates x)) ∙ ap (at line) e

  with_inner : (line : ℕ) (x : Node) (ts : Calls) (inner : Lined Node) (us : Lined Template) → templates x ≡ ts → lined_calls inner ≡ us → lined_calls (at line (x ∷ []) ++ inner) ≡ at line ts ++ us
  with_inner line x ts inner us e f = ap (λ vs. at line (templates x) ++ vs) f ∙ ap (λ vs. at line vs ++ us) e

  two_exprs : (x y : Expr) → templates (seen x) ++ (templates (seen y) ++ []) ≡ in_expression x ++ in_expression y
  two_exprs x y = two_seen (seen x) (seen y) (in_expression x) (in_expression y) (expr_seen x) (expr_seen y)

  node_layer : (y : ActionNode-F N A W) (line : ℕ)
      → lined_calls (node_seen place (map-ActionNode ActionNode Action Alternative At (Lined Node) (Lined Node) (seen_node place) (seen_action place) (seen_alternative place) (map-ActionNode N A W ActionNode Action Alternative (λ n. n.0) (λ a. a.0) (λ a. a.0) y)) line)
      ≡ node_calls in_text_order (map-ActionNode ActionNode Action Alternative (ℕ → Lined Template) (Lined Template) (Lined Template) calls_node calls_action calls_alternative (map-ActionNode N A W ActionNode Action Alternative (λ n. n.0) (λ a. a.0) (λ a. a.0) y)) line
  node_layer (ActionNode-F.Write before part after) line = alone line (part_seen part) (part_by in_text_order part) (part_is_seen part)
  node_layer (ActionNode-F.Put x y) line = alone line (over_two one_type (seen x) (seen y)) (in_expression x ++ in_expression y) (two_exprs x y)
  node_layer (ActionNode-F.Insert x y) line = alone line (over_two member (seen x) (seen y)) (in_expression x ++ in_expression y) (two_exprs x y)
  node_layer (ActionNode-F.Remove x y) line = alone line (over_two member (seen x) (seen y)) (in_expression x ++ in_expression y) (two_exprs x y)
  node_layer (ActionNode-F.Delete x) line = alone line (over any (seen x)) (in_expression x) (append-nil (templates (seen x)) ∙ expr_seen x)
  node_layer (ActionNode-F.ReadExample x y) line = alone line (over_two one_type (seen x) (seen y)) (in_expression x ++ in_expression y) (two_exprs x y)
  node_layer (ActionNode-F.ReadRaw x) line = alone line (over line_of_text (seen x)) (in_expression x) (append-nil (templates (seen x)) ∙ expr_seen x)
  node_layer (ActionNode-F.Check t) line = alone line (seen_test t) (test_by in_text_order t) (test_is_seen t)
  node_layer ActionNode-F.Pass line = refl
  node_layer (ActionNode-F.If t suite) line = with_inner line (seen_test t) (test_by in_text_order t) (flat (map (seen_action place) (map (λ a. a.0) suite))) (flat (map calls_action (map (λ a. a.0) suite))) (test_is_seen t) (actions_seen suite)
  node_layer (ActionNode-F.Select ways) line = ways_seen ways
  node_layer (ActionNode-F.While t suite) line = with_inner line (seen_test t) (test_by in_text_order t) (flat (map (seen_action place) (map (λ a. a.0) suite))) (flat (map calls_action (map (λ a. a.0) suite))) (test_is_seen t) (actions_seen suite)
  node_layer (ActionNode-F.For names x suite) line = with_inner line (over_two train (seen_bound names) (seen x)) (in_expression x) (flat (map (seen_action place) (map (λ a. a.0) suite))) (flat (map calls_action (map (λ a. a.0) suite))) (bound_train names x) (actions_seen suite)
  node_layer ActionNode-F.Quit line = refl
  node_layer (ActionNode-F.Return x) line =
      alone line (over_two one_type (seen x) place) (in_expression x)
      (ap (λ ts. templates (seen x) ++ (ts ++ [])) none ∙ (append-nil (templates (seen x)) ∙ expr_seen x))
  node_layer (ActionNode-F.Report t) line = alone line (seen_test t) (test_by in_text_order t) (test_is_seen t)
  node_layer ActionNode-F.Succeed line = refl
  node_layer ActionNode-F.Fail line = refl
  node_layer (ActionNode-F.Call t es) line = alone line (call_of false t (map seen es)) (in_text_order t (map in_expression es)) (call_seen false t es)
  node_layer (ActionNode-F.Refinement name) line = refl

  node_step : (y : ActionNode-F N A W) → NodeSeen (roll-ActionNode (map-ActionNode N A W ActionNode Action Alternative (λ n. n.0) (λ a. a.0) (λ a. a.0) y))
  node_step y line =
      ap (λ (f : At). lined_calls (f line)) (fold-roll-ActionNode At (Lined Node) (Lined Node) (node_seen place) (action_seen place) (alternative_seen place) (map-ActionNode N A W ActionNode Action Alternative (λ n. n.0) (λ a. a.0) (λ a. a.0) y))
      ∙ (node_layer y line ∙ sym (ap (λ (f : ℕ → Lined Template). f line) (fold-roll-ActionNode (ℕ → Lined Template) (Lined Template) (Lined Template) (node_calls in_text_order) (action_calls in_text_order) (alternative_calls in_text_order) (map-ActionNode N A W ActionNode Action Alternative (λ n. n.0) (λ a. a.0) (λ a. a.0) y))))

  action_step : (y : Action-F N A W) → ActionSeen (roll-Action (map-Action N A W ActionNode Action Alternative (λ n. n.0) (λ a. a.0) (λ a. a.0) y))
  action_step y =
      ap lined_calls (fold-roll-Action At (Lined Node) (Lined Node) (node_seen place) (action_seen place) (alternative_seen place) (map-Action N A W ActionNode Action Alternative (λ n. n.0) (λ a. a.0) (λ a. a.0) y))
      ∙ (y.node.1 y.line ∙ sym (fold-roll-Action (ℕ → Lined Template) (Lined Template) (Lined Template) (node_calls in_text_order) (action_calls in_text_order) (alternative_calls in_text_order) (map-Action N A W ActionNode Action Alternative (λ n. n.0) (λ a. a.0) (λ a. a.0) y)))

  way_step : (y : Alternative-F N A W) → WaySeen (roll-Alternative (map-Alternative N A W ActionNode Action Alternative (λ n. n.0) (λ a. a.0) (λ a. a.0) y))
  way_step y =
      ap lined_calls (fold-roll-Alternative At (Lined Node) (Lined Node) (node_seen place) (action_seen place) (alternative_seen place) (map-Alternative N A W ActionNode Action Alternative (λ n. n.0) (λ a. a.0) (λ a. a.0) y))
      ∙ (with_inner y.line (tested y.test) (test_if_any_by in_text_order y.test) (flat (map (seen_action place) (map (λ a. a.0) y.suite))) (flat (map calls_action (map (λ a. a.0) y.suite))) (tested_is_seen y.test) (actions_seen y.suite)
      ∙ sym (fold-roll-Alternative (ℕ → Lined Template) (Lined Template) (Lined Template) (node_calls in_text_order) (action_calls in_text_order) (alternative_calls in_text_order) (map-Alternative N A W ActionNode Action Alternative (λ n. n.0) (λ a. a.0) (λ a. a.0) y)))

  action_is_seen : (a : Action) → ActionSeen a
  action_is_seen =
      ind-Action NodeSeen ActionSeen WaySeen (λ x y is. subst (λ z. NodeSeen (roll-ActionNode z)) is (node_step y)) (λ x y is. subst (λ z. ActionSeen (roll-Action z)) is (action_step y))
      (λ x y is. subst (λ z. WaySeen (roll-Alternative z)) is (way_step y))

  suite_is_seen : (xs : List Action) → lined_calls (flat (map (seen_action place) xs)) ≡ flat (map calls_action xs)
  suite_is_seen [] = refl
  suite_is_seen (a ∷ xs) =
      lined_both (seen_action place a) (flat (map (seen_action place) xs)) ∙ (ap (λ ts. ts ++ lined_calls (flat (map (seen_action place) xs))) (action_is_seen a) ∙ ap (λ ts. calls_action a ++ ts) (suite_is_seen xs))

named_none : (o : Option ℕ) → templates (name_place o) ≡ []
named_none None = refl
named_none (Some i) = refl

place_none : (names : List (List ℕ)) (k : RefinementKind) (called : List ℕ) → templates (place_in names k called) ≡ []
place_none names refines.Expression called = named_none (number_of names called)
place_none names refines.Command called = refl
place_none names refines.Test called = refl

refinements_seen : (names : List (List ℕ)) (rs : List Refinement) → lined_calls (flat (map (seen_refinement names) rs)) ≡ flat (map (refinement_by in_text_order) rs)
refinements_seen names [] = refl
refinements_seen names (r ∷ rs) =
    lined_both (seen_refinement names r) (flat (map (seen_refinement names) rs))
    ∙ (ap (λ ts. ts ++ lined_calls (flat (map (seen_refinement names) rs))) (suite_is_seen (place_in names r.kind r.name) (place_none names r.kind r.name) r.suite)
    ∙ ap (λ ts. refinement_by in_text_order r ++ ts) (refinements_seen names rs))

pub unit_is_seen : (n : ℕ) (unit : Routine) → each_templates (unit_upto n unit) ≡ unit_nodes n unit
unit_is_seen n unit =
    upto_seen n (seen_unit unit)
    ∙ ap (λ (ts : Lined Template). upto n ts)
    (lined_both (flat (map (seen_action (leaf result)) unit.body)) (flat (map (seen_refinement unit.names) unit.refinements))
    ∙ (ap (λ ts. ts ++ lined_calls (flat (map (seen_refinement unit.names) unit.refinements))) (suite_is_seen (leaf result) refl unit.body)
    ∙ ap (λ ts. flat (map calls_action unit.body) ++ ts) (refinements_seen unit.names unit.refinements)))

pub command_is_seen : (n : ℕ) (c : Command) → each_templates (command_upto n c) ≡ command_nodes n c
command_is_seen n c = upto_seen n (seen_command c) ∙ ap (λ (ts : Lined Template). upto n ts) (action_is_seen (leaf result) refl c.action)
