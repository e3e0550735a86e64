-- Each template that is called in a regular tree is regular.
use Rattle.std.proofs.Common.{◌≡◌, ◌∙◌, ℕ, suc, Bool, true, false, List, [], ◌∷◌, ◌++◌, length, map, Option, Some, None, sym, subst}
use Rattle.std.specs.Prelude.{◌&&◌, ◌==◌, All, filter, if◌then◌else◌, nat_le}
use Rattle.std.specs.List.{AllByRecursion, Contains}
use Rattle.std.proofs.lemmas.Bool.{and_parts}
use Rattle.std.proofs.lemmas.List.Elements.{All-cons, All-contains, All-nil}
use Rattle.abc_num.specs.declared.limits.TheConstants.{MOST_TREE_HEIGHT}
use Rattle.abc_tree.specs.Calls.{Calls, action_calls, alternative_calls, begins_with_place, expression_by, expression_calls, fill_calls, in_text_order, node_calls, pair_calls, part_by, piece_calls, test_by, test_calls, test_if_any_by}
use Rattle.abc_tree.specs.Height.{height, test_height}
use Rattle.abc_tree.specs.Lined.{Lined, at, upto}
use Rattle.abc_tree.specs.Lists.{flat}
use Rattle.abc_tree.specs.Regular as regular
use Rattle.abc_tree.specs.Regular.{Names, every, has_regular_parts, is_address, is_call, is_command, is_function, is_literal, is_predicate, is_regular_bound, is_regular_expression, is_regular_template, some}
use Rattle.abc_tree.specs.RegularItems as piece
use Rattle.abc_tree.specs.RegularItems.{Exits, Part as Piece, Parts, Way, action_parts, here, inside, is_regular_part, node_parts, parts_of, tested, way_of, ways, written_part}
use Rattle.abc_tree.specs.Roles.{is_infix, is_membership, is_prefix, is_relation}
use Rattle.abc_tree.specs.inner.Bindings.{parts_in_node, way_in}
use Rattle.abc_tree.specs.declared.commands.Action.{Action, fold-Action, map-Action, roll-Action}
use Rattle.abc_tree.specs.declared.commands.ActionNode.{ActionNode, fold-ActionNode, map-ActionNode, roll-ActionNode}
use Rattle.abc_tree.specs.declared.commands.ActionNode.TheFolds.{fold-roll-Action, fold-roll-ActionNode, fold-roll-Alternative, ind-Action}
use Rattle.abc_tree.specs.declared.commands.ActionNode.TheOpen.{Action-F, ActionNode-F, Alternative-F}
use Rattle.abc_tree.specs.declared.commands.Alternative.{Alternative, fold-Alternative, map-Alternative, roll-Alternative}
use Rattle.abc_tree.specs.declared.formulas.Expr.{Expr, map-Expr, roll-Expr}
use Rattle.abc_tree.specs.declared.formulas.Expr.TheFolds.{fold-roll-Expr, fold-roll-Fill, fold-roll-Pair, fold-roll-Piece, ind-Expr}
use Rattle.abc_tree.specs.declared.formulas.Expr.TheOpen.{Expr-F, Fill-F, Pair-F, Piece-F}
use Rattle.abc_tree.specs.declared.formulas.Fill.{Fill, fold-Fill, map-Fill, roll-Fill}
use Rattle.abc_tree.specs.declared.formulas.Link.{Link}
use Rattle.abc_tree.specs.declared.formulas.Pair.{Pair, fold-Pair, map-Pair, roll-Pair}
use Rattle.abc_tree.specs.declared.formulas.Piece.{Piece as TextPiece, fold-Piece, map-Piece, roll-Piece}
use Rattle.abc_tree.specs.declared.formulas.Test.{Test, fold-Test, map-Test, roll-Test}
use Rattle.abc_tree.specs.declared.formulas.Test.TheFolds.{fold-roll-Test, ind-Test}
use Rattle.abc_tree.specs.declared.formulas.Test.TheOpen.{Test-F}
use Rattle.abc_tree.specs.declared.templates.Template.{Template}

abbrev IsFine : Template → Type 0
IsFine t = is_regular_template t ≡ true

abbrev pub AreFine : Calls → Type 0
AreFine ts = AllByRecursion IsFine ts

both_fine : (xs ys : Calls) → AreFine xs → AreFine ys → AreFine (xs ++ ys)
both_fine [] ys a b = b
both_fine (x ∷ xs) ys a b = (a.0, both_fine xs ys a.1 b)

all_fine : (css : List Calls) → AllByRecursion AreFine css → AreFine (flat css)
all_fine [] h = tt
all_fine (cs ∷ css) h = both_fine cs (flat css) h.0 (all_fine css h.1)

call_fine : (t : Template) (css : List Calls) → IsFine t → AllByRecursion AreFine css → AreFine (in_text_order t css)
call_fine t [] f h = (f, tt)
call_fine t (first ∷ css) f h = by (begins_with_place t.words) where
  by : (b : Bool) → AreFine (if b then first ++ (t ∷ flat css) else t ∷ (first ++ flat css))
  by true = both_fine first (t ∷ flat css) h.0 (f, all_fine css h.1)
  by false = (f, both_fine first (flat css) h.0 (all_fine css h.1))

-- ---- expressions

abbrev in_expression : Expr → Calls
in_expression = expression_by in_text_order

abbrev in_fill : Fill → Calls
in_fill = fold-Fill Calls Calls Calls Calls (expression_calls in_text_order) (fill_calls in_text_order) (piece_calls in_text_order) (pair_calls in_text_order)

abbrev in_piece : TextPiece → Calls
in_piece = fold-Piece Calls Calls Calls Calls (expression_calls in_text_order) (fill_calls in_text_order) (piece_calls in_text_order) (pair_calls in_text_order)

abbrev in_pair : Pair → Calls
in_pair = fold-Pair Calls Calls Calls Calls (expression_calls in_text_order) (fill_calls in_text_order) (piece_calls in_text_order) (pair_calls in_text_order)

module _ (names : Names) where
  abbrev regular_fill : Fill → Bool
  regular_fill = fold-Fill Bool Bool Bool Bool (regular.expression_is names) (regular.fill_is names) (regular.piece_is names) (regular.pair_is names)

  abbrev regular_piece : TextPiece → Bool
  regular_piece = fold-Piece Bool Bool Bool Bool (regular.expression_is names) (regular.fill_is names) (regular.piece_is names) (regular.pair_is names)

  abbrev regular_pair : Pair → Bool
  regular_pair = fold-Pair Bool Bool Bool Bool (regular.expression_is names) (regular.fill_is names) (regular.piece_is names) (regular.pair_is names)

  abbrev ExprFine : Expr → Type 0
  ExprFine e = has_regular_parts names e ≡ true → AreFine (in_expression e)

  abbrev FillFine : Fill → Type 0
  FillFine f = regular_fill f ≡ true → AreFine (in_fill f)

  abbrev PieceFine : TextPiece → Type 0
  PieceFine p = regular_piece p ≡ true → AreFine (in_piece p)

  abbrev PairFine : Pair → Type 0
  PairFine p = regular_pair p ≡ true → AreFine (in_pair p)

  abbrev E : Type 0
  E = (e : Expr) × ExprFine e

  abbrev F : Type 0
  F = (f : Fill) × FillFine f

  abbrev P : Type 0
  P = (p : TextPiece) × PieceFine p

  abbrev Q : Type 0
  Q = (p : Pair) × PairFine p

  exprs : (es : List E) → every (map (has_regular_parts names) (map (λ e. e.0) es)) ≡ true → AllByRecursion AreFine (map in_expression (map (λ e. e.0) es))
  exprs [] h = tt
  exprs (e ∷ es) h = let q = and_parts (has_regular_parts names e.0) (every (map (has_regular_parts names) (map (λ d. d.0) es))) h in (e.1 q.0, exprs es q.1)

  fills : (fs : List F) → every (map regular_fill (map (λ f. f.0) fs)) ≡ true → AllByRecursion AreFine (map in_fill (map (λ f. f.0) fs))
  fills [] h = tt
  fills (f ∷ fs) h = let q = and_parts (regular_fill f.0) (every (map regular_fill (map (λ g. g.0) fs))) h in (f.1 q.0, fills fs q.1)

  pieces : (ps : List P) → every (map regular_piece (map (λ p. p.0) ps)) ≡ true → AllByRecursion AreFine (map in_piece (map (λ p. p.0) ps))
  pieces [] h = tt
  pieces (p ∷ ps) h = let q = and_parts (regular_piece p.0) (every (map regular_piece (map (λ q. q.0) ps))) h in (p.1 q.0, pieces ps q.1)

  pairs : (ps : List Q) → every (map regular_pair (map (λ p. p.0) ps)) ≡ true → AllByRecursion AreFine (map in_pair (map (λ p. p.0) ps))
  pairs [] h = tt
  pairs (p ∷ ps) h = let q = and_parts (regular_pair p.0) (every (map regular_pair (map (λ q. q.0) ps))) h in (p.1 q.0, pairs ps q.1)

  template_fine : (is : Bool) (t : Template) (n : ℕ) → ((is_regular_template t && is) && (t.places == n)) ≡ true → IsFine t
  template_fine is t n h = (and_parts (is_regular_template t) is (and_parts (is_regular_template t && is) (t.places == n) h).0).0

  abbrev opened : Expr-F E F P Q → Expr-F Expr Fill TextPiece Pair
  opened y = map-Expr E F P Q Expr Fill TextPiece Pair (λ e. e.0) (λ f. f.0) (λ p. p.0) (λ p. p.0) y

  expr_layer : (y : Expr-F E F P Q) → regular.expression_is names (map-Expr Expr Fill TextPiece Pair Bool Bool Bool Bool (has_regular_parts names) regular_fill regular_piece regular_pair (opened y)) ≡ true
      → AreFine (expression_calls in_text_order (map-Expr Expr Fill TextPiece Pair Calls Calls Calls Calls in_expression in_fill in_piece in_pair (opened y)))
  expr_layer (Expr-F.Number n) h = tt
  expr_layer (Expr-F.Text ps) h = all_fine (map in_piece (map (λ p. p.0) ps)) (pieces ps h)
  expr_layer (Expr-F.Name i) h = tt
  expr_layer (Expr-F.Compound es) h =
      all_fine (map in_expression (map (λ e. e.0) es))
      (exprs es (and_parts (nat_le 2 (length (map (has_regular_parts names) (map (λ e. e.0) es)))) (every (map (has_regular_parts names) (map (λ e. e.0) es))) h).1)
  expr_layer Expr-F.Empty h = tt
  expr_layer (Expr-F.List fs) h =
      all_fine (map in_fill (map (λ f. f.0) fs))
      (fills fs (and_parts (some (map regular_fill (map (λ f. f.0) fs))) (every (map regular_fill (map (λ f. f.0) fs))) h).1)
  expr_layer (Expr-F.Table ps) h =
      all_fine (map in_pair (map (λ p. p.0) ps))
      (pairs ps (and_parts (some (map regular_pair (map (λ p. p.0) ps))) (every (map regular_pair (map (λ p. p.0) ps))) h).1)
  expr_layer (Expr-F.Select t k) h =
      let q = and_parts (has_regular_parts names t.0) (has_regular_parts names k.0) h in both_fine (in_expression t.0) (in_expression k.0) (t.1 q.0) (k.1 q.1)
  expr_layer (Expr-F.Apply1 op x) h = x.1 (and_parts (is_prefix op) (has_regular_parts names x.0) h).1
  expr_layer (Expr-F.Apply2 op x y) h =
      let q = and_parts (is_infix op && has_regular_parts names x.0) (has_regular_parts names y.0) h in
      both_fine (in_expression x.0) (in_expression y.0) (x.1 (and_parts (is_infix op) (has_regular_parts names x.0) q.0).1) (y.1 q.1)
  expr_layer (Expr-F.Call t es) h =
      let n = length (map (has_regular_parts names) (map (λ e. e.0) es)) in
      let q = and_parts (is_call is_function t n) (every (map (has_regular_parts names) (map (λ e. e.0) es))) h in
      call_fine t (map in_expression (map (λ e. e.0) es)) (template_fine (is_function t.kind) t n q.0) (exprs es q.1)

  expr_step : (y : Expr-F E F P Q) → ExprFine (roll-Expr (opened y))
  expr_step y h =
      subst AreFine (sym (fold-roll-Expr Calls Calls Calls Calls (expression_calls in_text_order) (fill_calls in_text_order) (piece_calls in_text_order) (pair_calls in_text_order) (opened y)))
      (expr_layer y (sym (fold-roll-Expr Bool Bool Bool Bool (regular.expression_is names) (regular.fill_is names) (regular.piece_is names) (regular.pair_is names) (opened y)) ∙ h))

  abbrev fill_opened : Fill-F E F P Q → Fill-F Expr Fill TextPiece Pair
  fill_opened y = map-Fill E F P Q Expr Fill TextPiece Pair (λ e. e.0) (λ f. f.0) (λ p. p.0) (λ p. p.0) y

  fill_layer : (y : Fill-F E F P Q) → regular.fill_is names (map-Fill Expr Fill TextPiece Pair Bool Bool Bool Bool (has_regular_parts names) regular_fill regular_piece regular_pair (fill_opened y)) ≡ true
      → AreFine (fill_calls in_text_order (map-Fill Expr Fill TextPiece Pair Calls Calls Calls Calls in_expression in_fill in_piece in_pair (fill_opened y)))
  fill_layer (Fill-F.One e) h = e.1 h
  fill_layer (Fill-F.Range e f) h =
      let q = and_parts (has_regular_parts names e.0) (has_regular_parts names f.0) h in both_fine (in_expression e.0) (in_expression f.0) (e.1 q.0) (f.1 q.1)

  fill_step : (y : Fill-F E F P Q) → FillFine (roll-Fill (fill_opened y))
  fill_step y h =
      subst AreFine (sym (fold-roll-Fill Calls Calls Calls Calls (expression_calls in_text_order) (fill_calls in_text_order) (piece_calls in_text_order) (pair_calls in_text_order) (fill_opened y)))
      (fill_layer y (sym (fold-roll-Fill Bool Bool Bool Bool (regular.expression_is names) (regular.fill_is names) (regular.piece_is names) (regular.pair_is names) (fill_opened y)) ∙ h))

  abbrev piece_opened : Piece-F E F P Q → Piece-F Expr Fill TextPiece Pair
  piece_opened y = map-Piece E F P Q Expr Fill TextPiece Pair (λ e. e.0) (λ f. f.0) (λ p. p.0) (λ p. p.0) y

  piece_layer : (y : Piece-F E F P Q) → regular.piece_is names (map-Piece Expr Fill TextPiece Pair Bool Bool Bool Bool (has_regular_parts names) regular_fill regular_piece regular_pair (piece_opened y)) ≡ true
      → AreFine (piece_calls in_text_order (map-Piece Expr Fill TextPiece Pair Calls Calls Calls Calls in_expression in_fill in_piece in_pair (piece_opened y)))
  piece_layer (Piece-F.Chars b) h = tt
  piece_layer (Piece-F.Conversion e) h = e.1 h

  piece_step : (y : Piece-F E F P Q) → PieceFine (roll-Piece (piece_opened y))
  piece_step y h =
      subst AreFine (sym (fold-roll-Piece Calls Calls Calls Calls (expression_calls in_text_order) (fill_calls in_text_order) (piece_calls in_text_order) (pair_calls in_text_order) (piece_opened y)))
      (piece_layer y (sym (fold-roll-Piece Bool Bool Bool Bool (regular.expression_is names) (regular.fill_is names) (regular.piece_is names) (regular.pair_is names) (piece_opened y)) ∙ h))

  abbrev pair_opened : Pair-F E F P Q → Pair-F Expr Fill TextPiece Pair
  pair_opened y = map-Pair E F P Q Expr Fill TextPiece Pair (λ e. e.0) (λ f. f.0) (λ p. p.0) (λ p. p.0) y

  pair_step : (y : Pair-F E F P Q) → PairFine (roll-Pair (pair_opened y))
  pair_step y h =
      let q = and_parts (has_regular_parts names y.key.0) (has_regular_parts names y.associate.0)
      (sym (fold-roll-Pair Bool Bool Bool Bool (regular.expression_is names) (regular.fill_is names) (regular.piece_is names) (regular.pair_is names) (pair_opened y)) ∙ h) in
      subst AreFine (sym (fold-roll-Pair Calls Calls Calls Calls (expression_calls in_text_order) (fill_calls in_text_order) (piece_calls in_text_order) (pair_calls in_text_order) (pair_opened y)))
      (both_fine (in_expression y.key.0) (in_expression y.associate.0) (y.key.1 q.0) (y.associate.1 q.1))

  expr_fine : (e : Expr) → ExprFine e
  expr_fine =
      ind-Expr ExprFine FillFine PieceFine PairFine (λ x y is. subst (λ z. ExprFine (roll-Expr z)) is (expr_step y)) (λ x y is. subst (λ z. FillFine (roll-Fill z)) is (fill_step y))
      (λ x y is. subst (λ z. PieceFine (roll-Piece z)) is (piece_step y)) (λ x y is. subst (λ z. PairFine (roll-Pair z)) is (pair_step y))

  each_fine : (es : List Expr) → every (map (has_regular_parts names) es) ≡ true → AllByRecursion AreFine (map in_expression es)
  each_fine [] h = tt
  each_fine (e ∷ es) h = let q = and_parts (has_regular_parts names e) (every (map (has_regular_parts names) es)) h in (expr_fine e q.0, each_fine es q.1)

  -- ---- tests

  abbrev TestFine : Test → Type 0
  TestFine x = fold-Test Bool (regular.test_is names) x ≡ true → AreFine (test_by in_text_order x)

  abbrev T : Type 0
  T = (x : Test) × TestFine x

  abbrev regular_test : Test → Bool
  regular_test = fold-Test Bool (regular.test_is names)

  links : (ls : List Link) → every (map (regular.link_is names) ls) ≡ true → AreFine (flat (map (λ link. in_expression link.right) ls))
  links [] h = tt
  links (l ∷ ls) h =
      let q = and_parts (regular.link_is names l) (every (map (regular.link_is names) ls)) h in
      both_fine (in_expression l.right) (flat (map (λ link. in_expression link.right) ls)) (expr_fine l.right (and_parts (is_relation l.op) (has_regular_parts names l.right) q.0).1) (links ls q.1)

  test_layer : (y : Test-F T) → regular.test_is names (map-Test Test Bool regular_test (map-Test T Test (λ t. t.0) y)) ≡ true
      → AreFine (test_calls in_text_order (map-Test Test Calls (test_by in_text_order) (map-Test T Test (λ t. t.0) y)))
  test_layer (Test-F.Chain first ls) h =
      let q = and_parts (has_regular_parts names first && some ls) (every (map (regular.link_is names) ls)) h in
      both_fine (in_expression first) (flat (map (λ link. in_expression link.right) ls)) (expr_fine first (and_parts (has_regular_parts names first) (some ls) q.0).0) (links ls q.1)
  test_layer (Test-F.Member op x y) h =
      let q = and_parts (is_membership op && has_regular_parts names x) (has_regular_parts names y) h in
      both_fine (in_expression x) (in_expression y) (expr_fine x (and_parts (is_membership op) (has_regular_parts names x) q.0).1) (expr_fine y q.1)
  test_layer (Test-F.And a b) h =
      let q = and_parts (regular_test a.0) (regular_test b.0) h in both_fine (test_by in_text_order a.0) (test_by in_text_order b.0) (a.1 q.0) (b.1 q.1)
  test_layer (Test-F.Or a b) h =
      let q = and_parts (regular_test a.0) (regular_test b.0) h in both_fine (test_by in_text_order a.0) (test_by in_text_order b.0) (a.1 q.0) (b.1 q.1)
  test_layer (Test-F.Not a) h = a.1 h
  test_layer (Test-F.Quantified q bound x a) h =
      let p = and_parts (is_regular_bound names bound && has_regular_parts names x) (regular_test a.0) h in
      both_fine (in_expression x) (test_by in_text_order a.0) (expr_fine x (and_parts (is_regular_bound names bound) (has_regular_parts names x) p.0).1) (a.1 p.1)
  test_layer (Test-F.Call t es) h =
      let q = and_parts (is_call is_predicate t (length es)) (every (map (has_regular_parts names) es)) h in
      call_fine t (map in_expression es) (template_fine (is_predicate t.kind) t (length es) q.0) (each_fine es q.1)
  test_layer (Test-F.Refinement i) h = tt

  test_step : (y : Test-F T) → TestFine (roll-Test (map-Test T Test (λ t. t.0) y))
  test_step y h =
      subst AreFine (sym (fold-roll-Test Calls (test_calls in_text_order) (map-Test T Test (λ t. t.0) y)))
      (test_layer y (sym (fold-roll-Test Bool (regular.test_is names) (map-Test T Test (λ t. t.0) y)) ∙ h))

  test_fine : (x : Test) → TestFine x
  test_fine = ind-Test TestFine (λ x y is. subst (λ z. TestFine (roll-Test z)) is (test_step y))

-- ---- parts of commands

-- the templates in a part are regular; those of the actuals of a command stand in parts of their own
abbrev pub PartFine : Piece → Type 0
PartFine (piece.value e) = AreFine (in_expression e)
PartFine (piece.address e) = AreFine (in_expression e)
PartFine (piece.example e) = AreFine (in_expression e)
PartFine (piece.test x) = AreFine (test_by in_text_order x)
PartFine (piece.calls t n) = IsFine t
PartFine _ = Unit {0}

expression_fine : (names : Names) (e : Expr) → is_regular_expression names e ≡ true → AreFine (in_expression e)
expression_fine names e h = expr_fine names e (and_parts (has_regular_parts names e) (nat_le (height e) MOST_TREE_HEIGHT) h).0

pub part_fine : (names : Names) (commands : List (List ℕ)) (exits : Exits) (x : Piece) → is_regular_part names commands exits x ≡ true → PartFine x
part_fine names commands exits (piece.value e) h = expression_fine names e h
part_fine names commands exits (piece.address e) h = expression_fine names e (and_parts (is_regular_expression names e) (is_address e) h).0
part_fine names commands exits (piece.example e) h = expression_fine names e (and_parts (is_regular_expression names e) (is_literal e) h).0
part_fine names commands exits (piece.test x) h = test_fine names x (and_parts (fold-Test Bool (regular.test_is names) x) (nat_le (test_height x) MOST_TREE_HEIGHT) h).0
part_fine names commands exits (piece.calls t n) h = template_fine names (is_command t.kind) t n h
part_fine names commands exits (piece.line n) h = tt
part_fine names commands exits (piece.bound b) h = tt
part_fine names commands exits piece.quits h = tt
part_fine names commands exits piece.returns h = tt
part_fine names commands exits piece.reports h = tt
part_fine names commands exits (piece.refinement x) h = tt
part_fine names commands exits piece.early_else h = tt

abbrev pub PartsFine : Parts → Type 0
PartsFine parts = AllByRecursion (λ p. PartFine p.1) parts

front_fine : (xs ys : Parts) → PartsFine (xs ++ ys) → PartsFine xs
front_fine [] ys h = tt
front_fine (x ∷ xs) ys h = (h.0, front_fine xs ys h.1)

behind_fine : (xs ys : Parts) → PartsFine (xs ++ ys) → PartsFine ys
behind_fine [] ys h = h
behind_fine (x ∷ xs) ys h = behind_fine xs ys h.1

outside_fine : (xs : Parts) → PartsFine (map (λ part. (suc part.0, part.1)) xs) → PartsFine xs
outside_fine [] h = tt
outside_fine (x ∷ xs) h = (h.0, outside_fine xs h.1)

-- ---- commands, with the line of each call

abbrev pub LinedFine : Lined Template → Type 0
LinedFine ts = AllByRecursion (λ p. IsFine p.1) ts

pub both_lined : (xs ys : Lined Template) → LinedFine xs → LinedFine ys → LinedFine (xs ++ ys)
both_lined [] ys a b = b
both_lined (x ∷ xs) ys a b = (a.0, both_lined xs ys a.1 b)

at_line : (line : ℕ) (ts : Calls) → AreFine ts → LinedFine (at line ts)
at_line line [] h = tt
at_line line (t ∷ ts) h = (h.0, at_line line ts h.1)

abbrev At : Type 0
At = ℕ → Lined Template

abbrev calls_node : ActionNode → At
calls_node = fold-ActionNode At (Lined Template) (Lined Template) (node_calls in_text_order) (action_calls in_text_order) (alternative_calls in_text_order)

abbrev calls_action : Action → Lined Template
calls_action = fold-Action At (Lined Template) (Lined Template) (node_calls in_text_order) (action_calls in_text_order) (alternative_calls in_text_order)

abbrev calls_way : Alternative → Lined Template
calls_way = fold-Alternative At (Lined Template) (Lined Template) (node_calls in_text_order) (action_calls in_text_order) (alternative_calls in_text_order)

abbrev NodeFine : ActionNode → Type 0
NodeFine n = PartsFine (parts_in_node n) → (line : ℕ) → LinedFine (calls_node n line)

abbrev ActionFine : Action → Type 0
ActionFine a = PartsFine (parts_of a) → LinedFine (calls_action a)

abbrev WayFine : Alternative → Type 0
WayFine a = PartsFine (way_in a).parts → LinedFine (calls_way a)

abbrev N : Type 0
N = (n : ActionNode) × NodeFine n

abbrev A : Type 0
A = (a : Action) × ActionFine a

abbrev W : Type 0
W = (a : Alternative) × WayFine a

actions_fine : (xs : List A) → PartsFine (flat (map parts_of (map (λ a. a.0) xs))) → LinedFine (flat (map calls_action (map (λ a. a.0) xs)))
actions_fine [] h = tt
actions_fine (a ∷ xs) h =
    both_lined (calls_action a.0) (flat (map calls_action (map (λ d. d.0) xs))) (a.1 (front_fine (parts_of a.0) (flat (map parts_of (map (λ d. d.0) xs))) h))
    (actions_fine xs (behind_fine (parts_of a.0) (flat (map parts_of (map (λ d. d.0) xs))) h))

suite_fine : (xs : List A) → PartsFine (inside (map parts_of (map (λ a. a.0) xs))) → LinedFine (flat (map calls_action (map (λ a. a.0) xs)))
suite_fine xs h = actions_fine xs (outside_fine (flat (map parts_of (map (λ a. a.0) xs))) h)

ways_fine : (xs : List W) → PartsFine (ways (map way_in (map (λ a. a.0) xs))) → LinedFine (flat (map calls_way (map (λ a. a.0) xs)))
ways_fine [] h = tt
ways_fine (a ∷ []) h = both_lined (calls_way a.0) [] (a.1 h) tt
ways_fine (a ∷ b ∷ xs) h =
    let more = map way_in (map (λ d. d.0) (b ∷ xs)) in
    let early = piece.early (way_in a.0).otherwise in
    both_lined (calls_way a.0) (flat (map calls_way (map (λ d. d.0) (b ∷ xs)))) (a.1 (behind_fine early (way_in a.0).parts (front_fine (early ++ (way_in a.0).parts) (ways more) h)))
    (ways_fine (b ∷ xs) (behind_fine (early ++ (way_in a.0).parts) (ways more) h))

part_if_any : (part : Option Expr) → PartsFine (here (written_part part)) → AreFine (part_by in_text_order part)
part_if_any None h = tt
part_if_any (Some e) h = h.0

test_if_there : (x : Option Test) → PartsFine (here (tested x)) → AreFine (test_if_any_by in_text_order x)
test_if_there None h = tt
test_if_there (Some x) h = h.0

actuals_fine : (es : List Expr) → PartsFine (here (map (λ e. piece.value e) es)) → AllByRecursion AreFine (map in_expression es)
actuals_fine [] h = tt
actuals_fine (e ∷ es) h = (h.0, actuals_fine es h.1)

two_fine : (line : ℕ) (x y : Expr) → AreFine (in_expression x) → AreFine (in_expression y) → LinedFine (at line (in_expression x ++ in_expression y))
two_fine line x y a b = at_line line (in_expression x ++ in_expression y) (both_fine (in_expression x) (in_expression y) a b)

node_layer : (y : ActionNode-F N A W)
    → PartsFine (node_parts (map-ActionNode ActionNode Action Alternative Parts Parts Way parts_in_node parts_of way_in (map-ActionNode N A W ActionNode Action Alternative (λ n. n.0) (λ a. a.0) (λ a. a.0) y)))
    → (line : ℕ) → LinedFine (node_calls in_text_order (map-ActionNode ActionNode Action Alternative At (Lined Template) (Lined Template) calls_node calls_action calls_way
    (map-ActionNode N A W ActionNode Action Alternative (λ n. n.0) (λ a. a.0) (λ a. a.0) y)) line)
node_layer (ActionNode-F.Write before part after) h line = at_line line (part_by in_text_order part) (part_if_any part h)
node_layer (ActionNode-F.Put x y) h line = two_fine line x y h.0 h.1.0
node_layer (ActionNode-F.Insert x y) h line = two_fine line x y h.0 h.1.0
node_layer (ActionNode-F.Remove x y) h line = two_fine line x y h.0 h.1.0
node_layer (ActionNode-F.Delete x) h line = at_line line (in_expression x) h.0
node_layer (ActionNode-F.ReadExample x y) h line = two_fine line x y h.0 h.1.0
node_layer (ActionNode-F.ReadRaw x) h line = at_line line (in_expression x) h.0
node_layer (ActionNode-F.Check x) h line = at_line line (test_by in_text_order x) h.0
node_layer ActionNode-F.Pass h line = tt
node_layer (ActionNode-F.If x suite) h line =
    both_lined (at line (test_by in_text_order x)) (flat (map calls_action (map (λ a. a.0) suite))) (at_line line (test_by in_text_order x) h.0) (suite_fine suite h.1)
node_layer (ActionNode-F.Select ways) h line = ways_fine ways h
node_layer (ActionNode-F.While x suite) h line =
    both_lined (at line (test_by in_text_order x)) (flat (map calls_action (map (λ a. a.0) suite))) (at_line line (test_by in_text_order x) h.0) (suite_fine suite h.1)
node_layer (ActionNode-F.For names x suite) h line =
    both_lined (at line (in_expression x)) (flat (map calls_action (map (λ a. a.0) suite))) (at_line line (in_expression x) h.1.0) (suite_fine suite h.1.1)
node_layer ActionNode-F.Quit h line = tt
node_layer (ActionNode-F.Return x) h line = at_line line (in_expression x) h.0
node_layer (ActionNode-F.Report x) h line = at_line line (test_by in_text_order x) h.0
node_layer ActionNode-F.Succeed h line = tt
node_layer ActionNode-F.Fail h line = tt
node_layer (ActionNode-F.Call t es) h line = at_line line (in_text_order t (map in_expression es)) (call_fine t (map in_expression es) h.0 (actuals_fine es h.1))
node_layer (ActionNode-F.Refinement name) h line = tt

node_step : (y : ActionNode-F N A W) → NodeFine (roll-ActionNode (map-ActionNode N A W ActionNode Action Alternative (λ n. n.0) (λ a. a.0) (λ a. a.0) y))
node_step y h line =
    let x = map-ActionNode N A W ActionNode Action Alternative (λ n. n.0) (λ a. a.0) (λ a. a.0) y in
    subst (λ (f : At). LinedFine (f line)) (sym (fold-roll-ActionNode At (Lined Template) (Lined Template) (node_calls in_text_order) (action_calls in_text_order) (alternative_calls in_text_order) x))
    (node_layer y (subst PartsFine (fold-roll-ActionNode Parts Parts Way node_parts action_parts way_of x) h) line)

action_step : (y : Action-F N A W) → ActionFine (roll-Action (map-Action N A W ActionNode Action Alternative (λ n. n.0) (λ a. a.0) (λ a. a.0) y))
action_step y h =
    let x = map-Action N A W ActionNode Action Alternative (λ n. n.0) (λ a. a.0) (λ a. a.0) y in
    let parts = subst PartsFine (fold-roll-Action Parts Parts Way node_parts action_parts way_of x) h in
    subst LinedFine (sym (fold-roll-Action At (Lined Template) (Lined Template) (node_calls in_text_order) (action_calls in_text_order) (alternative_calls in_text_order) x))
    (y.node.1 parts.1 y.line)

way_step : (y : Alternative-F N A W) → WayFine (roll-Alternative (map-Alternative N A W ActionNode Action Alternative (λ n. n.0) (λ a. a.0) (λ a. a.0) y))
way_step y h =
    let x = map-Alternative N A W ActionNode Action Alternative (λ n. n.0) (λ a. a.0) (λ a. a.0) y in
    let parts = subst (λ (w : Way). PartsFine w.parts) (fold-roll-Alternative Parts Parts Way node_parts action_parts way_of x) h in
    subst LinedFine (sym (fold-roll-Alternative At (Lined Template) (Lined Template) (node_calls in_text_order) (action_calls in_text_order) (alternative_calls in_text_order) x))
    (both_lined (at y.line (test_if_any_by in_text_order y.test)) (flat (map calls_action (map (λ a. a.0) y.suite)))
    (at_line y.line (test_if_any_by in_text_order y.test) (test_if_there y.test (front_fine (here (tested y.test)) (inside (map parts_of (map (λ a. a.0) y.suite))) parts.1)))
    (suite_fine y.suite (behind_fine (here (tested y.test)) (inside (map parts_of (map (λ a. a.0) y.suite))) parts.1)))

pub action_fine : (a : Action) → ActionFine a
action_fine =
    ind-Action NodeFine ActionFine WayFine (λ x y is. subst (λ z. NodeFine (roll-ActionNode z)) is (node_step y)) (λ x y is. subst (λ z. ActionFine (roll-Action z)) is (action_step y))
    (λ x y is. subst (λ z. WayFine (roll-Alternative z)) is (way_step y))

pub suite_calls_fine : (suite : List Action) → PartsFine (flat (map parts_of suite)) → LinedFine (flat (map calls_action suite))
suite_calls_fine [] h = tt
suite_calls_fine (a ∷ suite) h =
    both_lined (calls_action a) (flat (map calls_action suite)) (action_fine a (front_fine (parts_of a) (flat (map parts_of suite)) h))
    (suite_calls_fine suite (behind_fine (parts_of a) (flat (map parts_of suite)) h))

-- those on lines up to n
upto_fine : (n : ℕ) (ts : Lined Template) → LinedFine ts → All IsFine (upto n ts)
upto_fine n [] h = All-nil IsFine
upto_fine n (t ∷ ts) h = by (nat_le t.0 n) (upto_fine n ts h.1) where
  by : (b : Bool) → All IsFine (upto n ts) → All IsFine (map (λ x. x.1) (if b then t ∷ filter (λ x. nat_le x.0 n) ts else filter (λ x. nat_le x.0 n) ts))
  by true ih = All-cons IsFine t.1 (upto n ts) h.0 ih
  by false ih = ih

pub called_fine : (n : ℕ) (ts : Lined Template) → LinedFine ts → (t : Template) → Contains (upto n ts) t → is_regular_template t ≡ true
called_fine n ts h t c = All-contains IsFine (upto n ts) t (upto_fine n ts h) c
