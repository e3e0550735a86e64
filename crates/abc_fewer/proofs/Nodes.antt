-- What stands in a unit as a call is among what it calls.
use Rattle.std.proofs.Common.{◌≡◌, ◌∙◌, ℕ, Bool, true, false, zero, suc, List, [], ◌∷◌, ◌++◌, map, Option, Some, None, ap, sym, subst, refl, arith}
use Rattle.std.specs.Prelude.{◌≤◌, nat_le, if◌then◌else◌}
use Rattle.std.specs.List.{AllByRecursion, Contains}
use Rattle.std.specs.declared.cmp.Ordering.{Ordering}
use Rattle.std.specs.declared.cmp.Ordering.TheVariants.{Less, Equal, Greater}
use Rattle.std.specs.Ordering.{match_ordering}
use Rattle.std.proofs.lemmas.Bool.Decides.{nat_tests}
use Rattle.std.proofs.lemmas.Map.Lookups.{exact_bytes}
use Rattle.abc_tree.specs.Lists.{flat}
use Rattle.abc_tree.specs.Lined.{Lined, at, upto}
use Rattle.abc_tree.specs.Templates.{template_cmp, template_text}
use Rattle.abc_tree.specs.declared.templates.Template.{Template}
use Rattle.abc_tree.specs.declared.formulas.Expr.{Expr, roll-Expr, map-Expr}
use Rattle.abc_tree.specs.declared.formulas.Expr.TheOpen.{Expr-F, Fill-F, Piece-F, Pair-F}
use Rattle.abc_tree.specs.declared.formulas.Expr.TheFolds.{ind-Expr, fold-roll-Expr, fold-roll-Fill, fold-roll-Piece, fold-roll-Pair}
use Rattle.abc_tree.specs.declared.formulas.Fill.{Fill, fold-Fill, roll-Fill, map-Fill}
use Rattle.abc_tree.specs.declared.formulas.Piece.{Piece, fold-Piece, roll-Piece, map-Piece}
use Rattle.abc_tree.specs.declared.formulas.Pair.{Pair, fold-Pair, roll-Pair, map-Pair}
use Rattle.abc_tree.specs.declared.formulas.Link.{Link}
use Rattle.abc_tree.specs.declared.formulas.Test.{Test, roll-Test, map-Test}
use Rattle.abc_tree.specs.declared.formulas.Test.TheOpen.{Test-F}
use Rattle.abc_tree.specs.declared.formulas.Test.TheFolds.{ind-Test, fold-roll-Test}
use Rattle.abc_tree.specs.declared.commands.Action.{Action, roll-Action, map-Action}
use Rattle.abc_tree.specs.declared.commands.ActionNode.{ActionNode, fold-ActionNode, roll-ActionNode, map-ActionNode}
use Rattle.abc_tree.specs.declared.commands.ActionNode.TheOpen.{Action-F, ActionNode-F, Alternative-F}
use Rattle.abc_tree.specs.declared.commands.ActionNode.TheFolds.{ind-Action, fold-roll-ActionNode, fold-roll-Action, fold-roll-Alternative}
use Rattle.abc_tree.specs.declared.commands.Alternative.{Alternative, fold-Alternative, roll-Alternative, map-Alternative}
use Rattle.abc_tree.specs.declared.commands.Refinement.{Refinement}
use Rattle.abc_tree.specs.declared.commands.Unit.{Unit as Routine}
use Rattle.abc_tree.specs.Calls.{Calls, At, begins_with_place, template_first, in_text_order, piece_calls, fill_calls, pair_calls, expression_calls, expression_by, test_calls, test_by, part_by, test_if_any_by, node_calls, action_calls, alternative_calls, action_by, refinement_by, unit_by, calls_in_unit, unit_nodes, with_call, with_calls, called_upto}

-- ---- each of two lists

module _ {X : Type 0} (P : X → Type 0) where
  each_left : (xs ys : List X) → AllByRecursion P (xs ++ ys) → AllByRecursion P xs
  each_left [] ys a = tt
  each_left (x ∷ xs) ys a = (a.0, each_left xs ys a.1)

  each_right : (xs ys : List X) → AllByRecursion P (xs ++ ys) → AllByRecursion P ys
  each_right [] ys a = a
  each_right (x ∷ xs) ys a = each_right xs ys a.1

  each_both : (xs ys : List X) → AllByRecursion P xs → AllByRecursion P ys → AllByRecursion P (xs ++ ys)
  each_both [] ys a b = b
  each_both (x ∷ xs) ys a b = (a.0, each_both xs ys a.1 b)

  -- where each of the first list has it, each of the second does
  abbrev Keeps : List X → List X → Type 0
  Keeps xs ys = AllByRecursion P xs → AllByRecursion P ys

  two_keep : (xs ys us vs : List X) → Keeps xs us → Keeps ys vs → Keeps (xs ++ ys) (us ++ vs)
  two_keep xs ys us vs f g a = each_both us vs (f (each_left xs ys a)) (g (each_right xs ys a))

  flat_keep : {Y : Type 0} (f g : Y → List X) (es : List ((y : Y) × Keeps (f y) (g y))) → Keeps (flat (map f (map (λ e. e.0) es))) (flat (map g (map (λ e. e.0) es)))
  flat_keep f g [] a = tt
  flat_keep f g (e ∷ es) a = two_keep (f e.0) (flat (map f (map (λ d. d.0) es))) (g e.0) (flat (map g (map (λ d. d.0) es))) e.1 (flat_keep f g es) a

-- ---- expressions and tests

module _ (join : Template → List Calls → Calls) where
  abbrev fill_by : Fill → Calls
  fill_by = fold-Fill Calls Calls Calls Calls (expression_calls join) (fill_calls join) (piece_calls join) (pair_calls join)

  abbrev piece_by : Piece → Calls
  piece_by = fold-Piece Calls Calls Calls Calls (expression_calls join) (fill_calls join) (piece_calls join) (pair_calls join)

  abbrev pair_by : Pair → Calls
  pair_by = fold-Pair Calls Calls Calls Calls (expression_calls join) (fill_calls join) (piece_calls join) (pair_calls join)

module _ (P : Template → Type 0) where
  abbrev ExprKept : Expr → Type 0
  ExprKept e = Keeps P (expression_by template_first e) (expression_by in_text_order e)

  abbrev FillKept : Fill → Type 0
  FillKept f = Keeps P (fill_by template_first f) (fill_by in_text_order f)

  abbrev PieceKept : Piece → Type 0
  PieceKept p = Keeps P (piece_by template_first p) (piece_by in_text_order p)

  abbrev PairKept : Pair → Type 0
  PairKept p = Keeps P (pair_by template_first p) (pair_by in_text_order p)

  abbrev E : Type 0
  E = (e : Expr) × ExprKept e

  abbrev F : Type 0
  F = (f : Fill) × FillKept f

  abbrev G : Type 0
  G = (p : Piece) × PieceKept p

  abbrev Q : Type 0
  Q = (p : Pair) × PairKept p

  -- a call with its actuals: its template goes to its place
  placed : (b : Bool) (t : Template) (first : Calls) (rest : List Calls) → AllByRecursion P first → AllByRecursion P (flat rest) → P t
      → AllByRecursion P (if b then first ++ (t ∷ flat rest) else t ∷ (first ++ flat rest))
  placed true t first rest a b p = each_both P first (t ∷ flat rest) a (p, b)
  placed false t first rest a b p = (p, each_both P first (flat rest) a b)

  call_kept : (t : Template) (es : List E) → Keeps P (template_first t (map (expression_by template_first) (map (λ e. e.0) es))) (in_text_order t (map (expression_by in_text_order) (map (λ e. e.0) es)))
  call_kept t [] a = (a.0, tt)
  call_kept t (e ∷ es) a =
      let front : AllByRecursion P (expression_by template_first e.0) = each_left P (expression_by template_first e.0) (flat (map (expression_by template_first) (map (λ d. d.0) es))) a.1 in
      let back : AllByRecursion P (flat (map (expression_by template_first) (map (λ d. d.0) es))) = each_right P (expression_by template_first e.0) (flat (map (expression_by template_first) (map (λ d. d.0) es))) a.1 in
      placed (begins_with_place t.words) t (expression_by in_text_order e.0) (map (expression_by in_text_order) (map (λ d. d.0) es)) (e.1 front) (flat_keep P (expression_by template_first) (expression_by in_text_order) es back) a.0

  abbrev opened : Expr-F E F G Q → Expr-F Expr Fill Piece Pair
  opened y = map-Expr E F G Q Expr Fill Piece Pair (λ e. e.0) (λ f. f.0) (λ p. p.0) (λ p. p.0) y

  abbrev layer : (Template → List Calls → Calls) → Expr-F Expr Fill Piece Pair → Calls
  layer join x = expression_calls join (map-Expr Expr Fill Piece Pair Calls Calls Calls Calls (expression_by join) (fill_by join) (piece_by join) (pair_by join) x)

  expr_layer : (y : Expr-F E F G Q) → Keeps P (layer template_first (opened y)) (layer in_text_order (opened y))
  expr_layer (Expr-F.Number n) a = tt
  expr_layer (Expr-F.Text ps) a = flat_keep P (piece_by template_first) (piece_by in_text_order) ps a
  expr_layer (Expr-F.Name i) a = tt
  expr_layer (Expr-F.Compound es) a = flat_keep P (expression_by template_first) (expression_by in_text_order) es a
  expr_layer Expr-F.Empty a = tt
  expr_layer (Expr-F.List fs) a = flat_keep P (fill_by template_first) (fill_by in_text_order) fs a
  expr_layer (Expr-F.Table ps) a = flat_keep P (pair_by template_first) (pair_by in_text_order) ps a
  expr_layer (Expr-F.Select t k) a = two_keep P (expression_by template_first t.0) (expression_by template_first k.0) (expression_by in_text_order t.0) (expression_by in_text_order k.0) t.1 k.1 a
  expr_layer (Expr-F.Apply1 op x) a = x.1 a
  expr_layer (Expr-F.Apply2 op x y) a = two_keep P (expression_by template_first x.0) (expression_by template_first y.0) (expression_by in_text_order x.0) (expression_by in_text_order y.0) x.1 y.1 a
  expr_layer (Expr-F.Call t es) a = call_kept t es a

  -- a property of both forms of a fold goes over equations
  over : (xs ys us vs : Calls) → xs ≡ us → ys ≡ vs → Keeps P us vs → Keeps P xs ys
  over xs ys us vs e f k a = subst (λ zs. AllByRecursion P zs) (sym f) (k (subst (λ zs. AllByRecursion P zs) e a))

  expr_step : (y : Expr-F E F G Q) → ExprKept (roll-Expr (opened y))
  expr_step y =
      over (expression_by template_first (roll-Expr (opened y))) (expression_by in_text_order (roll-Expr (opened y))) (layer template_first (opened y)) (layer in_text_order (opened y))
      (fold-roll-Expr Calls Calls Calls Calls (expression_calls template_first) (fill_calls template_first) (piece_calls template_first) (pair_calls template_first) (opened y))
      (fold-roll-Expr Calls Calls Calls Calls (expression_calls in_text_order) (fill_calls in_text_order) (piece_calls in_text_order) (pair_calls in_text_order) (opened y)) (expr_layer y)

  abbrev opened_fill : Fill-F E F G Q → Fill-F Expr Fill Piece Pair
  opened_fill y = map-Fill E F G Q Expr Fill Piece Pair (λ e. e.0) (λ f. f.0) (λ p. p.0) (λ p. p.0) y

  abbrev fill_layer : (Template → List Calls → Calls) → Fill-F Expr Fill Piece Pair → Calls
  fill_layer join x = fill_calls join (map-Fill Expr Fill Piece Pair Calls Calls Calls Calls (expression_by join) (fill_by join) (piece_by join) (pair_by join) x)

  fill_kept : (y : Fill-F E F G Q) → Keeps P (fill_layer template_first (opened_fill y)) (fill_layer in_text_order (opened_fill y))
  fill_kept (Fill-F.One e) a = e.1 a
  fill_kept (Fill-F.Range e f) a = two_keep P (expression_by template_first e.0) (expression_by template_first f.0) (expression_by in_text_order e.0) (expression_by in_text_order f.0) e.1 f.1 a

  fill_step : (y : Fill-F E F G Q) → FillKept (roll-Fill (opened_fill y))
  fill_step y =
      over (fill_by template_first (roll-Fill (opened_fill y))) (fill_by in_text_order (roll-Fill (opened_fill y))) (fill_layer template_first (opened_fill y)) (fill_layer in_text_order (opened_fill y))
      (fold-roll-Fill Calls Calls Calls Calls (expression_calls template_first) (fill_calls template_first) (piece_calls template_first) (pair_calls template_first) (opened_fill y))
      (fold-roll-Fill Calls Calls Calls Calls (expression_calls in_text_order) (fill_calls in_text_order) (piece_calls in_text_order) (pair_calls in_text_order) (opened_fill y)) (fill_kept y)

  abbrev opened_piece : Piece-F E F G Q → Piece-F Expr Fill Piece Pair
  opened_piece y = map-Piece E F G Q Expr Fill Piece Pair (λ e. e.0) (λ f. f.0) (λ p. p.0) (λ p. p.0) y

  abbrev piece_layer : (Template → List Calls → Calls) → Piece-F Expr Fill Piece Pair → Calls
  piece_layer join x = piece_calls join (map-Piece Expr Fill Piece Pair Calls Calls Calls Calls (expression_by join) (fill_by join) (piece_by join) (pair_by join) x)

  piece_kept : (y : Piece-F E F G Q) → Keeps P (piece_layer template_first (opened_piece y)) (piece_layer in_text_order (opened_piece y))
  piece_kept (Piece-F.Chars b) a = tt
  piece_kept (Piece-F.Conversion e) a = e.1 a

  piece_step : (y : Piece-F E F G Q) → PieceKept (roll-Piece (opened_piece y))
  piece_step y =
      over (piece_by template_first (roll-Piece (opened_piece y))) (piece_by in_text_order (roll-Piece (opened_piece y))) (piece_layer template_first (opened_piece y)) (piece_layer in_text_order (opened_piece y))
      (fold-roll-Piece Calls Calls Calls Calls (expression_calls template_first) (fill_calls template_first) (piece_calls template_first) (pair_calls template_first) (opened_piece y))
      (fold-roll-Piece Calls Calls Calls Calls (expression_calls in_text_order) (fill_calls in_text_order) (piece_calls in_text_order) (pair_calls in_text_order) (opened_piece y)) (piece_kept y)

  abbrev opened_pair : Pair-F E F G Q → Pair-F Expr Fill Piece Pair
  opened_pair y = map-Pair E F G Q Expr Fill Piece Pair (λ e. e.0) (λ f. f.0) (λ p. p.0) (λ p. p.0) y

  abbrev pair_layer : (Template → List Calls → Calls) → Pair-F Expr Fill Piece Pair → Calls
  pair_layer join x = pair_calls join (map-Pair Expr Fill Piece Pair Calls Calls Calls Calls (expression_by join) (fill_by join) (piece_by join) (pair_by join) x)

  pair_step : (y : Pair-F E F G Q) → PairKept (roll-Pair (opened_pair y))
  pair_step y =
      over (pair_by template_first (roll-Pair (opened_pair y))) (pair_by in_text_order (roll-Pair (opened_pair y))) (pair_layer template_first (opened_pair y)) (pair_layer in_text_order (opened_pair y))
      (fold-roll-Pair Calls Calls Calls Calls (expression_calls template_first) (fill_calls template_first) (piece_calls template_first) (pair_calls template_first) (opened_pair y))
      (fold-roll-Pair Calls Calls Calls Calls (expression_calls in_text_order) (fill_calls in_text_order) (piece_calls in_text_order) (pair_calls in_text_order) (opened_pair y))
      (two_keep P (expression_by template_first y.key.0) (expression_by template_first y.associate.0) (expression_by in_text_order y.key.0) (expression_by in_text_order y.associate.0) y.key.1 y.associate.1)

  expr_kept : (e : Expr) → ExprKept e
  expr_kept =
      ind-Expr ExprKept FillKept PieceKept PairKept (λ x y is. subst (λ z. ExprKept (roll-Expr z)) is (expr_step y)) (λ x y is. subst (λ z. FillKept (roll-Fill z)) is (fill_step y))
      (λ x y is. subst (λ z. PieceKept (roll-Piece z)) is (piece_step y)) (λ x y is. subst (λ z. PairKept (roll-Pair z)) is (pair_step y))

  two_exprs : (x y : Expr) → Keeps P (expression_by template_first x ++ expression_by template_first y) (expression_by in_text_order x ++ expression_by in_text_order y)
  two_exprs x y = two_keep P (expression_by template_first x) (expression_by template_first y) (expression_by in_text_order x) (expression_by in_text_order y) (expr_kept x) (expr_kept y)

  abbrev with_kept : List Expr → List E
  with_kept [] = []
  with_kept (e ∷ es) = (e, expr_kept e) ∷ with_kept es

  without_kept : (es : List Expr) → map (λ e. e.0) (with_kept es) ≡ es
  without_kept [] = refl
  without_kept (e ∷ es) = ap (λ ds. e ∷ ds) (without_kept es)

  actuals_kept : (t : Template) (es : List Expr) → Keeps P (template_first t (map (expression_by template_first) es)) (in_text_order t (map (expression_by in_text_order) es))
  actuals_kept t es = subst (λ ds. Keeps P (template_first t (map (expression_by template_first) ds)) (in_text_order t (map (expression_by in_text_order) ds))) (without_kept es) (call_kept t (with_kept es))

  links_kept : (ls : List Link) → Keeps P (flat (map (λ link. expression_by template_first link.right) ls)) (flat (map (λ link. expression_by in_text_order link.right) ls))
  links_kept [] a = tt
  links_kept (l ∷ ls) a =
      two_keep P (expression_by template_first l.right) (flat (map (λ link. expression_by template_first link.right) ls)) (expression_by in_text_order l.right) (flat (map (λ link. expression_by in_text_order link.right) ls)) (expr_kept l.right) (links_kept ls) a

  abbrev TestKept : Test → Type 0
  TestKept t = Keeps P (test_by template_first t) (test_by in_text_order t)

  abbrev T : Type 0
  T = (t : Test) × TestKept t

  abbrev test_layer : (Template → List Calls → Calls) → Test-F T → Calls
  test_layer join y = test_calls join (map-Test Test Calls (test_by join) (map-Test T Test (λ t. t.0) y))

  test_kept : (y : Test-F T) → Keeps P (test_layer template_first y) (test_layer in_text_order y)
  test_kept (Test-F.Chain first ls) a = two_keep P (expression_by template_first first) (flat (map (λ link. expression_by template_first link.right) ls)) (expression_by in_text_order first) (flat (map (λ link. expression_by in_text_order link.right) ls)) (expr_kept first) (links_kept ls) a
  test_kept (Test-F.Member op e t) a = two_exprs e t a
  test_kept (Test-F.And b c) a = two_keep P (test_by template_first b.0) (test_by template_first c.0) (test_by in_text_order b.0) (test_by in_text_order c.0) b.1 c.1 a
  test_kept (Test-F.Or b c) a = two_keep P (test_by template_first b.0) (test_by template_first c.0) (test_by in_text_order b.0) (test_by in_text_order c.0) b.1 c.1 a
  test_kept (Test-F.Not b) a = b.1 a
  test_kept (Test-F.Quantified q names x b) a = two_keep P (expression_by template_first x) (test_by template_first b.0) (expression_by in_text_order x) (test_by in_text_order b.0) (expr_kept x) b.1 a
  test_kept (Test-F.Call t es) a = actuals_kept t es a
  test_kept (Test-F.Refinement i) a = tt

  test_step : (y : Test-F T) → TestKept (roll-Test (map-Test T Test (λ t. t.0) y))
  test_step y =
      over (test_by template_first (roll-Test (map-Test T Test (λ t. t.0) y))) (test_by in_text_order (roll-Test (map-Test T Test (λ t. t.0) y))) (test_layer template_first y) (test_layer in_text_order y)
      (fold-roll-Test Calls (test_calls template_first) (map-Test T Test (λ t. t.0) y)) (fold-roll-Test Calls (test_calls in_text_order) (map-Test T Test (λ t. t.0) y)) (test_kept y)

  any_test_kept : (t : Test) → TestKept t
  any_test_kept = ind-Test TestKept (λ x y is. subst (λ z. TestKept (roll-Test z)) is (test_step y))

  part_kept : (part : Option Expr) → Keeps P (part_by template_first part) (part_by in_text_order part)
  part_kept None a = tt
  part_kept (Some e) a = expr_kept e a

  tested_kept : (t : Option Test) → Keeps P (test_if_any_by template_first t) (test_if_any_by in_text_order t)
  tested_kept None a = tt
  tested_kept (Some t) a = any_test_kept t a

-- ---- commands, with the line of each

module _ (R : ℕ × Template → Type 0) where
  abbrev OnLine : ℕ → Template → Type 0
  OnLine line t = R (line, t)

  from_line : (line : ℕ) (ts : Calls) → AllByRecursion R (at line ts) → AllByRecursion (OnLine line) ts
  from_line line [] a = tt
  from_line line (t ∷ ts) a = (a.0, from_line line ts a.1)

  to_line : (line : ℕ) (ts : Calls) → AllByRecursion (OnLine line) ts → AllByRecursion R (at line ts)
  to_line line [] a = tt
  to_line line (t ∷ ts) a = (a.0, to_line line ts a.1)

  -- calls that keep it keep it on their line
  lined : (line : ℕ) (xs ys : Calls) → Keeps (OnLine line) xs ys → Keeps R (at line xs) (at line ys)
  lined line xs ys k a = to_line line ys (k (from_line line xs a))

  module _ (join : Template → List Calls → Calls) where
    abbrev node_by : ActionNode → At
    node_by = fold-ActionNode At (Lined Template) (Lined Template) (node_calls join) (action_calls join) (alternative_calls join)

    abbrev way_by : Alternative → Lined Template
    way_by = fold-Alternative At (Lined Template) (Lined Template) (node_calls join) (action_calls join) (alternative_calls join)

  abbrev NodeKept : ActionNode → Type 0
  NodeKept n = (line : ℕ) → Keeps R (node_by template_first n line) (node_by in_text_order n line)

  abbrev ActionKept : Action → Type 0
  ActionKept a = Keeps R (action_by template_first a) (action_by in_text_order a)

  abbrev WayKept : Alternative → Type 0
  WayKept a = Keeps R (way_by template_first a) (way_by in_text_order a)

  abbrev N : Type 0
  N = (n : ActionNode) × NodeKept n

  abbrev A : Type 0
  A = (a : Action) × ActionKept a

  abbrev W : Type 0
  W = (a : Alternative) × WayKept a

  abbrev opened_node : ActionNode-F N A W → ActionNode-F ActionNode Action Alternative
  opened_node y = map-ActionNode N A W ActionNode Action Alternative (λ n. n.0) (λ a. a.0) (λ a. a.0) y

  abbrev node_layer : (Template → List Calls → Calls) → ActionNode-F ActionNode Action Alternative → At
  node_layer join x = node_calls join (map-ActionNode ActionNode Action Alternative At (Lined Template) (Lined Template) (node_by join) (action_by join) (way_by join) x)

  suite_kept : (xs : List A) → Keeps R (flat (map (action_by template_first) (map (λ a. a.0) xs))) (flat (map (action_by in_text_order) (map (λ a. a.0) xs)))
  suite_kept xs = flat_keep R (action_by template_first) (action_by in_text_order) xs

  with_suite : (line : ℕ) (us vs : Calls) (xs : List A) → Keeps (OnLine line) us vs
      → Keeps R (at line us ++ flat (map (action_by template_first) (map (λ a. a.0) xs))) (at line vs ++ flat (map (action_by in_text_order) (map (λ a. a.0) xs)))
  with_suite line us vs xs k = two_keep R (at line us) (flat (map (action_by template_first) (map (λ a. a.0) xs))) (at line vs) (flat (map (action_by in_text_order) (map (λ a. a.0) xs))) (lined line us vs k) (suite_kept xs)

  node_kept : (y : ActionNode-F N A W) (line : ℕ) → Keeps R (node_layer template_first (opened_node y) line) (node_layer in_text_order (opened_node y) line)
  node_kept (ActionNode-F.Write before part after) line = lined line (part_by template_first part) (part_by in_text_order part) (part_kept (OnLine line) part)
  node_kept (ActionNode-F.Put x y) line = lined line (expression_by template_first x ++ expression_by template_first y) (expression_by in_text_order x ++ expression_by in_text_order y) (two_exprs (OnLine line) x y)
  node_kept (ActionNode-F.Insert x y) line = lined line (expression_by template_first x ++ expression_by template_first y) (expression_by in_text_order x ++ expression_by in_text_order y) (two_exprs (OnLine line) x y)
  node_kept (ActionNode-F.Remove x y) line = lined line (expression_by template_first x ++ expression_by template_first y) (expression_by in_text_order x ++ expression_by in_text_order y) (two_exprs (OnLine line) x y)
  node_kept (ActionNode-F.Delete x) line = lined line (expression_by template_first x) (expression_by in_text_order x) (expr_kept (OnLine line) x)
  node_kept (ActionNode-F.ReadExample x y) line = lined line (expression_by template_first x ++ expression_by template_first y) (expression_by in_text_order x ++ expression_by in_text_order y) (two_exprs (OnLine line) x y)
  node_kept (ActionNode-F.ReadRaw x) line = lined line (expression_by template_first x) (expression_by in_text_order x) (expr_kept (OnLine line) x)
  node_kept (ActionNode-F.Check t) line = lined line (test_by template_first t) (test_by in_text_order t) (any_test_kept (OnLine line) t)
  node_kept ActionNode-F.Pass line = λ a. tt
  node_kept (ActionNode-F.If t suite) line = with_suite line (test_by template_first t) (test_by in_text_order t) suite (any_test_kept (OnLine line) t)
  node_kept (ActionNode-F.Select ways) line = flat_keep R (way_by template_first) (way_by in_text_order) ways
  node_kept (ActionNode-F.While t suite) line = with_suite line (test_by template_first t) (test_by in_text_order t) suite (any_test_kept (OnLine line) t)
  node_kept (ActionNode-F.For names x suite) line = with_suite line (expression_by template_first x) (expression_by in_text_order x) suite (expr_kept (OnLine line) x)
  node_kept ActionNode-F.Quit line = λ a. tt
  node_kept (ActionNode-F.Return x) line = lined line (expression_by template_first x) (expression_by in_text_order x) (expr_kept (OnLine line) x)
  node_kept (ActionNode-F.Report t) line = lined line (test_by template_first t) (test_by in_text_order t) (any_test_kept (OnLine line) t)
  node_kept ActionNode-F.Succeed line = λ a. tt
  node_kept ActionNode-F.Fail line = λ a. tt
  node_kept (ActionNode-F.Call t es) line = lined line (template_first t (map (expression_by template_first) es)) (in_text_order t (map (expression_by in_text_order) es)) (actuals_kept (OnLine line) t es)
  node_kept (ActionNode-F.Refinement name) line = λ a. tt

  over_lined : (xs ys us vs : Lined Template) → xs ≡ us → ys ≡ vs → Keeps R us vs → Keeps R xs ys
  over_lined xs ys us vs e f k a = subst (λ zs. AllByRecursion R zs) (sym f) (k (subst (λ zs. AllByRecursion R zs) e a))

  node_step : (y : ActionNode-F N A W) → NodeKept (roll-ActionNode (opened_node y))
  node_step y line =
      over_lined (node_by template_first (roll-ActionNode (opened_node y)) line) (node_by in_text_order (roll-ActionNode (opened_node y)) line) (node_layer template_first (opened_node y) line) (node_layer in_text_order (opened_node y) line)
      (ap (λ (f : At). f line) (fold-roll-ActionNode At (Lined Template) (Lined Template) (node_calls template_first) (action_calls template_first) (alternative_calls template_first) (opened_node y)))
      (ap (λ (f : At). f line) (fold-roll-ActionNode At (Lined Template) (Lined Template) (node_calls in_text_order) (action_calls in_text_order) (alternative_calls in_text_order) (opened_node y))) (node_kept y line)

  abbrev opened_action : Action-F N A W → Action-F ActionNode Action Alternative
  opened_action y = map-Action N A W ActionNode Action Alternative (λ n. n.0) (λ a. a.0) (λ a. a.0) y

  action_step : (y : Action-F N A W) → ActionKept (roll-Action (opened_action y))
  action_step y =
      over_lined (action_by template_first (roll-Action (opened_action y))) (action_by in_text_order (roll-Action (opened_action y))) (node_by template_first y.node.0 y.line) (node_by in_text_order y.node.0 y.line)
      (fold-roll-Action At (Lined Template) (Lined Template) (node_calls template_first) (action_calls template_first) (alternative_calls template_first) (opened_action y))
      (fold-roll-Action At (Lined Template) (Lined Template) (node_calls in_text_order) (action_calls in_text_order) (alternative_calls in_text_order) (opened_action y)) (y.node.1 y.line)

  abbrev opened_way : Alternative-F N A W → Alternative-F ActionNode Action Alternative
  opened_way y = map-Alternative N A W ActionNode Action Alternative (λ n. n.0) (λ a. a.0) (λ a. a.0) y

  way_step : (y : Alternative-F N A W) → WayKept (roll-Alternative (opened_way y))
  way_step y =
      over_lined (way_by template_first (roll-Alternative (opened_way y))) (way_by in_text_order (roll-Alternative (opened_way y)))
      (at y.line (test_if_any_by template_first y.test) ++ flat (map (action_by template_first) (map (λ a. a.0) y.suite))) (at y.line (test_if_any_by in_text_order y.test) ++ flat (map (action_by in_text_order) (map (λ a. a.0) y.suite)))
      (fold-roll-Alternative At (Lined Template) (Lined Template) (node_calls template_first) (action_calls template_first) (alternative_calls template_first) (opened_way y))
      (fold-roll-Alternative At (Lined Template) (Lined Template) (node_calls in_text_order) (action_calls in_text_order) (alternative_calls in_text_order) (opened_way y))
      (with_suite y.line (test_if_any_by template_first y.test) (test_if_any_by in_text_order y.test) y.suite (tested_kept (OnLine y.line) y.test))

  action_kept : (a : Action) → ActionKept a
  action_kept =
      ind-Action NodeKept ActionKept WayKept (λ x y is. subst (λ z. NodeKept (roll-ActionNode z)) is (node_step y)) (λ x y is. subst (λ z. ActionKept (roll-Action z)) is (action_step y))
      (λ x y is. subst (λ z. WayKept (roll-Alternative z)) is (way_step y))

  actions_kept : (xs : List Action) → Keeps R (flat (map (action_by template_first) xs)) (flat (map (action_by in_text_order) xs))
  actions_kept [] a = tt
  actions_kept (x ∷ xs) a = two_keep R (action_by template_first x) (flat (map (action_by template_first) xs)) (action_by in_text_order x) (flat (map (action_by in_text_order) xs)) (action_kept x) (actions_kept xs) a

  refinements_kept : (rs : List Refinement) → Keeps R (flat (map (refinement_by template_first) rs)) (flat (map (refinement_by in_text_order) rs))
  refinements_kept [] a = tt
  refinements_kept (r ∷ rs) a = two_keep R (refinement_by template_first r) (flat (map (refinement_by template_first) rs)) (refinement_by in_text_order r) (flat (map (refinement_by in_text_order) rs)) (actions_kept r.suite) (refinements_kept rs) a

  unit_kept : (u : Routine) → Keeps R (unit_by template_first u) (unit_by in_text_order u)
  unit_kept u =
      two_keep R (flat (map (action_by template_first) u.body)) (flat (map (refinement_by template_first) u.refinements)) (flat (map (action_by in_text_order) u.body)) (flat (map (refinement_by in_text_order) u.refinements))
      (actions_kept u.body) (refinements_kept u.refinements)

-- ---- on the first lines

-- on a line that counts
abbrev Counts : (Template → Type 0) → ℕ → ℕ × Template → Type 0
Counts P n x = nat_le x.0 n ≡ true → P x.1

from_upto : (P : Template → Type 0) (n : ℕ) (xs : Lined Template) → AllByRecursion P (upto n xs) → AllByRecursion (Counts P n) xs
from_upto P n [] a = tt
from_upto P n (x ∷ xs) a = by_line (nat_le x.0 n) refl (from_upto P n xs)
  where
    by_line : (b : Bool) → nat_le x.0 n ≡ b → (AllByRecursion P (upto n xs) → AllByRecursion (Counts P n) xs) → AllByRecursion (Counts P n) (x ∷ xs)
    by_line true is rest = let f : AllByRecursion P (x.1 ∷ upto n xs) = rw is at a in ((λ e. f.0), rest f.1)
    by_line false is rest = let f : AllByRecursion P (upto n xs) = rw is at a in ((λ e. absurd (let g : true ≡ false = sym e ∙ is in cc)), rest f)

to_upto : (P : Template → Type 0) (n : ℕ) (xs : Lined Template) → AllByRecursion (Counts P n) xs → AllByRecursion P (upto n xs)
to_upto P n [] a = tt
to_upto P n (x ∷ xs) a = by_line (nat_le x.0 n) refl (to_upto P n xs a.1)
  where
    by_line : (b : Bool) → nat_le x.0 n ≡ b → AllByRecursion P (upto n xs) → AllByRecursion P (upto n (x ∷ xs))
    by_line true is rest = rw is (a.0 is, rest)
    by_line false is rest = rw is rest

-- ---- what is called has each

abbrev texts : Calls → List (List ℕ)
texts = map template_text

-- its text is among these
abbrev pub IsNoted : Calls → Template → Type 0
IsNoted found t = Contains (texts found) (template_text t)

later : (x : Template) (xs : Calls) (t : Template) → IsNoted xs t → IsNoted (x ∷ xs) t
later x xs t m = (suc m.0, omega (arith, m.1), m.2)

first : (x : Template) (xs : Calls) (t : Template) → template_text x ≡ template_text t → IsNoted (x ∷ xs) t
first x xs t e = (zero, omega arith, e)

noted_here : (t : Template) (found : Calls) → IsNoted (with_call t found) t
noted_here t [] = first t [] t refl
noted_here t (x ∷ xs) = by_order (template_cmp x t) refl (noted_here t xs)
  where
    by_order : (o : Ordering) → template_cmp x t ≡ o → IsNoted (with_call t xs) t → IsNoted (match_ordering o (x ∷ with_call t xs) ((if false then t else x) ∷ xs) (t ∷ x ∷ xs)) t
    by_order Less is rest = later x (with_call t xs) t rest
    by_order Equal is rest = first x xs t (exact_bytes (template_text x) (template_text t) is)
    by_order Greater is rest = first t (x ∷ xs) t refl

still_noted : (u : Template) (found : Calls) (t : Template) → IsNoted found t → IsNoted (with_call u found) t
still_noted u [] t m = absurd (omega (arith, m.1))
still_noted u (x ∷ xs) t m = by_order (template_cmp x u) m (still_noted u xs t)
  where
    by_order : (o : Ordering) → IsNoted (x ∷ xs) t → (IsNoted xs t → IsNoted (with_call u xs) t) → IsNoted (match_ordering o (x ∷ with_call u xs) ((if false then u else x) ∷ xs) (u ∷ x ∷ xs)) t
    by_order Less (zero, lt, e) rest = first x (with_call u xs) t e
    by_order Less (suc i, lt, e) rest = later x (with_call u xs) t (rest (i, omega (arith, lt), e))
    by_order Equal m rest = m
    by_order Greater m rest = later u (x ∷ xs) t m

all_still : (us found : Calls) (t : Template) → IsNoted found t → IsNoted (with_calls found us) t
all_still [] found t m = m
all_still (u ∷ us) found t m = all_still us (with_call u found) t (still_noted u found t m)

noted_among : (us found all : Calls) → with_calls found us ≡ all → AllByRecursion (IsNoted all) us
noted_among [] found all e = tt
noted_among (u ∷ us) found all e = (subst (λ ts. IsNoted ts u) e (all_still us (with_call u found) u (noted_here u found)), noted_among us (with_call u found) all e)

contained : (P : Template → Type 0) (ts : Calls) (t : Template) → AllByRecursion P ts → Contains ts t → P t
contained P [] t a (i, lt, e) = absurd (omega (arith, lt))
contained P (u ∷ ts) t a (zero, lt, e) = subst P e a.0
contained P (u ∷ ts) t a (suc i, lt, e) = contained P ts t a.1 (i, omega (arith, lt), e)

pub nodes_called : (n : ℕ) (unit : Routine) (t : Template) → Contains (unit_nodes n unit) t → IsNoted (called_upto n unit) t
nodes_called n unit t m =
    contained (IsNoted (called_upto n unit)) (unit_nodes n unit) t
    (to_upto (IsNoted (called_upto n unit)) n (unit_by in_text_order unit) (unit_kept (Counts (IsNoted (called_upto n unit)) n) unit (from_upto (IsNoted (called_upto n unit)) n (calls_in_unit unit) (noted_among (upto n (calls_in_unit unit)) [] (called_upto n unit) refl)))) m

-- ---- on fewer lines

pub le_less : (i m n : ℕ) → m ≤ n → nat_le i m ≡ true → nat_le i n ≡ false → ⊥
le_less i m n le a b = grind (arith, nat_tests)

module _ (P : Template → Type 0) where
  each_fewer : (m n : ℕ) → m ≤ n → (xs : Lined Template) → AllByRecursion P (upto n xs) → AllByRecursion P (upto m xs)
  each_fewer m n le [] a = tt
  each_fewer m n le (x ∷ xs) a = by_tests (nat_le x.0 m) (nat_le x.0 n) refl refl (each_fewer m n le xs)
    where
      by_tests : (b c : Bool) → nat_le x.0 m ≡ b → nat_le x.0 n ≡ c → (AllByRecursion P (upto n xs) → AllByRecursion P (upto m xs)) → AllByRecursion P (upto m (x ∷ xs))
      by_tests true false p q rest = absurd (le_less x.0 m n le p q)
      by_tests false false p q rest = let f : AllByRecursion P (upto n xs) = rw q at a in rw p (rest f)
      by_tests false true p q rest = let f : AllByRecursion P (x.1 ∷ upto n xs) = rw q at a in rw p (rest f.1)
      by_tests true true p q rest = let f : AllByRecursion P (x.1 ∷ upto n xs) = rw q at a in rw p (f.0, rest f.1)

  each_with : (t : Template) (found : Calls) → P t → AllByRecursion P found → AllByRecursion P (with_call t found)
  each_with t [] p a = (p, tt)
  each_with t (x ∷ xs) p a = by_order (template_cmp x t) (each_with t xs p a.1)
    where
      by_order : (o : Ordering) → AllByRecursion P (with_call t xs) → AllByRecursion P (match_ordering o (x ∷ with_call t xs) ((if false then t else x) ∷ xs) (t ∷ x ∷ xs))
      by_order Less rest = (a.0, rest)
      by_order Equal rest = a
      by_order Greater rest = (p, a)

  each_of_both : (us found : Calls) → AllByRecursion P us → AllByRecursion P found → AllByRecursion P (with_calls found us)
  each_of_both [] found each a = a
  each_of_both (u ∷ us) found each a = each_of_both us (with_call u found) each.1 (each_with u found each.0 a)

-- what is called on fewer lines is by its text called on more
pub called_fewer : (m n : ℕ) → m ≤ n → (unit : Routine) (t : Template) → Contains (called_upto m unit) t → IsNoted (called_upto n unit) t
called_fewer m n le unit t at =
    contained (IsNoted (called_upto n unit)) (called_upto m unit) t
    (each_of_both (IsNoted (called_upto n unit)) (upto m (calls_in_unit unit)) [] (each_fewer (IsNoted (called_upto n unit)) m n le (calls_in_unit unit) (noted_among (upto n (calls_in_unit unit)) [] (called_upto n unit) refl)) tt) at
