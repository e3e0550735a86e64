-- What holds of all that stands in a tree holds of all that stands in its parts.
use Rattle.std.proofs.Common.{◌≡◌, ℕ, suc, List, [], ◌∷◌, ◌++◌, map, Bool, true, false, Option, Some, None, refl, sym, ◌∙◌, ap, subst}
use Rattle.std.specs.List.{AllByRecursion}
use Rattle.std.specs.Option.{IfSome}
use Rattle.abc_num.specs.Number.{Fraction}
use Rattle.abc_tree.specs.Lists.{flat}
use Rattle.abc_tree.specs.RegularItems.{Part, Parts, Way, here, early, ways, tested, line, value, address, test, written_part, parts_of, suite_parts, parts_of_unit, node_parts, action_parts, way_of}
use Rattle.abc_tree.specs.declared.formulas.Expr.{Expr, out-Expr, map-Expr}
use Rattle.abc_tree.specs.declared.formulas.Expr.TheOpen.{Expr-F, Fill-F, Piece-F, Pair-F}
use Rattle.abc_tree.specs.declared.formulas.Expr.TheViews.{roll-out-Expr, roll-out-Fill, roll-out-Piece, roll-out-Pair}
use Rattle.abc_tree.specs.declared.formulas.Expr.TheFolds.{fold-roll-Expr, fold-roll-Fill, fold-roll-Piece, fold-roll-Pair}
use Rattle.abc_tree.specs.declared.formulas.Fill.{Fill, fold-Fill, out-Fill, map-Fill}
use Rattle.abc_tree.specs.declared.formulas.Piece.{Piece, fold-Piece, out-Piece, map-Piece}
use Rattle.abc_tree.specs.declared.formulas.Pair.{Pair, fold-Pair, out-Pair, map-Pair}
use Rattle.abc_tree.specs.declared.formulas.Link.{Link}
use Rattle.abc_tree.specs.declared.formulas.Test.{Test, out-Test, map-Test}
use Rattle.abc_tree.specs.declared.formulas.Test.TheOpen.{Test-F}
use Rattle.abc_tree.specs.declared.formulas.Test.TheViews.{roll-out-Test}
use Rattle.abc_tree.specs.declared.formulas.Test.TheFolds.{fold-roll-Test}
use Rattle.abc_tree.specs.declared.commands.Action.{Action, out-Action, map-Action}
use Rattle.abc_tree.specs.declared.commands.ActionNode.{ActionNode, fold-ActionNode, out-ActionNode, map-ActionNode}
use Rattle.abc_tree.specs.declared.commands.ActionNode.TheOpen.{Action-F, ActionNode-F, Alternative-F}
use Rattle.abc_tree.specs.declared.commands.ActionNode.TheViews.{roll-out-Action, roll-out-ActionNode, roll-out-Alternative}
use Rattle.abc_tree.specs.declared.commands.ActionNode.TheFolds.{fold-roll-ActionNode, fold-roll-Action, fold-roll-Alternative}
use Rattle.abc_tree.specs.declared.commands.Alternative.{Alternative, fold-Alternative, out-Alternative, map-Alternative}
use Rattle.abc_tree.specs.declared.commands.Refinement.{Refinement}
use Rattle.abc_tree.specs.declared.commands.Unit.{Unit as Routine}
use Rattle.abc_meaning.specs.Written.{Numbers, piece_numbers, fill_numbers, pair_numbers, expression_numbers, numbers_in, test_numbers, numbers_in_test}

-- ---- lists

module _ {X : Type 0} (P : X → Type 0) where
  pub front : (xs ys : List X) → AllByRecursion P (xs ++ ys) → AllByRecursion P xs
  front [] ys h = tt
  front (x ∷ xs) ys h = (h.0, front xs ys h.1)

  pub behind : (xs ys : List X) → AllByRecursion P (xs ++ ys) → AllByRecursion P ys
  behind [] ys h = h
  behind (x ∷ xs) ys h = behind xs ys h.1

  pub together : (xs ys : List X) → AllByRecursion P xs → AllByRecursion P ys → AllByRecursion P (xs ++ ys)
  together [] ys h k = k
  together (x ∷ xs) ys h k = (h.0, together xs ys h.1 k)

  pub one_more : (xs : List X) (x : X) → AllByRecursion P xs → P x → AllByRecursion P (xs ++ x ∷ [])
  one_more xs x h k = together xs (x ∷ []) h (k, tt)

  pub each_of_flat : {Y : Type 0} (f : Y → List X) (ys : List Y) → AllByRecursion P (flat (map f ys)) → AllByRecursion (λ y. AllByRecursion P (f y)) ys
  each_of_flat f [] h = tt
  each_of_flat f (y ∷ ys) h = (front (f y) (flat (map f ys)) h, each_of_flat f ys (behind (f y) (flat (map f ys)) h))

-- ---- numbers in expressions and tests

abbrev pub numbers_in_fill : Fill → Numbers
numbers_in_fill = fold-Fill Numbers Numbers Numbers Numbers expression_numbers fill_numbers piece_numbers pair_numbers

abbrev pub numbers_in_piece : Piece → Numbers
numbers_in_piece = fold-Piece Numbers Numbers Numbers Numbers expression_numbers fill_numbers piece_numbers pair_numbers

abbrev pub numbers_in_pair : Pair → Numbers
numbers_in_pair = fold-Pair Numbers Numbers Numbers Numbers expression_numbers fill_numbers piece_numbers pair_numbers

expression_is : (e : Expr) → numbers_in e ≡ expression_numbers (map-Expr Expr Fill Piece Pair Numbers Numbers Numbers Numbers numbers_in numbers_in_fill numbers_in_piece numbers_in_pair (out-Expr e))
expression_is e = ap numbers_in (sym (roll-out-Expr e)) ∙ fold-roll-Expr Numbers Numbers Numbers Numbers expression_numbers fill_numbers piece_numbers pair_numbers (out-Expr e)

fill_is : (f : Fill) → numbers_in_fill f ≡ fill_numbers (map-Fill Expr Fill Piece Pair Numbers Numbers Numbers Numbers numbers_in numbers_in_fill numbers_in_piece numbers_in_pair (out-Fill f))
fill_is f = ap numbers_in_fill (sym (roll-out-Fill f)) ∙ fold-roll-Fill Numbers Numbers Numbers Numbers expression_numbers fill_numbers piece_numbers pair_numbers (out-Fill f)

piece_is : (p : Piece) → numbers_in_piece p ≡ piece_numbers (map-Piece Expr Fill Piece Pair Numbers Numbers Numbers Numbers numbers_in numbers_in_fill numbers_in_piece numbers_in_pair (out-Piece p))
piece_is p = ap numbers_in_piece (sym (roll-out-Piece p)) ∙ fold-roll-Piece Numbers Numbers Numbers Numbers expression_numbers fill_numbers piece_numbers pair_numbers (out-Piece p)

pair_is : (p : Pair) → numbers_in_pair p ≡ pair_numbers (map-Pair Expr Fill Piece Pair Numbers Numbers Numbers Numbers numbers_in numbers_in_fill numbers_in_piece numbers_in_pair (out-Pair p))
pair_is p = ap numbers_in_pair (sym (roll-out-Pair p)) ∙ fold-roll-Pair Numbers Numbers Numbers Numbers expression_numbers fill_numbers piece_numbers pair_numbers (out-Pair p)

test_is : (t : Test) → numbers_in_test t ≡ test_numbers (map-Test Test Numbers numbers_in_test (out-Test t))
test_is t = ap numbers_in_test (sym (roll-out-Test t)) ∙ fold-roll-Test Numbers test_numbers (out-Test t)

module _ (P : Fraction → Type 0) where
  -- each number in it
  abbrev pub InExpr : Expr → Type 0
  InExpr e = AllByRecursion P (numbers_in e)

  abbrev pub InPiece : Piece-F Expr Fill Piece Pair → Type 0
  InPiece (Piece-F.Chars b) = Unit {0}
  InPiece (Piece-F.Conversion e) = InExpr e

  abbrev pub InFill : Fill-F Expr Fill Piece Pair → Type 0
  InFill (Fill-F.One e) = InExpr e
  InFill (Fill-F.Range p q) = InExpr p × InExpr q

  abbrev pub InPair : Pair-F Expr Fill Piece Pair → Type 0
  InPair p = InExpr p.key × InExpr p.associate

  abbrev pub InLayer : Expr-F Expr Fill Piece Pair → Type 0
  InLayer (Expr-F.Number n) = P n
  InLayer (Expr-F.Text pieces) = AllByRecursion (λ p. InPiece (out-Piece p)) pieces
  InLayer (Expr-F.Compound es) = AllByRecursion InExpr es
  InLayer (Expr-F.List fills) = AllByRecursion (λ f. InFill (out-Fill f)) fills
  InLayer (Expr-F.Table pairs) = AllByRecursion (λ p. InPair (out-Pair p)) pairs
  InLayer (Expr-F.Select t k) = InExpr t × InExpr k
  InLayer (Expr-F.Apply1 op x) = InExpr x
  InLayer (Expr-F.Apply2 op x y) = InExpr x × InExpr y
  InLayer (Expr-F.Call template es) = AllByRecursion InExpr es
  InLayer _ = Unit {0}

  both : (xs ys : Numbers) → AllByRecursion P (xs ++ ys) → AllByRecursion P xs × AllByRecursion P ys
  both xs ys h = (front P xs ys h, behind P xs ys h)

  in_piece : (p : Piece) → AllByRecursion P (numbers_in_piece p) → InPiece (out-Piece p)
  in_piece p h = by (out-Piece p) (subst (AllByRecursion P) (piece_is p) h)
    where
      by : (y : Piece-F Expr Fill Piece Pair) → AllByRecursion P (piece_numbers (map-Piece Expr Fill Piece Pair Numbers Numbers Numbers Numbers numbers_in numbers_in_fill numbers_in_piece numbers_in_pair y)) → InPiece y
      by (Piece-F.Chars b) h = tt
      by (Piece-F.Conversion e) h = h

  in_fill : (f : Fill) → AllByRecursion P (numbers_in_fill f) → InFill (out-Fill f)
  in_fill f h = by (out-Fill f) (subst (AllByRecursion P) (fill_is f) h)
    where
      by : (y : Fill-F Expr Fill Piece Pair) → AllByRecursion P (fill_numbers (map-Fill Expr Fill Piece Pair Numbers Numbers Numbers Numbers numbers_in numbers_in_fill numbers_in_piece numbers_in_pair y)) → InFill y
      by (Fill-F.One e) h = h
      by (Fill-F.Range p q) h = both (numbers_in p) (numbers_in q) h

  in_pair : (p : Pair) → AllByRecursion P (numbers_in_pair p) → InPair (out-Pair p)
  in_pair p h = both (numbers_in (out-Pair p).key) (numbers_in (out-Pair p).associate) (subst (AllByRecursion P) (pair_is p) h)

  in_pieces : (ps : List Piece) → AllByRecursion P (flat (map numbers_in_piece ps)) → AllByRecursion (λ p. InPiece (out-Piece p)) ps
  in_pieces [] h = tt
  in_pieces (p ∷ ps) h = (in_piece p (front P (numbers_in_piece p) (flat (map numbers_in_piece ps)) h), in_pieces ps (behind P (numbers_in_piece p) (flat (map numbers_in_piece ps)) h))

  in_fills : (fs : List Fill) → AllByRecursion P (flat (map numbers_in_fill fs)) → AllByRecursion (λ f. InFill (out-Fill f)) fs
  in_fills [] h = tt
  in_fills (f ∷ fs) h = (in_fill f (front P (numbers_in_fill f) (flat (map numbers_in_fill fs)) h), in_fills fs (behind P (numbers_in_fill f) (flat (map numbers_in_fill fs)) h))

  in_pairs : (ps : List Pair) → AllByRecursion P (flat (map numbers_in_pair ps)) → AllByRecursion (λ p. InPair (out-Pair p)) ps
  in_pairs [] h = tt
  in_pairs (p ∷ ps) h = (in_pair p (front P (numbers_in_pair p) (flat (map numbers_in_pair ps)) h), in_pairs ps (behind P (numbers_in_pair p) (flat (map numbers_in_pair ps)) h))

  pub in_expr : (e : Expr) → InExpr e → InLayer (out-Expr e)
  in_expr e h = by (out-Expr e) (subst (AllByRecursion P) (expression_is e) h)
    where
      by : (y : Expr-F Expr Fill Piece Pair) → AllByRecursion P (expression_numbers (map-Expr Expr Fill Piece Pair Numbers Numbers Numbers Numbers numbers_in numbers_in_fill numbers_in_piece numbers_in_pair y)) → InLayer y
      by (Expr-F.Number n) h = h.0
      by (Expr-F.Text ps) h = in_pieces ps h
      by (Expr-F.Name i) h = tt
      by (Expr-F.Compound es) h = each_of_flat P numbers_in es h
      by Expr-F.Empty h = tt
      by (Expr-F.List fs) h = in_fills fs h
      by (Expr-F.Table ps) h = in_pairs ps h
      by (Expr-F.Select t k) h = both (numbers_in t) (numbers_in k) h
      by (Expr-F.Apply1 op x) h = h
      by (Expr-F.Apply2 op x y) h = both (numbers_in x) (numbers_in y) h
      by (Expr-F.Call template es) h = each_of_flat P numbers_in es h

  abbrev pub InTest : Test → Type 0
  InTest t = AllByRecursion P (numbers_in_test t)

  abbrev pub InTestLayer : Test-F Test → Type 0
  InTestLayer (Test-F.Chain first links) = InExpr first × AllByRecursion (λ (link : Link). InExpr link.right) links
  InTestLayer (Test-F.Member op e t) = InExpr e × InExpr t
  InTestLayer (Test-F.And t u) = InTest t × InTest u
  InTestLayer (Test-F.Or t u) = InTest t × InTest u
  InTestLayer (Test-F.Not t) = InTest t
  InTestLayer (Test-F.Quantified q names train t) = InExpr train × InTest t
  InTestLayer (Test-F.Call template es) = AllByRecursion InExpr es
  InTestLayer (Test-F.Refinement i) = Unit {0}

  pub in_test : (t : Test) → InTest t → InTestLayer (out-Test t)
  in_test t h = by (out-Test t) (subst (AllByRecursion P) (test_is t) h)
    where
      by : (y : Test-F Test) → AllByRecursion P (test_numbers (map-Test Test Numbers numbers_in_test y)) → InTestLayer y
      by (Test-F.Chain first links) h =
          (front P (numbers_in first) (flat (map (λ link. numbers_in link.right) links)) h, each_of_flat P (λ (link : Link). numbers_in link.right) links (behind P (numbers_in first) (flat (map (λ link. numbers_in link.right) links)) h))
      by (Test-F.Member op e t) h = both (numbers_in e) (numbers_in t) h
      by (Test-F.And t u) h = both (numbers_in_test t) (numbers_in_test u) h
      by (Test-F.Or t u) h = both (numbers_in_test t) (numbers_in_test u) h
      by (Test-F.Not t) h = h
      by (Test-F.Quantified q names train t) h = both (numbers_in train) (numbers_in_test t) h
      by (Test-F.Call template es) h = each_of_flat P numbers_in es h
      by (Test-F.Refinement i) h = tt

-- ---- parts of commands

abbrev node_parts_of : ActionNode → Parts
node_parts_of = fold-ActionNode Parts Parts Way node_parts action_parts way_of

abbrev alternative_parts_of : Alternative → Way
alternative_parts_of = fold-Alternative Parts Parts Way node_parts action_parts way_of

action_is : (a : Action) → parts_of a ≡ action_parts (map-Action ActionNode Action Alternative Parts Parts Way node_parts_of parts_of alternative_parts_of (out-Action a))
action_is a = ap parts_of (sym (roll-out-Action a)) ∙ fold-roll-Action Parts Parts Way node_parts action_parts way_of (out-Action a)

node_is : (n : ActionNode) → node_parts_of n ≡ node_parts (map-ActionNode ActionNode Action Alternative Parts Parts Way node_parts_of parts_of alternative_parts_of (out-ActionNode n))
node_is n = ap node_parts_of (sym (roll-out-ActionNode n)) ∙ fold-roll-ActionNode Parts Parts Way node_parts action_parts way_of (out-ActionNode n)

alternative_is : (a : Alternative) → alternative_parts_of a ≡ way_of (map-Alternative ActionNode Action Alternative Parts Parts Way node_parts_of parts_of alternative_parts_of (out-Alternative a))
alternative_is a = ap alternative_parts_of (sym (roll-out-Alternative a)) ∙ fold-roll-Alternative Parts Parts Way node_parts action_parts way_of (out-Alternative a)

module _ (K : Part → Type 0) where
  -- each part, however many suites stand round it
  abbrev pub AllParts : Parts → Type 0
  AllParts parts = AllByRecursion (λ part. K part.1) parts

  abbrev pub InAction : Action → Type 0
  InAction a = AllParts (parts_of a)

  abbrev pub InSuite : List Action → Type 0
  InSuite suite = AllByRecursion InAction suite

  abbrev pub InWay : Alternative → Type 0
  InWay a = K (line (out-Alternative a).line) × IfSome (out-Alternative a).test (λ t. K (test t)) × InSuite (out-Alternative a).suite

  abbrev pub InNode : ActionNode-F ActionNode Action Alternative → Type 0
  InNode (ActionNode-F.Write before e behind) = IfSome e (λ e. K (value e))
  InNode (ActionNode-F.Put e a) = K (value e) × K (address a)
  InNode (ActionNode-F.Insert e a) = K (value e) × K (address a)
  InNode (ActionNode-F.Remove e a) = K (value e) × K (address a)
  InNode (ActionNode-F.Delete a) = K (address a)
  InNode (ActionNode-F.ReadExample a e) = K (address a)
  InNode (ActionNode-F.ReadRaw a) = K (address a)
  InNode (ActionNode-F.Check t) = K (test t)
  InNode ActionNode-F.Pass = Unit {0}
  InNode (ActionNode-F.If t suite) = K (test t) × InSuite suite
  InNode (ActionNode-F.Select alternatives) = AllByRecursion InWay alternatives
  InNode (ActionNode-F.While t suite) = K (test t) × InSuite suite
  InNode (ActionNode-F.For names train suite) = K (value train) × InSuite suite
  InNode ActionNode-F.Quit = Unit {0}
  InNode (ActionNode-F.Return e) = K (value e)
  InNode (ActionNode-F.Report t) = K (test t)
  InNode ActionNode-F.Succeed = Unit {0}
  InNode ActionNode-F.Fail = Unit {0}
  InNode (ActionNode-F.Call template es) = AllByRecursion (λ e. K (value e)) es
  InNode (ActionNode-F.Refinement name) = Unit {0}

  shallower : (parts : Parts) → AllParts (map (λ part. (suc part.0, part.1)) parts) → AllParts parts
  shallower [] h = tt
  shallower (part ∷ parts) h = (h.0, shallower parts h.1)

  pub in_suite : (suite : List Action) → AllParts (suite_parts suite) → InSuite suite
  in_suite suite h = each_of_flat (λ part. K part.1) parts_of suite (shallower (flat (map parts_of suite)) h)

  in_actuals : (es : List Expr) → AllParts (here (map (λ e. value e) es)) → AllByRecursion (λ e. K (value e)) es
  in_actuals [] h = tt
  in_actuals (e ∷ es) h = (h.0, in_actuals es h.1)

  in_written : (e : Option Expr) → AllParts (here (written_part e)) → IfSome e (λ e. K (value e))
  in_written None h = tt
  in_written (Some e) h = h.0

  in_tested : (t : Option Test) → AllParts (here (tested t)) → IfSome t (λ t. K (test t))
  in_tested None h = tt
  in_tested (Some t) h = h.0

  -- an alternative, and all of them
  in_way : (a : Alternative) → AllParts (alternative_parts_of a).parts → InWay a
  in_way a h = by (out-Alternative a) (subst (λ (way : Way). AllParts way.parts) (alternative_is a) h)
    where
      by : (y : Alternative-F ActionNode Action Alternative) → AllParts (way_of (map-Alternative ActionNode Action Alternative Parts Parts Way node_parts_of parts_of alternative_parts_of y)).parts
          → K (line y.line) × IfSome y.test (λ t. K (test t)) × InSuite y.suite
      by y h = (h.0, in_tested y.test (front (λ part. K part.1) (here (tested y.test)) (suite_parts y.suite) h.1), in_suite y.suite (behind (λ part. K part.1) (here (tested y.test)) (suite_parts y.suite) h.1))

  in_ways : (all : List Alternative) → AllParts (ways (map alternative_parts_of all)) → AllByRecursion InWay all
  in_ways [] h = tt
  in_ways (a ∷ []) h = (in_way a h, tt)
  in_ways (a ∷ b ∷ rest) h =
      let way : Way = alternative_parts_of a in
      let others : Parts = ways (map alternative_parts_of (b ∷ rest)) in (
        in_way a (behind (λ part. K part.1) (early way.otherwise) way.parts (front (λ part. K part.1) (early way.otherwise ++ way.parts) others h)),
        in_ways (b ∷ rest) (behind (λ part. K part.1) (early way.otherwise ++ way.parts) others h),
      )

  in_node : (n : ActionNode) → AllParts (node_parts_of n) → InNode (out-ActionNode n)
  in_node n h = by (out-ActionNode n) (subst AllParts (node_is n) h)
    where
      by : (y : ActionNode-F ActionNode Action Alternative) → AllParts (node_parts (map-ActionNode ActionNode Action Alternative Parts Parts Way node_parts_of parts_of alternative_parts_of y)) → InNode y
      by (ActionNode-F.Write before e behind) h = in_written e h
      by (ActionNode-F.Put e a) h = (h.0, h.1.0)
      by (ActionNode-F.Insert e a) h = (h.0, h.1.0)
      by (ActionNode-F.Remove e a) h = (h.0, h.1.0)
      by (ActionNode-F.Delete a) h = h.0
      by (ActionNode-F.ReadExample a e) h = h.0
      by (ActionNode-F.ReadRaw a) h = h.0
      by (ActionNode-F.Check t) h = h.0
      by ActionNode-F.Pass h = tt
      by (ActionNode-F.If t suite) h = (h.0, in_suite suite h.1)
      by (ActionNode-F.Select all) h = in_ways all h
      by (ActionNode-F.While t suite) h = (h.0, in_suite suite h.1)
      by (ActionNode-F.For names train suite) h = (h.1.0, in_suite suite h.1.1)
      by ActionNode-F.Quit h = tt
      by (ActionNode-F.Return e) h = h.0
      by (ActionNode-F.Report t) h = h.0
      by ActionNode-F.Succeed h = tt
      by ActionNode-F.Fail h = tt
      by (ActionNode-F.Call template es) h = in_actuals es h.1
      by (ActionNode-F.Refinement name) h = tt

  -- a command: its line, and what its node has
  pub in_action : (a : Action) → InAction a → K (line (out-Action a).line) × InNode (out-ActionNode (out-Action a).node)
  in_action a h = by (out-Action a) (subst AllParts (action_is a) h)
    where
      by : (y : Action-F ActionNode Action Alternative) → AllParts (action_parts (map-Action ActionNode Action Alternative Parts Parts Way node_parts_of parts_of alternative_parts_of y))
          → K (line y.line) × InNode (out-ActionNode y.node)
      by y h = (h.0, in_node y.node h.1)

  -- a unit: its body, and each refinement
  pub in_body : (u : Routine) → AllParts (parts_of_unit u) → InSuite u.body
  in_body u h = in_suite u.body (front (λ part. K part.1) (suite_parts u.body) (flat (map (λ r. here (line r.line ∷ []) ++ suite_parts r.suite) u.refinements)) h)

  pub in_refinements : (u : Routine) → AllParts (parts_of_unit u) → AllByRecursion (λ (r : Refinement). InSuite r.suite) u.refinements
  in_refinements u h = by u.refinements (behind (λ part. K part.1) (suite_parts u.body) (flat (map (λ r. here (line r.line ∷ []) ++ suite_parts r.suite) u.refinements)) h)
    where
      by : (rs : List Refinement) → AllParts (flat (map (λ r. here (line r.line ∷ []) ++ suite_parts r.suite) rs)) → AllByRecursion (λ (r : Refinement). InSuite r.suite) rs
      by [] h = tt
      by (r ∷ rs) h =
          let of : Refinement → Parts = λ r. here (line r.line ∷ []) ++ suite_parts r.suite in
          (in_suite r.suite (front (λ part. K part.1) (of r) (flat (map of rs)) h).1, by rs (behind (λ part. K part.1) (of r) (flat (map of rs)) h))
