-- What fits, fits part by part: commands.
use Rattle.std.proofs.Common.{◌≡◌, ◌∙◌, ap, sym, subst, ℕ, true, false, ◌&&◌, List, [], ◌∷◌, ◌++◌, map, length, Option, Some, None, is_some}
use Rattle.std.specs.Prelude.{nat_le}
use Rattle.std.specs.List.{AllByRecursion}
use Rattle.std.specs.Option.{IfSome}
use Rattle.std.proofs.lemmas.Bool.{and_parts}
use Rattle.abc_num.specs.Number.{IsNumber}
use Rattle.abc_num.specs.Types.{IsTrainOf}
use Rattle.abc_num.specs.declared.limits.TheConstants.{MOST_TREE_HEIGHT}
use Rattle.abc_num.specs.declared.types.Ground.{Ground}
use Rattle.abc_num.specs.declared.types.Ground.TheVariants as type
use Rattle.abc_tree.specs.Height.{height, test_height}
use Rattle.abc_tree.specs.Lists.{flat}
use Rattle.abc_tree.specs.Lined.{Lined, at}
use Rattle.abc_tree.specs.Calls.{Calls, template_first, calls_in, calls_in_test, part_calls, test_if_any, node_calls, action_calls, alternative_calls, calls_in_node, calls_in_action, calls_in_alternative}
use Rattle.abc_tree.specs.Regular.{Names, is_call, is_command, has_regular_parts, is_regular_expression, is_regular_test, is_address, is_literal}
use Rattle.abc_tree.specs.RegularItems.{Part, Parts, Way, line, value, address, example, test, calls, refinement, parts_of, node_parts, action_parts, way_of}
use Rattle.abc_tree.specs.declared.templates.Template.{Template}
use Rattle.abc_tree.specs.declared.formulas.Expr.{Expr}
use Rattle.abc_tree.specs.declared.formulas.Test.{Test}
use Rattle.abc_tree.specs.declared.commands.Action.{Action, out-Action, map-Action}
use Rattle.abc_tree.specs.declared.commands.ActionNode.{ActionNode, fold-ActionNode, out-ActionNode, map-ActionNode}
use Rattle.abc_tree.specs.declared.commands.ActionNode.TheOpen.{ActionNode-F}
use Rattle.abc_tree.specs.declared.commands.ActionNode.TheViews.{roll-out-Action, roll-out-ActionNode, roll-out-Alternative}
use Rattle.abc_tree.specs.declared.commands.ActionNode.TheFolds.{fold-roll-ActionNode, fold-roll-Action, fold-roll-Alternative}
use Rattle.abc_tree.specs.declared.commands.Alternative.{Alternative, fold-Alternative, out-Alternative}
use Rattle.abc_ground.specs.Seen.{one_type, member, any, line_of_text, train, Node, node, over, over_two, call_of, seen, seen_test, seen_bound, part_seen, tested, At, node_seen, action_seen, alternative_seen, seen_node, seen_action, seen_alternative}
use Rattle.abc_ground.specs.Fits.{Signature, Typing, AreAll, RuleFits, fits}
use Rattle.abc_meaning.specs.Here.{Scope, refinement_named}
use Rattle.abc_meaning.proofs.Opened.{front, behind, each_of_flat, InExpr, InTest, AllParts, InAction, InSuite, InWay, InNode, in_action}
use Rattle.abc_sound.proofs.Expressions.{names_for, NodeFits, ExprFits, one_expr, two_exprs, each_of_nodes, split_all, Elements, of_element, call_fits, OkExpr, OkSome, OkCall, ok_call}
use Rattle.abc_sound.proofs.Testing.{BoundFits, OkTest, regular_test, train_fits}

-- ---- on lines that count

-- each that stands on a line up to n
abbrev pub InLines : {X : Type 0} → ℕ → (X → Type 0) → Lined X → Type 0
InLines n P xs = AllByRecursion (λ x. nat_le x.0 n ≡ true → P x.1) xs

pub on_line : {X : Type 0} (n l : ℕ) (P : X → Type 0) (xs : List X) → nat_le l n ≡ true → InLines n P (at l xs) → AllByRecursion P xs
on_line n l P [] is h = tt
on_line n l P (x ∷ xs) is h = (h.0 is, on_line n l P xs is h.1)

-- those on a line and those behind
line_and : {X : Type 0} (n l : ℕ) (P : X → Type 0) (xs : List X) (ys : Lined X) → nat_le l n ≡ true → InLines n P (at l xs ++ ys) → AllByRecursion P xs × InLines n P ys
line_and n l P xs ys is h = (on_line n l P xs is (front (λ x. nat_le x.0 n ≡ true → P x.1) (at l xs) ys h), behind (λ x. nat_le x.0 n ≡ true → P x.1) (at l xs) ys h)

in_each : {X Y : Type 0} (n : ℕ) (P : X → Type 0) (f : Y → Lined X) (ys : List Y) → InLines n P (flat (map f ys)) → AllByRecursion (λ y. InLines n P (f y)) ys
in_each n P f ys h = each_of_flat (λ x. nat_le x.0 n ≡ true → P x.1) f ys h

abbrev Command : Type 0
Command = ActionNode-F ActionNode Action Alternative

-- ---- what the rules see of a command

module _ (where_to : Node) where
  abbrev see_node : Command → At
  see_node y = node_seen where_to (map-ActionNode ActionNode Action Alternative At (Lined Node) (Lined Node) (seen_node where_to) (seen_action where_to) (seen_alternative where_to) y)

  node_seen_is : (x : ActionNode) (l : ℕ) → seen_node where_to x l ≡ see_node (out-ActionNode x) l
  node_seen_is x l =
      ap (λ (m : ActionNode). seen_node where_to m l) (sym (roll-out-ActionNode x))
      ∙ ap (λ (f : At). f l) (fold-roll-ActionNode At (Lined Node) (Lined Node) (node_seen where_to) (action_seen where_to) (alternative_seen where_to) (out-ActionNode x))

  action_seen_is : (a : Action) → seen_action where_to a ≡ seen_node where_to (out-Action a).node (out-Action a).line
  action_seen_is a = ap (seen_action where_to) (sym (roll-out-Action a)) ∙ fold-roll-Action At (Lined Node) (Lined Node) (node_seen where_to) (action_seen where_to) (alternative_seen where_to) (out-Action a)

  alternative_seen_is : (a : Alternative) → seen_alternative where_to a ≡ at (out-Alternative a).line (tested (out-Alternative a).test ∷ []) ++ flat (map (seen_action where_to) (out-Alternative a).suite)
  alternative_seen_is a = ap (seen_alternative where_to) (sym (roll-out-Alternative a)) ∙ fold-roll-Alternative At (Lined Node) (Lined Node) (node_seen where_to) (action_seen where_to) (alternative_seen where_to) (out-Alternative a)

-- ---- its calls

abbrev calls_of : Command → ℕ → Lined Template
calls_of y = node_calls template_first (map-ActionNode ActionNode Action Alternative (ℕ → Lined Template) (Lined Template) (Lined Template) calls_in_node calls_in_action calls_in_alternative y)

node_calls_are : (x : ActionNode) (l : ℕ) → calls_in_node x l ≡ calls_of (out-ActionNode x) l
node_calls_are x l =
    ap (λ (m : ActionNode). calls_in_node m l) (sym (roll-out-ActionNode x))
    ∙ ap (λ (f : ℕ → Lined Template). f l) (fold-roll-ActionNode (ℕ → Lined Template) (Lined Template) (Lined Template) (node_calls template_first) (action_calls template_first) (alternative_calls template_first) (out-ActionNode x))

action_calls_are : (a : Action) → calls_in_action a ≡ calls_in_node (out-Action a).node (out-Action a).line
action_calls_are a = ap calls_in_action (sym (roll-out-Action a)) ∙ fold-roll-Action (ℕ → Lined Template) (Lined Template) (Lined Template) (node_calls template_first) (action_calls template_first) (alternative_calls template_first) (out-Action a)

alternative_calls_are : (a : Alternative) → calls_in_alternative a ≡ at (out-Alternative a).line (test_if_any (out-Alternative a).test) ++ flat (map calls_in_action (out-Alternative a).suite)
alternative_calls_are a = ap calls_in_alternative (sym (roll-out-Alternative a)) ∙ fold-roll-Alternative (ℕ → Lined Template) (Lined Template) (Lined Template) (node_calls template_first) (action_calls template_first) (alternative_calls template_first) (out-Alternative a)

-- ---- parts that the meaning doesn't evaluate: examples, the count of actuals, names of refinements

abbrev node_parts_of : ActionNode → Parts
node_parts_of = fold-ActionNode Parts Parts Way node_parts action_parts way_of

abbrev way_of_alternative : Alternative → Way
way_of_alternative = fold-Alternative Parts Parts Way node_parts action_parts way_of

parts_are : (a : Action) → parts_of a ≡ action_parts (map-Action ActionNode Action Alternative Parts Parts Way node_parts_of parts_of way_of_alternative (out-Action a))
parts_are a = ap parts_of (sym (roll-out-Action a)) ∙ fold-roll-Action Parts Parts Way node_parts action_parts way_of (out-Action a)

node_parts_are : (x : ActionNode) → node_parts_of x ≡ node_parts (map-ActionNode ActionNode Action Alternative Parts Parts Way node_parts_of parts_of way_of_alternative (out-ActionNode x))
node_parts_are x = ap node_parts_of (sym (roll-out-ActionNode x)) ∙ fold-roll-ActionNode Parts Parts Way node_parts action_parts way_of (out-ActionNode x)

module _ (K : Part → Type 0) where
  abbrev Unseen : Command → Type 0
  Unseen (ActionNode-F.ReadExample a e) = K (example e)
  Unseen (ActionNode-F.Call template es) = K (calls template (length es))
  Unseen (ActionNode-F.Refinement name) = K (refinement name)
  Unseen _ = Unit {0}

  unseen_by : (y : Command) → AllParts K (node_parts (map-ActionNode ActionNode Action Alternative Parts Parts Way node_parts_of parts_of way_of_alternative y)) → Unseen y
  unseen_by (ActionNode-F.ReadExample a e) h = h.1.0
  unseen_by (ActionNode-F.Call template es) h = h.0
  unseen_by (ActionNode-F.Refinement name) h = h.0
  unseen_by _ h = tt

  unseen : (a : Action) → InAction K a → Unseen (out-ActionNode (out-Action a).node)
  unseen a h =
      unseen_by (out-ActionNode (out-Action a).node) (subst (AllParts K) (node_parts_are (out-Action a).node) (subst (AllParts K) (parts_are a) h).1)

-- ---- all that is known of a command

module _ (allowed : Template → Option Signature → Type 0) (present : Template → Type 0) (most : ℕ) (scope : Scope) (g : Typing) where
  abbrev names : Names
  names = names_for scope

  -- what stands in it is regular, on lines that count, and its numbers are numbers
  abbrev pub Keeps : Part → Type 0
  Keeps (line l) = nat_le l most ≡ true
  Keeps (value e) = (is_regular_expression names e ≡ true) × InExpr IsNumber e
  Keeps (address e) = ((is_regular_expression names e && is_address e) ≡ true) × InExpr IsNumber e
  Keeps (example e) = (is_regular_expression names e && is_literal e) ≡ true
  Keeps (test t) = (is_regular_test names t ≡ true) × InTest IsNumber t
  Keeps (calls t n) = is_call is_command t n ≡ true
  Keeps (refinement name) = is_some (refinement_named scope name) ≡ true
  Keeps _ = Unit {0}

  -- where a RETURN gives what `where_to` has
  pub record OkAction (where_to : Node) (a : Action) : Type 0 where
    pub typed : InLines most (λ x. NodeFits allowed g x []) (seen_action where_to a)
    pub parts : InAction Keeps a
    pub called : InLines most present (calls_in_action a)

  abbrev pub OkSuite : Node → List Action → Type 0
  OkSuite where_to suite = AllByRecursion (OkAction where_to) suite

  pub record OkAddress (e : Expr) (t : Ground) : Type 0 where
    pub value : OkExpr allowed present scope g e t
    pub is : is_address e ≡ true
    pub low : nat_le (height e) MOST_TREE_HEIGHT ≡ true

  pub record OkExample (e : Expr) (t : Ground) : Type 0 where
    pub typed : ExprFits allowed g e t
    pub regular : has_regular_parts names e ≡ true
    pub is : is_literal e ≡ true

  abbrev pub OkWay : Node → Alternative → Type 0
  OkWay where_to a = (nat_le (out-Alternative a).line most ≡ true) × IfSome (out-Alternative a).test (OkTest allowed present scope g) × OkSuite where_to (out-Alternative a).suite

  abbrev pub OkNode : Node → Command → Type 0
  OkNode where_to (ActionNode-F.Write before e behind) = IfSome e (OkSome allowed present scope g)
  OkNode where_to (ActionNode-F.Put e a) = (t : Ground) × OkExpr allowed present scope g e t × OkAddress a t
  OkNode where_to (ActionNode-F.Insert e a) = (t : Ground) × OkExpr allowed present scope g e t × OkAddress a (type.List t)
  OkNode where_to (ActionNode-F.Remove e a) = (t : Ground) × OkExpr allowed present scope g e t × OkAddress a (type.List t)
  OkNode where_to (ActionNode-F.Delete a) = (t : Ground) × OkAddress a t
  OkNode where_to (ActionNode-F.ReadExample a e) = (t : Ground) × OkAddress a t × OkExample e t
  OkNode where_to (ActionNode-F.ReadRaw a) = OkAddress a type.Text
  OkNode where_to (ActionNode-F.Check t) = OkTest allowed present scope g t
  OkNode where_to ActionNode-F.Pass = Unit {0}
  OkNode where_to (ActionNode-F.If t suite) = OkTest allowed present scope g t × OkSuite where_to suite
  OkNode where_to (ActionNode-F.Select ways) = AllByRecursion (OkWay where_to) ways
  OkNode where_to (ActionNode-F.While t suite) = OkTest allowed present scope g t × OkSuite where_to suite
  OkNode where_to (ActionNode-F.For b x suite) = (a : Ground) × (e : Ground) × OkExpr allowed present scope g x a × BoundFits allowed g b e × IsTrainOf a e × OkSuite where_to suite
  OkNode where_to ActionNode-F.Quit = Unit {0}
  OkNode where_to (ActionNode-F.Return e) = (t : Ground) × OkExpr allowed present scope g e t × Elements allowed present scope g t where_to
  OkNode where_to (ActionNode-F.Report t) = OkTest allowed present scope g t
  OkNode where_to ActionNode-F.Succeed = Unit {0}
  OkNode where_to ActionNode-F.Fail = Unit {0}
  OkNode where_to (ActionNode-F.Call template es) = OkCall allowed present scope g false template es [] × (is_call is_command template (length es) ≡ true)
  OkNode where_to (ActionNode-F.Refinement name) = is_some (refinement_named scope name) ≡ true

  -- ---- parts

  abbrev Fits : Node → Type 0
  Fits x = NodeFits allowed g x []

  regular_expr : (e : Expr) → is_regular_expression names e ≡ true → has_regular_parts names e ≡ true
  regular_expr e h = (and_parts (has_regular_parts names e) (nat_le (height e) MOST_TREE_HEIGHT) h).0

  ok_expr : (e : Expr) (t : Ground) → ExprFits allowed g e t → Keeps (value e) → AllByRecursion present (calls_in e) → OkExpr allowed present scope g e t
  ok_expr e t f k c = record { typed = f; regular = regular_expr e k.0; numbers = k.1; calls = c }

  ok_test : (t : Test) → Fits (seen_test t) → Keeps (test t) → AllByRecursion present (calls_in_test t) → OkTest allowed present scope g t
  ok_test t f k c = record { typed = f; regular = (and_parts (regular_test allowed present scope g t) (nat_le (test_height t) MOST_TREE_HEIGHT) k.0).0; numbers = k.1; calls = c }

  ok_address : (e : Expr) (t : Ground) → ExprFits allowed g e t → Keeps (address e) → AllByRecursion present (calls_in e) → OkAddress e t
  ok_address e t f k c =
      let s = and_parts (is_regular_expression names e) (is_address e) k.0 in
      record {
        value = record { typed = f; regular = regular_expr e s.0; numbers = k.1; calls = c };
        is = s.1;
        low = (and_parts (has_regular_parts names e) (nat_le (height e) MOST_TREE_HEIGHT) s.0).1;
      }

  ok_example : (e : Expr) (t : Ground) → ExprFits allowed g e t → Keeps (example e) → OkExample e t
  ok_example e t f k =
      let s = and_parts (is_regular_expression names e) (is_literal e) k in
      record { typed = f; regular = regular_expr e s.0; is = s.1 }

  -- two parts of one type
  one_type_by : (own : List Ground) (t u : Ground) → RuleFits g one_type (t ∷ u ∷ []) [] → t ≡ u
  one_type_by own t u h = h.1.0 ∙ sym h.1.1.0

  same_types : (x y : Expr) → Fits (over_two one_type (seen x) (seen y)) → (t : Ground) × ExprFits allowed g x t × ExprFits allowed g y t
  same_types x y h =
      let o = two_exprs allowed g x y h.0 h.1 in
      let is : o.0 ≡ o.1 = one_type_by [] o.0 o.1 (subst (λ ps. RuleFits g one_type ps []) o.2 h.2) in
      (o.0, o.3, subst (ExprFits allowed g y) (sym is) o.4)

  member_types : (x y : Expr) → Fits (over_two member (seen x) (seen y)) → (t : Ground) × ExprFits allowed g x t × ExprFits allowed g y (type.List t)
  member_types x y h =
      let o = two_exprs allowed g x y h.0 h.1 in
      let is : o.1 ≡ type.List o.0 = subst (λ ps. RuleFits g member ps []) o.2 h.2 in
      (o.0, o.3, subst (ExprFits allowed g y) is o.4)

  text_type : (x : Expr) → Fits (over line_of_text (seen x)) → ExprFits allowed g x type.Text
  text_type x h =
      let o = one_expr allowed g x h.0 h.1 in
      let is : o.0 ≡ type.Text = subst (λ ps. RuleFits g line_of_text ps []) o.1 h.2 in
      subst (ExprFits allowed g x) is o.2

  some_type : (x : Expr) → Fits (over any (seen x)) → (t : Ground) × ExprFits allowed g x t
  some_type x h = let o = one_expr allowed g x h.0 h.1 in (o.0, o.2)

  return_types : (where_to : Node) (x : Expr) → Fits (over_two one_type (seen x) where_to) → (t : Ground) × ExprFits allowed g x t × Elements allowed present scope g t where_to
  return_types where_to x h =
      let w = h.2 in
      let all = each_of_nodes allowed g (AreAll w.0) (split_all allowed g w.0) (seen x ∷ where_to ∷ []) h.0 h.1 w.1 in
      (w.0, of_element allowed present scope g x w.0 all.0, all.1.0)

  ok_written : (e : Option Expr) → Fits (part_seen e) → IfSome e (λ e. Keeps (value e)) → AllByRecursion present (part_calls e) → IfSome e (OkSome allowed present scope g)
  ok_written None f k c = tt
  ok_written (Some e) f k c = let o = some_type e f in (o.0, ok_expr e o.0 o.1 k c)

  ok_if_any : (t : Option Test) → Fits (tested t) → IfSome t (λ t. Keeps (test t)) → AllByRecursion present (test_if_any t) → IfSome t (OkTest allowed present scope g)
  ok_if_any None f k c = tt
  ok_if_any (Some t) f k c = ok_test t f k c

  -- ---- suites

  module _ (where_to : Node) where
    abbrev Seen : Action → Type 0
    Seen a = InLines most (λ x. NodeFits allowed g x []) (seen_action where_to a)

    abbrev Called : Action → Type 0
    Called a = InLines most present (calls_in_action a)

    ok_actions : (suite : List Action) → AllByRecursion Seen suite → InSuite Keeps suite → AllByRecursion Called suite → OkSuite where_to suite
    ok_actions [] f k c = tt
    ok_actions (a ∷ rest) f k c = (record { typed = f.0; parts = k.0; called = c.0 }, ok_actions rest f.1 k.1 c.1)

    ok_suite : (suite : List Action) → InLines most Fits (flat (map (seen_action where_to) suite)) → InSuite Keeps suite → InLines most present (flat (map calls_in_action suite)) → OkSuite where_to suite
    ok_suite suite f k c = ok_actions suite (in_each most Fits (seen_action where_to) suite f) k (in_each most present calls_in_action suite c)

    ok_way : (a : Alternative) → InLines most Fits (seen_alternative where_to a) → InWay Keeps a → InLines most present (calls_in_alternative a) → OkWay where_to a
    ok_way a f k c =
        let y = out-Alternative a in
        let s = line_and most y.line Fits (tested y.test ∷ []) (flat (map (seen_action where_to) y.suite)) k.0 (subst (InLines most Fits) (alternative_seen_is where_to a) f) in
        let d = line_and most y.line present (test_if_any y.test) (flat (map calls_in_action y.suite)) k.0 (subst (InLines most present) (alternative_calls_are a) c) in
        (k.0, ok_if_any y.test s.0.0 k.1 d.0, ok_suite y.suite s.1 k.2 d.1)

    ok_ways : (ways : List Alternative) → AllByRecursion (λ a. InLines most Fits (seen_alternative where_to a)) ways → AllByRecursion (InWay Keeps) ways → AllByRecursion (λ a. InLines most present (calls_in_alternative a)) ways → AllByRecursion (OkWay where_to) ways
    ok_ways [] f k c = tt
    ok_ways (a ∷ rest) f k c = (ok_way a f.0 k.0 c.0, ok_ways rest f.1 k.1 c.1)

    -- ---- commands

    -- a command by itself, and the suite in it
    alone : (l : ℕ) (x : Node) → nat_le l most ≡ true → InLines most Fits (at l (x ∷ []) ++ []) → Fits x
    alone l x is h = (line_and most l Fits (x ∷ []) [] is h).0.0

    with_suite : (l : ℕ) (x : Node) (suite : List Action) → nat_le l most ≡ true → InLines most Fits (at l (x ∷ []) ++ flat (map (seen_action where_to) suite)) → Fits x × InLines most Fits (flat (map (seen_action where_to) suite))
    with_suite l x suite is h = let s = line_and most l Fits (x ∷ []) (flat (map (seen_action where_to) suite)) is h in (s.0.0, s.1)

    called_alone : (l : ℕ) (ts : Calls) → nat_le l most ≡ true → InLines most present (at l ts) → AllByRecursion present ts
    called_alone l ts is h = on_line most l present ts is h

    called_with : (l : ℕ) (ts : Calls) (suite : List Action) → nat_le l most ≡ true → InLines most present (at l ts ++ flat (map calls_in_action suite)) → AllByRecursion present ts × InLines most present (flat (map calls_in_action suite))
    called_with l ts suite is h = line_and most l present ts (flat (map calls_in_action suite)) is h

    two_of : (x y : Expr) → AllByRecursion present (calls_in x ++ calls_in y) → AllByRecursion present (calls_in x) × AllByRecursion present (calls_in y)
    two_of x y h = (front present (calls_in x) (calls_in y) h, behind present (calls_in x) (calls_in y) h)

    ok_actuals : (es : List Expr) → AllByRecursion (λ e. Keeps (value e)) es → AllByRecursion (λ e. has_regular_parts names e ≡ true) es × AllByRecursion (InExpr IsNumber) es
    ok_actuals [] k = (tt, tt)
    ok_actuals (e ∷ es) k = let r = ok_actuals es k.1 in ((regular_expr e k.0.0, r.0), (k.0.1, r.1))

    ok_node : (y : Command) (l : ℕ) → nat_le l most ≡ true → InLines most Fits (see_node where_to y l) → InNode Keeps y → Unseen Keeps y → InLines most present (calls_of y l) → OkNode where_to y
    ok_node (ActionNode-F.Write before e behind) l is f k u c = ok_written e (alone l (part_seen e) is f) k (called_alone l (part_calls e) is c)
    ok_node (ActionNode-F.Put e a) l is f k u c =
        let o = same_types e a (alone l (over_two one_type (seen e) (seen a)) is f) in
        let d = two_of e a (called_alone l (calls_in e ++ calls_in a) is c) in
        (o.0, ok_expr e o.0 o.1 k.0 d.0, ok_address a o.0 o.2 k.1 d.1)
    ok_node (ActionNode-F.Insert e a) l is f k u c =
        let o = member_types e a (alone l (over_two member (seen e) (seen a)) is f) in
        let d = two_of e a (called_alone l (calls_in e ++ calls_in a) is c) in
        (o.0, ok_expr e o.0 o.1 k.0 d.0, ok_address a (type.List o.0) o.2 k.1 d.1)
    ok_node (ActionNode-F.Remove e a) l is f k u c =
        let o = member_types e a (alone l (over_two member (seen e) (seen a)) is f) in
        let d = two_of e a (called_alone l (calls_in e ++ calls_in a) is c) in
        (o.0, ok_expr e o.0 o.1 k.0 d.0, ok_address a (type.List o.0) o.2 k.1 d.1)
    ok_node (ActionNode-F.Delete a) l is f k u c =
        let o = some_type a (alone l (over any (seen a)) is f) in
        (o.0, ok_address a o.0 o.1 k (called_alone l (calls_in a) is c))
    ok_node (ActionNode-F.ReadExample a e) l is f k u c =
        let o = same_types a e (alone l (over_two one_type (seen a) (seen e)) is f) in
        let d = two_of a e (called_alone l (calls_in a ++ calls_in e) is c) in
        (o.0, ok_address a o.0 o.1 k d.0, ok_example e o.0 o.2 u)
    ok_node (ActionNode-F.ReadRaw a) l is f k u c = ok_address a type.Text (text_type a (alone l (over line_of_text (seen a)) is f)) k (called_alone l (calls_in a) is c)
    ok_node (ActionNode-F.Check t) l is f k u c = ok_test t (alone l (seen_test t) is f) k (called_alone l (calls_in_test t) is c)
    ok_node ActionNode-F.Pass l is f k u c = tt
    ok_node (ActionNode-F.If t suite) l is f k u c =
        let s = with_suite l (seen_test t) suite is f in
        let d = called_with l (calls_in_test t) suite is c in
        (ok_test t s.0 k.0 d.0, ok_suite suite s.1 k.1 d.1)
    ok_node (ActionNode-F.Select ways) l is f k u c = ok_ways ways (in_each most Fits (seen_alternative where_to) ways f) k (in_each most present calls_in_alternative ways c)
    ok_node (ActionNode-F.While t suite) l is f k u c =
        let s = with_suite l (seen_test t) suite is f in
        let d = called_with l (calls_in_test t) suite is c in
        (ok_test t s.0 k.0 d.0, ok_suite suite s.1 k.1 d.1)
    ok_node (ActionNode-F.For b x suite) l is f k u c =
        let s = with_suite l (over_two train (seen_bound b) (seen x)) suite is f in
        let d = called_with l (calls_in x) suite is c in
        let o = train_fits allowed present scope g b x [] s.0 in
        (o.0, o.1, ok_expr x o.0 o.2 k.0 d.0, o.3, o.4, ok_suite suite s.1 k.1 d.1)
    ok_node ActionNode-F.Quit l is f k u c = tt
    ok_node (ActionNode-F.Return e) l is f k u c =
        let o = return_types where_to e (alone l (over_two one_type (seen e) where_to) is f) in
        (o.0, ok_expr e o.0 o.1 k (called_alone l (calls_in e) is c), o.2)
    ok_node (ActionNode-F.Report t) l is f k u c = ok_test t (alone l (seen_test t) is f) k (called_alone l (calls_in_test t) is c)
    ok_node ActionNode-F.Succeed l is f k u c = tt
    ok_node ActionNode-F.Fail l is f k u c = tt
    ok_node (ActionNode-F.Call template es) l is f k u c =
        let r = ok_actuals es k in
        (ok_call allowed present scope g false template es [] (call_fits allowed g false template es [] (alone l (call_of false template (map seen es)) is f)) r.0 r.1 (called_alone l (template_first template (map calls_in es)) is c), u)
    ok_node (ActionNode-F.Refinement name) l is f k u c = u

    -- a command: its line counts, and so does what it does
    pub ok_action_opened : (a : Action) → OkAction where_to a → (nat_le (out-Action a).line most ≡ true) × OkNode where_to (out-ActionNode (out-Action a).node)
    ok_action_opened a h =
        let y = out-Action a in
        let k = in_action Keeps a h.parts in (
          k.0,
          ok_node (out-ActionNode y.node) y.line k.0
              (subst (InLines most Fits) (node_seen_is where_to y.node y.line) (subst (InLines most Fits) (action_seen_is where_to a) h.typed)) k.1 (unseen Keeps a h.parts)
              (subst (InLines most present) (node_calls_are y.node y.line) (subst (InLines most present) (action_calls_are a) h.called)),
        )

  -- suites of which all that stands in them is known
  pub ok_suite_of : (where_to : Node) (suite : List Action) → InLines most Fits (flat (map (seen_action where_to) suite)) → InSuite Keeps suite → InLines most present (flat (map calls_in_action suite)) → OkSuite where_to suite
  ok_suite_of where_to suite f k c = ok_suite where_to suite f k c
