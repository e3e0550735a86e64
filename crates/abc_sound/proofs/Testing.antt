-- What fits, fits part by part: names that are bound, and tests.
use Rattle.std.proofs.Common.{◌≡◌, ◌∙◌, refl, ap, sym, subst, Bool, true, false, ◌&&◌, List, [], ◌∷◌, ◌++◌, map, length, Option, Some, None, if◌then◌else◌}
use Rattle.std.specs.List.{AllByRecursion}
use Rattle.std.proofs.lemmas.Bool.{and_parts}
use Rattle.std.proofs.lemmas.List.{append-nil}
use Rattle.abc_num.specs.Number.{IsNumber}
use Rattle.abc_num.specs.Types.{IsTrainOf}
use Rattle.abc_num.specs.declared.types.Ground.{Ground}
use Rattle.abc_tree.specs.Lists.{flat}
use Rattle.abc_tree.specs.Calls.{Calls, template_first, begins_with_place, calls_in, calls_in_test, test_calls}
use Rattle.abc_tree.specs.Regular.{Names, every, some, is_call, is_predicate, is_there, is_test_kind, has_regular_parts, is_regular_bound, link_is, test_is}
use Rattle.abc_tree.specs.Roles.{is_relation, is_membership}
use Rattle.abc_tree.specs.declared.templates.Template.{Template}
use Rattle.abc_tree.specs.declared.formulas.Expr.{Expr}
use Rattle.abc_tree.specs.declared.formulas.Link.{Link}
use Rattle.abc_tree.specs.declared.formulas.Bound.{Bound, out-Bound, map-Bound}
use Rattle.abc_tree.specs.declared.formulas.Bound.TheOpen.{Bound-F}
use Rattle.abc_tree.specs.declared.formulas.Bound.TheViews.{roll-out-Bound}
use Rattle.abc_tree.specs.declared.formulas.Bound.TheFolds.{fold-roll-Bound}
use Rattle.abc_tree.specs.declared.formulas.Test.{Test, fold-Test, out-Test, map-Test}
use Rattle.abc_tree.specs.declared.formulas.Test.TheOpen.{Test-F}
use Rattle.abc_tree.specs.declared.formulas.Test.TheViews.{roll-out-Test}
use Rattle.abc_tree.specs.declared.formulas.Test.TheFolds.{fold-roll-Test}
use Rattle.abc_tree.specs.declared.operations.Op.{Op}
use Rattle.abc_ground.specs.Seen.{one_type, any, train, test_row, Node, call, no_nodes, more, nodes, over_two, call_of, bound_seen, seen_bound, test_seen, seen_test, seen}
use Rattle.abc_ground.specs.Fits.{Signature, Typing, AreAll, TestFits, RuleFits, IsAny, IsGiven, CallFits, fits}
use Rattle.abc_meaning.specs.Here.{Scope}
use Rattle.abc_meaning.proofs.Opened.{front, behind, InExpr, InTest, InTestLayer, in_test}
use Rattle.abc_sound.proofs.Expressions.{names_for, every_of, NodeFits, NodesFit, ExprFits, IsOne, name_one, fields_one, expr_one, two_exprs, each_of_nodes, split_all, Elements, of_element, call_fits, OkExpr, OkCall, ok_call}

-- ---- names that are bound

abbrev pub see_bound : Bound-F Bound → Node
see_bound y = bound_seen (map-Bound Bound Node seen_bound y)

pub bound_seen_is : (b : Bound) → seen_bound b ≡ see_bound (out-Bound b)
bound_seen_is b = ap seen_bound (sym (roll-out-Bound b)) ∙ fold-roll-Bound Node bound_seen (out-Bound b)

module _ (allowed : Template → Option Signature → Type 0) (g : Typing) where
  -- the names fit the type
  abbrev pub BoundFits : Bound → Ground → Type 0
  BoundFits b t = NodeFits allowed g (seen_bound b) (t ∷ [])

  bound_layer_one : (y : Bound-F Bound) (own : List Ground) → NodeFits allowed g (see_bound y) own → IsOne allowed g own
  bound_layer_one (Bound-F.One i) own h = name_one allowed g i.0 h.0 own h.2
  bound_layer_one (Bound-F.Several bs) own h = fields_one allowed g h.0 own h.2

  pub bound_one : (b : Bound) (own : List Ground) → NodeFits allowed g (seen_bound b) own → (t : Ground) × (own ≡ t ∷ []) × BoundFits b t
  bound_one b own h = by own (bound_layer_one (out-Bound b) own (subst (λ x. NodeFits allowed g x own) (bound_seen_is b) h)) h
    where
      by : (own : List Ground) → IsOne allowed g own → NodeFits allowed g (seen_bound b) own → (t : Ground) × (own ≡ t ∷ []) × BoundFits b t
      by [] o h = absurd o
      by (t ∷ []) o h = (t, refl, h)
      by (t ∷ u ∷ ts) o h = absurd o

  -- names that stand side by side, each with its type
  abbrev pub BoundsFit : List Bound → List Ground → Type 0
  BoundsFit [] [] = Unit {0}
  BoundsFit (b ∷ bs) (t ∷ ts) = BoundFits b t × BoundsFit bs ts
  BoundsFit _ _ = ⊥

  pub bounds_fit : (bs : List Bound) (own : List Ground) → NodesFit allowed g (nodes (map seen_bound bs)) own → BoundsFit bs own
  bounds_fit [] own h = subst (BoundsFit []) (sym h.0) tt
  bounds_fit (b ∷ bs) own h =
      let o = bound_one b h.0 h.4 in
      subst (BoundsFit (b ∷ bs)) (sym (h.3 ∙ ap (λ ts. ts ++ h.1) o.1)) (o.2, bounds_fit bs h.1 h.5)

  -- ---- tests have no type

  abbrev see_test : Test-F Test → Node
  see_test y = test_seen (map-Test Test Node seen_test y)

  abbrev pub IsNone : List Ground → Type 0
  IsNone [] = Unit {0}
  IsNone _ = ⊥

  one_type_none : (parts own : List Ground) → RuleFits g one_type parts own → IsNone own
  one_type_none parts [] h = tt
  one_type_none parts (t ∷ ts) h = absurd h

  any_none : (parts own : List Ground) → RuleFits g any parts own → IsNone own
  any_none parts [] h = tt
  any_none parts (t ∷ ts) h = absurd h

  test_row_none : (op : Op) (parts own : List Ground) → RuleFits g (test_row op) parts own → IsNone own
  test_row_none op parts [] h = tt
  test_row_none op parts (t ∷ ts) h = absurd h

  given_none : (o : Option Ground) (own : List Ground) → IsGiven false o own → IsNone own
  given_none None [] h = tt
  given_none None (t ∷ ts) h = absurd h
  given_none (Some t) own h = absurd h

  any_call_none : (own : List Ground) → IsAny false own → IsNone own
  any_call_none [] h = tt
  any_call_none (t ∷ ts) h = absurd h

  call_none : (s : Option Signature) (actuals own : List Ground) → CallFits false s actuals own → IsNone own
  call_none None actuals own h = any_call_none own h
  call_none (Some s) actuals own h = given_none s.result own h.1

  called_none : (t : Template) (xs : List Node) (own : List Ground) → NodeFits allowed g (call_of false t xs) own → IsNone own
  called_none t [] own h = call_none h.2 (h.0 ++ h.1) own h.8
  called_none t (x ∷ xs) own h = by (begins_with_place t.words) h
    where
      by : (b : Bool) → NodeFits allowed g (if b then call false t (more x no_nodes) (nodes xs) else call false t no_nodes (nodes (x ∷ xs))) own → IsNone own
      by true h = call_none h.2 (h.0 ++ h.1) own h.8
      by false h = call_none h.2 (h.0 ++ h.1) own h.8

  layer_none : (y : Test-F Test) (own : List Ground) → NodeFits allowed g (see_test y) own → IsNone own
  layer_none (Test-F.Chain first links) own h = one_type_none h.0 own h.2
  layer_none (Test-F.Member op e t) own h = test_row_none op h.0 own h.2
  layer_none (Test-F.And a b) own h = any_none h.0 own h.2
  layer_none (Test-F.Or a b) own h = any_none h.0 own h.2
  layer_none (Test-F.Not a) own h = any_none h.0 own h.2
  layer_none (Test-F.Quantified q names x t) own h = any_none h.0 own h.2
  layer_none (Test-F.Call t es) own h = called_none t (map seen es) own h
  layer_none (Test-F.Refinement i) own h = any_none h.0 own h.2

  test_seen_is : (t : Test) → seen_test t ≡ see_test (out-Test t)
  test_seen_is t = ap seen_test (sym (roll-out-Test t)) ∙ fold-roll-Test Node test_seen (out-Test t)

  test_bare : (t : Test) (own : List Ground) → NodeFits allowed g (seen_test t) own → NodeFits allowed g (seen_test t) []
  test_bare t own h = by own (layer_none (out-Test t) own (subst (λ x. NodeFits allowed g x own) (test_seen_is t) h)) h
    where
      by : (own : List Ground) → IsNone own → NodeFits allowed g (seen_test t) own → NodeFits allowed g (seen_test t) []
      by [] n h = h
      by (u ∷ ts) n h = absurd n

-- ---- all that is known of a test

module _ (allowed : Template → Option Signature → Type 0) (present : Template → Type 0) (scope : Scope) (g : Typing) where
  abbrev names : Names
  names = names_for scope

  abbrev pub regular_test : Test → Bool
  regular_test = fold-Test Bool (test_is names)

  pub record OkTest (t : Test) : Type 0 where
    pub typed : NodeFits allowed g (seen_test t) []
    pub regular : regular_test t ≡ true
    pub numbers : InTest IsNumber t
    pub calls : AllByRecursion present (calls_in_test t)

  abbrev Ok : Expr → Ground → Type 0
  Ok e t = OkExpr allowed present scope g e t

  -- a link of a chain of values of one type
  abbrev pub OkLink : Ground → Link → Type 0
  OkLink e link = (is_relation link.op ≡ true) × OkExpr allowed present scope g link.right e

  abbrev pub OkTestLayer : Test-F Test → Type 0
  OkTestLayer (Test-F.Chain first links) = (e : Ground) × OkExpr allowed present scope g first e × AllByRecursion (OkLink e) links
  OkTestLayer (Test-F.Member op x y) = (a : Ground) × (b : Ground) × OkExpr allowed present scope g x a × OkExpr allowed present scope g y b × TestFits op (a ∷ b ∷ []) []
  OkTestLayer (Test-F.And t u) = OkTest t × OkTest u
  OkTestLayer (Test-F.Or t u) = OkTest t × OkTest u
  OkTestLayer (Test-F.Not t) = OkTest t
  OkTestLayer (Test-F.Quantified q bound x t) = (a : Ground) × (e : Ground) × OkExpr allowed present scope g x a × BoundFits allowed g bound e × IsTrainOf a e × OkTest t
  OkTestLayer (Test-F.Call template es) = OkCall allowed present scope g false template es []
  OkTestLayer (Test-F.Refinement i) = (is_there names i && is_test_kind (names.refinement i.0)) ≡ true

  abbrev calls_of : Test-F Test → Calls
  calls_of y = test_calls template_first (map-Test Test Calls calls_in_test y)

  calls_are : (t : Test) → calls_in_test t ≡ calls_of (out-Test t)
  calls_are t = ap calls_in_test (sym (roll-out-Test t)) ∙ fold-roll-Test Calls (test_calls template_first) (out-Test t)

  abbrev is_layer : Test-F Test → Bool
  is_layer y = test_is names (map-Test Test Bool regular_test y)

  regular_is : (t : Test) → regular_test t ≡ is_layer (out-Test t)
  regular_is t = ap regular_test (sym (roll-out-Test t)) ∙ fold-roll-Test Bool (test_is names) (out-Test t)

  ok_links : (e : Ground) (links : List Link) → AllByRecursion (Elements allowed present scope g e) (map (λ link. seen link.right) links) → AllByRecursion (λ link. link_is names link ≡ true) links → AllByRecursion (λ (link : Link). InExpr IsNumber link.right) links
      → AllByRecursion present (flat (map (λ link. calls_in link.right) links)) → AllByRecursion (OkLink e) links
  ok_links e [] f r n c = tt
  ok_links e (link ∷ links) f r n c =
      let s = and_parts (is_relation link.op) (has_regular_parts names link.right) r.0 in
      let of : Link → Calls = λ link. calls_in link.right in (
        (s.0, record { typed = of_element allowed present scope g link.right e f.0; regular = s.1; numbers = n.0; calls = front present (of link) (flat (map of links)) c }),
        ok_links e links f.1 r.1 n.1 (behind present (of link) (flat (map of links)) c),
      )

  -- two tests beside each other
  two_tests : (t u : Test) (own : List Ground) → NodesFit allowed g (more (seen_test t) (more (seen_test u) no_nodes)) own → NodeFits allowed g (seen_test t) [] × NodeFits allowed g (seen_test u) []
  two_tests t u own h = (test_bare allowed g t h.0 h.4, test_bare allowed g u h.5.0 h.5.4)

  both_tests : (t u : Test) (own : List Ground) → NodesFit allowed g (more (seen_test t) (more (seen_test u) no_nodes)) own → (regular_test t && regular_test u) ≡ true → InTest IsNumber t × InTest IsNumber u
      → AllByRecursion present (calls_in_test t ++ calls_in_test u) → OkTest t × OkTest u
  both_tests t u own f r n c =
      let h = two_tests t u own f in
      let s = and_parts (regular_test t) (regular_test u) r in (
        record { typed = h.0; regular = s.0; numbers = n.0; calls = front present (calls_in_test t) (calls_in_test u) c },
        record { typed = h.1; regular = s.1; numbers = n.1; calls = behind present (calls_in_test t) (calls_in_test u) c },
      )

  -- a train of the type of the names
  pub train_fits : (b : Bound) (x : Expr) (own : List Ground) → NodeFits allowed g (over_two train (seen_bound b) (seen x)) own → (a : Ground) × (e : Ground) × ExprFits allowed g x a × BoundFits allowed g b e × IsTrainOf a e
  train_fits b x own h =
      let o = bound_one allowed g b h.1.0 h.1.4 in
      let p = expr_one allowed g x h.1.5.0 h.1.5.4 in
      let parts : h.0 ≡ o.0 ∷ p.0 ∷ [] = h.1.3 ∙ (ap (λ ts. ts ++ h.1.1) o.1 ∙ ap (λ ts. o.0 ∷ ts) (h.1.5.3 ∙ (ap (λ ts. h.1.5.0 ++ ts) h.1.5.5.0 ∙ (append-nil h.1.5.0 ∙ p.1)))) in
      (p.0, o.0, p.2, o.2, by own (subst (λ ps. RuleFits g train ps own) parts h.2))
    where
      by : {t u : Ground} (own : List Ground) → RuleFits g train (t ∷ u ∷ []) own → IsTrainOf u t
      by [] h = h
      by (v ∷ vs) h = absurd h

  ok_test_layer : (y : Test-F Test) → NodeFits allowed g (see_test allowed g y) [] → is_layer y ≡ true → InTestLayer IsNumber y → AllByRecursion present (calls_of y) → OkTestLayer y
  ok_test_layer (Test-F.Chain first links) f r n c =
      let s = and_parts (has_regular_parts names first && some links) (every (map (link_is names) links)) r in
      let v = and_parts (has_regular_parts names first) (some links) s.0 in
      let w = f.2 in
      let of : Link → Calls = λ link. calls_in link.right in
      let all = each_of_nodes allowed g (AreAll w.0) (split_all allowed g w.0) (seen first ∷ map (λ link. seen link.right) links) f.0 f.1 w.1 in (
        w.0,
        record { typed = of_element allowed present scope g first w.0 all.0; regular = v.0; numbers = n.0; calls = front present (calls_in first) (flat (map of links)) c },
        ok_links w.0 links all.1 (every_of (link_is names) links s.1) n.1 (behind present (calls_in first) (flat (map of links)) c),
      )
  ok_test_layer (Test-F.Member op x y) f r n c =
      let s = and_parts (is_membership op && has_regular_parts names x) (has_regular_parts names y) r in
      let v = and_parts (is_membership op) (has_regular_parts names x) s.0 in
      let o = two_exprs allowed g x y f.0 f.1 in (
        o.0,
        o.1,
        record { typed = o.3; regular = v.1; numbers = n.0; calls = front present (calls_in x) (calls_in y) c },
        record { typed = o.4; regular = s.1; numbers = n.1; calls = behind present (calls_in x) (calls_in y) c },
        subst (λ ps. TestFits op ps []) o.2 f.2,
      )
  ok_test_layer (Test-F.And t u) f r n c = both_tests t u f.0 f.1 r n c
  ok_test_layer (Test-F.Or t u) f r n c = both_tests t u f.0 f.1 r n c
  ok_test_layer (Test-F.Not t) f r n c = record { typed = test_bare allowed g t f.1.0 f.1.4; regular = r; numbers = n; calls = c }
  ok_test_layer (Test-F.Quantified q bound x t) f r n c =
      let s = and_parts (is_regular_bound names bound && has_regular_parts names x) (regular_test t) r in
      let v = and_parts (is_regular_bound names bound) (has_regular_parts names x) s.0 in
      let o = train_fits bound x f.1.0 f.1.4 in (
        o.0,
        o.1,
        record { typed = o.2; regular = v.1; numbers = n.0; calls = front present (calls_in x) (calls_in_test t) c },
        o.3,
        o.4,
        record { typed = test_bare allowed g t f.1.5.0 f.1.5.4; regular = s.1; numbers = n.1; calls = behind present (calls_in x) (calls_in_test t) c },
      )
  ok_test_layer (Test-F.Call template es) f r n c =
      let s = and_parts (is_call is_predicate template (length es)) (every (map (has_regular_parts names) es)) r in
      ok_call allowed present scope g false template es [] (call_fits allowed g false template es [] f) (every_of (has_regular_parts names) es s.1) n c
  ok_test_layer (Test-F.Refinement i) f r n c = r

  pub ok_test_opened : (t : Test) → OkTest t → OkTestLayer (out-Test t)
  ok_test_opened t h =
      ok_test_layer (out-Test t) (subst (λ x. NodeFits allowed g x []) (test_seen_is allowed g t) h.typed) (sym (regular_is t) ∙ h.regular) (in_test IsNumber t h.numbers) (subst (AllByRecursion present) (calls_are t) h.calls)
