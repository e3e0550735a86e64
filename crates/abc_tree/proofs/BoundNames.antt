-- Flags that are set for the names which a tree binds.
use Rattle.std.proofs.Common.{◌≡◌, ◌⊎◌, ◌<◌, ◌+◌, ℕ, suc, Bool, true, false, ◌||◌, List, [], ◌∷◌, ◌++◌, length, drop, map, Option, Some, None, refl, sym, ◌∙◌, ap, arith, rules, inl, inr}
use Rattle.std.specs.Prelude.{slice_index_or, slice_set, replicate}
use Rattle.std.proofs.lemmas.Bool.{cases_eq, eq-eqb, ne_eqb}
use Rattle.std.proofs.lemmas.List.{append-nil, append_assoc, map-append, get_or-set_same, get_or-set_other, length-set, length-replicate, get_or-replicate}
use Rattle.abc_tree.specs.Lists.{flat}
use Rattle.abc_tree.specs.RegularItems.{Part, Parts, Way, here, inside, early, ways, tested, test, line, bound, value, parts_of, suite_parts, parts_of_unit, bounds_in, bounds_in_test, bounds_of, bound_names, is_among, AreFlags}
use Rattle.abc_tree.specs.inner.Bindings.{marked, parts_in_node, way_in, bound_in_node, bound_in_action, bound_in_alternative, bound_in_refinement, bound_if_any}
use Rattle.abc_tree.specs.declared.formulas.Expr.{Expr}
use Rattle.abc_tree.specs.declared.formulas.Bound.{Bound}
use Rattle.abc_tree.specs.declared.formulas.Quantifier.{Quantifier}
use Rattle.abc_tree.specs.declared.formulas.Test.{Test, the_lemmas as tests}
use Rattle.abc_tree.specs.declared.formulas.Test.TheVariants as t
use Rattle.abc_tree.specs.declared.commands.Action.{Action, out-Action}
use Rattle.abc_tree.specs.declared.commands.Alternative.{Alternative, out-Alternative}
use Rattle.abc_tree.specs.declared.commands.ActionNode.{the_lemmas as actions}
use Rattle.abc_tree.specs.declared.commands.ActionNode.TheVariants as n
use Rattle.abc_tree.specs.declared.commands.Refinement.{Refinement}
use Rattle.abc_tree.specs.declared.commands.Unit.{Unit as Routine}
use Rattle.abc_tree.specs.declared.templates.Template.{Template}
use Rattle.abc_tree.proofs.Adding as adding

-- ---- flags

pub both_marked : (flags : List Bool) (ms ns : List ℕ) → marked flags (ms ++ ns) ≡ marked (marked flags ms) ns
both_marked flags [] ns = refl
both_marked flags (m ∷ ms) ns = both_marked (slice_set flags m true) ms ns

pub two_marked : (old mid now : List Bool) (ms ns all : List ℕ) → all ≡ ms ++ ns → mid ≡ marked old ms → now ≡ marked mid ns → now ≡ marked old all
two_marked = adding.two_added marked both_marked

pub next_marked : {Y : Type 0} (names : Y → List ℕ) (ys : List Y) (i : ℕ) (y : Y) (old now : List Bool) → i < length ys → y ≡ slice_index_or ys i y → now ≡ marked old (names y)
    → marked old (flat (map names (drop i ys))) ≡ marked now (flat (map names (drop (i + 1) ys)))
next_marked = adding.next_added marked both_marked

length_marked : (flags : List Bool) (ns : List ℕ) → length (marked flags ns) ≡ length flags
length_marked flags [] = refl
length_marked flags (n ∷ ns) = length_marked (slice_set flags n true) ns ∙ length-set flags n true

-- a flag is set where it was, or where its number is among these
flag_marked : (flags : List Bool) (ns : List ℕ) (i : ℕ) (d : Bool) → i < length flags → slice_index_or (marked flags ns) i d ≡ (is_among ns i || slice_index_or flags i d)
flag_marked flags [] i d l = refl
flag_marked flags (n ∷ ns) i d l =
    let few : i < length (slice_set flags n true) = omega (arith, length-set flags n true) in
    flag_marked (slice_set flags n true) ns i d few ∙ by_cases (cases_eq i n)
  where
    by_cases : (i ≡ n) ⊎ (i ≡ n → ⊥) → (is_among ns i || slice_index_or (slice_set flags n true) i d) ≡ (is_among (n ∷ ns) i || slice_index_or flags i d)
    by_cases (inl e) =
        ap (λ x. is_among ns i || x) (ap (λ k. slice_index_or (slice_set flags k true) i d) (sym e) ∙ get_or-set_same flags i true d l) ∙ or_true (is_among ns i)
        ∙ sym (ap (λ x. (x || is_among ns i) || slice_index_or flags i d) (eq-eqb i n e))
      where
        or_true : (x : Bool) → (x || true) ≡ true
        or_true true = refl
        or_true false = refl
    by_cases (inr e) = ap (λ x. is_among ns i || x) (get_or-set_other flags n i true d e) ∙ sym (ap (λ x. (x || is_among ns i) || slice_index_or flags i d) (ne_eqb i n e))

or_none : (x : Bool) → (x || false) ≡ x
or_none true = refl
or_none false = refl

pub are_flags : (count : ℕ) (ns : List ℕ) (flags : List Bool) → flags ≡ marked (replicate count false) ns → AreFlags count ns flags
are_flags count ns flags e = record {
  all = ap length e ∙ length_marked (replicate count false) ns ∙ length-replicate count false;
  each = λ i d l.
      ap (λ fs. slice_index_or fs i d) e ∙ flag_marked (replicate count false) ns i d (omega (arith, l, length-replicate count false))
      ∙ ap (λ x. is_among ns i || x) (get_or-replicate count i false d l) ∙ or_none (is_among ns i);
}

-- numbers that are put behind others
pub next_formal : {Y : Type 0} (names : Y → List ℕ) (ys : List Y) (i : ℕ) (y : Y) (old now : List ℕ) → i < length ys → y ≡ slice_index_or ys i y → now ≡ old ++ names y
    → old ++ flat (map names (drop i ys)) ≡ now ++ flat (map names (drop (i + 1) ys))
next_formal = adding.next_added (λ ms ns. ms ++ ns) (λ ms ns ks. sym (append_assoc ms ns ks))

-- ---- the names that parts bind

flat-append : {X : Type 0} (xss yss : List (List X)) → flat (xss ++ yss) ≡ flat xss ++ flat yss
flat-append [] yss = refl
flat-append (xs ∷ xss) yss = ap (λ zs. xs ++ zs) (flat-append xss yss) ∙ sym (append_assoc xs (flat xss) (flat yss))

bounds-append : (ps qs : Parts) → bounds_of (ps ++ qs) ≡ bounds_of ps ++ bounds_of qs
bounds-append ps qs = ap flat (map-append (λ (part : ℕ × Part). bounds_in part.1) ps qs) ∙ flat-append (map (λ (part : ℕ × Part). bounds_in part.1) ps) (map (λ (part : ℕ × Part). bounds_in part.1) qs)

bounds_deeper : (ps : Parts) → bounds_of (map (λ part. (suc part.0, part.1)) ps) ≡ bounds_of ps
bounds_deeper [] = refl
bounds_deeper (p ∷ ps) = ap (λ ns. bounds_in p.1 ++ ns) (bounds_deeper ps)

bounds_flat : {Y : Type 0} (parts : Y → Parts) (ys : List Y) → bounds_of (flat (map parts ys)) ≡ flat (map (λ y. bounds_of (parts y)) ys)
bounds_flat parts [] = refl
bounds_flat parts (y ∷ ys) = bounds-append (parts y) (flat (map parts ys)) ∙ ap (λ ns. bounds_of (parts y) ++ ns) (bounds_flat parts ys)

bounds_inside : (suite : List Action) → bounds_of (inside (map parts_of suite)) ≡ flat (map bound_in_action suite)
bounds_inside suite = bounds_deeper (flat (map parts_of suite)) ∙ bounds_flat parts_of suite

bounds_ways : {Y : Type 0} (way : Y → Way) (ys : List Y) → bounds_of (ways (map way ys)) ≡ flat (map (λ y. bounds_of ((way y).parts)) ys)
bounds_ways way [] = refl
bounds_ways way (y ∷ []) = sym (append-nil (bounds_of ((way y).parts)))
bounds_ways way (y ∷ z ∷ ys) =
    bounds-append (early (way y).otherwise ++ (way y).parts) (ways (map way (z ∷ ys)))
    ∙ ap (λ ns. ns ++ bounds_of (ways (map way (z ∷ ys)))) (bounds-append (early (way y).otherwise) ((way y).parts) ∙ ap (λ ns. ns ++ bounds_of ((way y).parts)) (no_names (way y).otherwise))
    ∙ ap (λ ns. bounds_of ((way y).parts) ++ ns) (bounds_ways way (z ∷ ys))
  where
    no_names : (x : Bool) → bounds_of (early x) ≡ []
    no_names true = refl
    no_names false = refl

-- ---- commands

pub bound_quantified : (q : Quantifier) (names : Bound) (x : Expr) (y : Test) → bounds_in_test (t.Quantified q names x y) ≡ bound_names names ++ bounds_in_test y
bound_quantified q names x y = search (rules, tests)

pub bound_and : (x y : Test) → bounds_in_test (t.And x y) ≡ bounds_in_test x ++ bounds_in_test y
bound_and x y = search (rules, tests)

pub bound_or : (x y : Test) → bounds_in_test (t.Or x y) ≡ bounds_in_test x ++ bounds_in_test y
bound_or x y = search (rules, tests)

pub bound_check : (x : Test) → bound_in_node (n.Check x) ≡ bounds_in_test x
bound_check x = ap bounds_of parts ∙ append-nil (bounds_in_test x)
  where
    parts : parts_in_node (n.Check x) ≡ here (test x ∷ [])
    parts = search (rules, actions)

pub bound_report : (x : Test) → bound_in_node (n.Report x) ≡ bounds_in_test x
bound_report x = ap bounds_of parts ∙ append-nil (bounds_in_test x)
  where
    parts : parts_in_node (n.Report x) ≡ here (test x ∷ Part.reports ∷ [])
    parts = search (rules, actions)

tested_suite : (x : Test) (suite : List Action) (parts : Parts) → parts ≡ here (test x ∷ []) ++ inside (map parts_of suite) → bounds_of parts ≡ bounds_in_test x ++ flat (map bound_in_action suite)
tested_suite x suite parts e = ap bounds_of e ∙ ap (λ ns. bounds_in_test x ++ ns) (bounds_inside suite)

pub bound_if : (x : Test) (suite : List Action) → bound_in_node (n.If x suite) ≡ bounds_in_test x ++ flat (map bound_in_action suite)
bound_if x suite = tested_suite x suite (parts_in_node (n.If x suite)) parts
  where
    parts : parts_in_node (n.If x suite) ≡ here (test x ∷ []) ++ inside (map parts_of suite)
    parts = search (rules, actions)

pub bound_while : (x : Test) (suite : List Action) → bound_in_node (n.While x suite) ≡ bounds_in_test x ++ flat (map bound_in_action suite)
bound_while x suite = tested_suite x suite (parts_in_node (n.While x suite)) parts
  where
    parts : parts_in_node (n.While x suite) ≡ here (test x ∷ []) ++ inside (map parts_of suite)
    parts = search (rules, actions)

pub bound_for : (names : Bound) (x : Expr) (suite : List Action) → bound_in_node (n.For names x suite) ≡ bound_names names ++ flat (map bound_in_action suite)
bound_for names x suite = ap bounds_of parts ∙ ap (λ ns. bound_names names ++ ns) (bounds_inside suite)
  where
    parts : parts_in_node (n.For names x suite) ≡ here (bound names ∷ value x ∷ []) ++ inside (map parts_of suite)
    parts = search (rules, actions)

pub bound_select : (alternatives : List Alternative) → bound_in_node (n.Select alternatives) ≡ flat (map bound_in_alternative alternatives)
bound_select alternatives = ap bounds_of parts ∙ bounds_ways way_in alternatives
  where
    parts : parts_in_node (n.Select alternatives) ≡ ways (map way_in alternatives)
    parts = search (rules, actions)

-- actuals bind none
pub bound_call : (template : Template) (actuals : List Expr) → bound_in_node (n.Call template actuals) ≡ []
bound_call template actuals = ap bounds_of parts ∙ no_names actuals
  where
    parts : parts_in_node (n.Call template actuals) ≡ here (Part.calls template (length actuals) ∷ map (λ e. value e) actuals)
    parts = search (rules, actions)

    no_names : (es : List Expr) → bounds_of (here (map (λ e. value e) es)) ≡ []
    no_names [] = refl
    no_names (e ∷ es) = no_names es

pub bound_action : (a : Action) → bound_in_action a ≡ bound_in_node (out-Action a).node
bound_action a = ap bounds_of parts
  where
    parts : parts_of a ≡ here (line (out-Action a).line ∷ []) ++ parts_in_node (out-Action a).node
    parts = search (rules, actions)

pub bound_alternative : (a : Alternative) → bound_in_alternative a ≡ bound_if_any (out-Alternative a).test ++ flat (map bound_in_action (out-Alternative a).suite)
bound_alternative a = ap bounds_of parts ∙ by_test (out-Alternative a).test
  where
    parts : (way_in a).parts ≡ here (line (out-Alternative a).line ∷ tested (out-Alternative a).test) ++ inside (map parts_of (out-Alternative a).suite)
    parts = search (rules, actions)

    by_test : (x : Option Test) → bounds_of (here (line (out-Alternative a).line ∷ tested x) ++ inside (map parts_of (out-Alternative a).suite))
        ≡ bound_if_any x ++ flat (map bound_in_action (out-Alternative a).suite)
    by_test None = bounds_inside (out-Alternative a).suite
    by_test (Some x) = ap (λ ns. bounds_in_test x ++ ns) (bounds_inside (out-Alternative a).suite)

pub bound_unit : (u : Routine) → bounds_of (parts_of_unit u) ≡ flat (map bound_in_action u.body) ++ flat (map bound_in_refinement u.refinements)
bound_unit u =
    bounds-append (suite_parts u.body) (flat (map with_line u.refinements)) ∙ ap (λ ns. ns ++ bounds_of (flat (map with_line u.refinements))) (bounds_inside u.body)
    ∙ ap (λ ns. flat (map bound_in_action u.body) ++ ns) (bounds_flat with_line u.refinements ∙ each u.refinements)
  where
    with_line : Refinement → Parts
    with_line r = here (line r.line ∷ []) ++ suite_parts r.suite

    each : (rs : List Refinement) → flat (map (λ r. bounds_of (with_line r)) rs) ≡ flat (map bound_in_refinement rs)
    each [] = refl
    each (r ∷ rs) = ap (λ ns. ns ++ flat (map (λ r. bounds_of (with_line r)) rs)) (bounds_inside r.suite) ∙ ap (λ ns. bound_in_refinement r ++ ns) (each rs)
