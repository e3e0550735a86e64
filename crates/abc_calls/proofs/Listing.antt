-- Templates of calls that are listed one after the other.
use Rattle.std.proofs.Common.{◌≡◌, ◌<◌, ◌≤◌, ◌+◌, ℕ, arith, ◌∙◌, zero, suc, Bool, true, false, List, [], ◌∷◌, ◌++◌, length, take, drop, map, refl, ap, sym, append_assoc, append-nil, eqb-true, rules}
use Rattle.std.specs.Prelude.{slice_index_or, ◌==◌}
use Rattle.abc_tree.specs.Lists.{flat}
use Rattle.abc_tree.specs.Lined.{Lined, at, upto}
use Rattle.abc_tree.proofs.Adding as adding
use Rattle.abc_tree.specs.Calls.{Calls, begins_with_place, in_text_order}
use Rattle.abc_tree.specs.declared.operations.Op.{Op}
use Rattle.abc_tree.specs.declared.formulas.Expr.{Expr, the_lemmas}
use Rattle.abc_tree.specs.declared.formulas.Expr.TheVariants as e
use Rattle.abc_tree.specs.declared.formulas.Bound.{Bound}
use Rattle.abc_tree.specs.declared.formulas.Quantifier.{Quantifier}
use Rattle.abc_tree.specs.declared.formulas.Link.{Link}
use Rattle.abc_tree.specs.declared.formulas.Test.{Test, the_lemmas as tests}
use Rattle.abc_tree.specs.declared.formulas.Test.TheVariants as t
use Rattle.abc_tree.specs.declared.formulas.Pair.{Pair}
use Rattle.abc_tree.specs.declared.formulas.Fill.TheVariants as fill
use Rattle.abc_tree.specs.declared.commands.Action.{Action}
use Rattle.abc_tree.specs.declared.commands.Alternative.{Alternative, out-Alternative}
use Rattle.abc_tree.specs.declared.commands.ActionNode.{the_lemmas as actions}
use Rattle.abc_tree.specs.declared.commands.ActionNode.TheVariants as n
use Rattle.abc_calls.specs.inner.Nodes.{nodes_in, nodes_in_fill, nodes_in_pair, nodes_in_test, nodes_if_any, nodes_in_node, nodes_in_action, nodes_in_alternative, with_nodes}
use Rattle.abc_tree.specs.declared.templates.Template.{Template}

pub both_added : (found xs ys : Calls) → with_nodes found (xs ++ ys) ≡ with_nodes (with_nodes found xs) ys
both_added found [] ys = refl
both_added found (x ∷ xs) ys = both_added (found ++ x ∷ []) xs ys

-- nothing before
before_all : (found xs : Calls) → with_nodes found xs ≡ found ++ xs
before_all found [] = sym (append-nil found)
before_all found (x ∷ xs) = before_all (found ++ x ∷ []) xs ∙ append_assoc found (x ∷ []) xs

pub from_nothing : (xs : Calls) → with_nodes [] xs ≡ xs
from_nothing xs = before_all [] xs

-- a call between those in its actuals
pub called_between : (old mid next now : Calls) (t2 : Template) (xs ys all : Calls) → all ≡ xs ++ t2 ∷ ys → mid ≡ with_nodes old xs → next ≡ mid ++ t2 ∷ [] → now ≡ with_nodes next ys → now ≡ with_nodes old all
called_between old mid next now t2 xs ys all cut first called last =
    last ∙ (ap (λ f. with_nodes f ys) called ∙ (ap (λ f. with_nodes f (t2 ∷ ys)) first ∙ (sym (both_added old xs (t2 ∷ ys)) ∙ ap (with_nodes old) (sym cut))))

-- how the order of the text cuts the actuals
abbrev pub IsCut : Template → List Expr → ℕ → Type 0
IsCut t2 es n = in_text_order t2 (map nodes_in es) ≡ flat (map nodes_in (take n es)) ++ t2 ∷ flat (map nodes_in (drop n es))

pub cut_empty : (t2 : Template) (es : List Expr) (empty : Bool) → empty ≡ (length es == 0) → empty ≡ true → IsCut t2 es 0
cut_empty t2 [] empty is yes_it_is = refl
cut_empty t2 (x ∷ es) empty is yes_it_is = absurd (let h : length (x ∷ es) ≡ 0 = eqb-true (length (x ∷ es)) 0 (sym is ∙ yes_it_is) in omega (arith, h))

pub cut_none : (t2 : Template) (es : List Expr) → begins_with_place t2.words ≡ false → IsCut t2 es 0
cut_none t2 [] off = refl
cut_none t2 (x ∷ es) off = rw off refl

pub cut_first : (t2 : Template) (es : List Expr) (x : Expr) (empty : Bool) → empty ≡ (length es == 0) → empty ≡ false → begins_with_place t2.words ≡ true → IsCut t2 es 1
cut_first t2 [] x empty is not_so on = absurd (let h : true ≡ false = sym is ∙ not_so in cc)
cut_first t2 (y ∷ es) x empty is not_so on = rw on (ap (λ front. front ++ t2 ∷ flat (map nodes_in es)) (sym (append-nil (nodes_in y))))

-- the first of some actuals
pub first_listed : (es : List Expr) (x : Expr) (empty : Bool) (old now : Calls) → empty ≡ (length es == 0) → empty ≡ false → x ≡ slice_index_or es 0 x → now ≡ with_nodes old (nodes_in x) → now ≡ with_nodes old (flat (map nodes_in (take 1 es)))
first_listed [] x empty old now is not_so here added = absurd (let h : true ≡ false = sym is ∙ not_so in cc)
first_listed (y ∷ es) x empty old now is not_so here added = added ∙ ap (with_nodes old) (ap nodes_in here ∙ sym (append-nil (nodes_in y)))

-- the end of a loop that begins at a place
pub rest_listed : (es : List Expr) (i : ℕ) (old now : Calls) (from : List Expr) → length es ≤ i → with_nodes old (flat (map nodes_in from)) ≡ with_nodes now (flat (map nodes_in (drop i es))) → now ≡ with_nodes old (flat (map nodes_in from))
rest_listed es i old now from le kept = sym (kept ∙ ap (λ xs. with_nodes now (flat (map nodes_in xs))) (none_past es i le))
  where
    none_past : (xs : List Expr) (j : ℕ) → length xs ≤ j → drop j xs ≡ []
    none_past [] zero h = refl
    none_past [] (suc j) h = refl
    none_past (y ∷ xs) zero h = absurd (omega (arith, h))
    none_past (y ∷ xs) (suc j) h = none_past xs j (omega (arith, h))

-- an expression with two parts
pub nodes_select : (x y : Expr) → nodes_in (e.Select x y) ≡ nodes_in x ++ nodes_in y
nodes_select x y = search (rules, the_lemmas)

pub nodes_apply2 : (op : Op) (x y : Expr) → nodes_in (e.Apply2 op x y) ≡ nodes_in x ++ nodes_in y
nodes_apply2 op x y = search (rules, the_lemmas)

pub nodes_range : (x y : Expr) → nodes_in_fill (fill.Range x y) ≡ nodes_in x ++ nodes_in y
nodes_range x y = search (rules, the_lemmas)

pub nodes_pair : (p : Pair) → nodes_in_pair p ≡ nodes_in p.key ++ nodes_in p.associate
nodes_pair p = search (rules, the_lemmas)

-- a test with two parts
pub nodes_chain : (x : Expr) (links : List Link) → nodes_in_test (t.Chain x links) ≡ nodes_in x ++ flat (map (λ link. nodes_in link.right) links)
nodes_chain x links = search (rules, tests)

pub nodes_member : (op : Op) (x y : Expr) → nodes_in_test (t.Member op x y) ≡ nodes_in x ++ nodes_in y
nodes_member op x y = search (rules, tests)

pub nodes_and : (x y : Test) → nodes_in_test (t.And x y) ≡ nodes_in_test x ++ nodes_in_test y
nodes_and x y = search (rules, tests)

pub nodes_or : (x y : Test) → nodes_in_test (t.Or x y) ≡ nodes_in_test x ++ nodes_in_test y
nodes_or x y = search (rules, tests)

pub nodes_quantified : (q : Quantifier) (names : Bound) (x : Expr) (y : Test) → nodes_in_test (t.Quantified q names x y) ≡ nodes_in x ++ nodes_in_test y
nodes_quantified q names x y = search (rules, tests)

-- two parts of a tree, and one turn of a loop over a list
pub two_added : (found mid now xs ys all : Calls) → all ≡ xs ++ ys → mid ≡ with_nodes found xs → now ≡ with_nodes mid ys → now ≡ with_nodes found all
two_added = adding.two_added with_nodes both_added

pub next_added : {X : Type 0} (calls : X → Calls) (xs : List X) (i : ℕ) (x : X) (found now : Calls) → i < length xs → x ≡ slice_index_or xs i x → now ≡ with_nodes found (calls x)
    → with_nodes found (flat (map calls (drop i xs))) ≡ with_nodes now (flat (map calls (drop (i + 1) xs)))
next_added = adding.next_added with_nodes both_added

pub two_upto : (n : ℕ) (found mid now : Calls) (xs ys all : Lined Template) → all ≡ xs ++ ys → mid ≡ with_nodes found (upto n xs) → now ≡ with_nodes mid (upto n ys) → now ≡ with_nodes found (upto n all)
two_upto = adding.two_upto with_nodes both_added

pub next_upto : {X : Type 0} (calls : X → Lined Template) (n : ℕ) (xs : List X) (i : ℕ) (x : X) (found now : Calls) → i < length xs → x ≡ slice_index_or xs i x → now ≡ with_nodes found (upto n (calls x))
    → with_nodes found (upto n (flat (map calls (drop i xs)))) ≡ with_nodes now (upto n (flat (map calls (drop (i + 1) xs))))
next_upto = adding.next_upto with_nodes both_added

-- a command with a suite
pub nodes_if : (x : Test) (suite : List Action) (line : ℕ) → nodes_in_node (n.If x suite) line ≡ at line (nodes_in_test x) ++ flat (map nodes_in_action suite)
nodes_if x suite line = search (rules, actions)

pub nodes_while : (x : Test) (suite : List Action) (line : ℕ) → nodes_in_node (n.While x suite) line ≡ at line (nodes_in_test x) ++ flat (map nodes_in_action suite)
nodes_while x suite line = search (rules, actions)

pub nodes_for : (names : Bound) (x : Expr) (suite : List Action) (line : ℕ) → nodes_in_node (n.For names x suite) line ≡ at line (nodes_in x) ++ flat (map nodes_in_action suite)
nodes_for names x suite line = search (rules, actions)

pub nodes_alternative : (a : Alternative) → nodes_in_alternative a ≡ at (out-Alternative a).line (nodes_if_any (out-Alternative a).test) ++ flat (map nodes_in_action (out-Alternative a).suite)
nodes_alternative a = search (rules, actions)
