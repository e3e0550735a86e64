-- Calls that are added one after the other.
use Rattle.std.proofs.Common.{◌≡◌, ◌<◌, ◌+◌, ℕ, List, [], ◌∷◌, ◌++◌, length, drop, map, refl, rules}
use Rattle.std.specs.Prelude.{slice_index_or}
use Rattle.abc_tree.specs.Lists.{flat}
use Rattle.abc_tree.specs.Lined.{Lined, at, upto}
use Rattle.abc_tree.proofs.Adding as adding
use Rattle.abc_tree.specs.declared.operations.Op.{Op}
use Rattle.abc_tree.specs.declared.formulas.Expr.{Expr, the_lemmas}
use Rattle.abc_tree.specs.declared.formulas.Expr.TheVariants as e
use Rattle.abc_tree.specs.declared.formulas.Bound.{Bound}
use Rattle.abc_tree.specs.declared.formulas.Quantifier.{Quantifier}
use Rattle.abc_tree.specs.declared.formulas.Link.{Link}
use Rattle.abc_tree.specs.declared.formulas.Test.{Test, the_lemmas as tests}
use Rattle.abc_tree.specs.declared.formulas.Test.TheVariants as t
use Rattle.abc_tree.specs.declared.formulas.Pair.{Pair}
use Rattle.abc_tree.specs.declared.formulas.Fill.TheVariants as fill
use Rattle.abc_tree.specs.declared.commands.Action.{Action}
use Rattle.abc_tree.specs.declared.commands.Alternative.{Alternative, out-Alternative}
use Rattle.abc_tree.specs.declared.commands.ActionNode.{the_lemmas as actions}
use Rattle.abc_tree.specs.declared.commands.ActionNode.TheVariants as n
use Rattle.abc_tree.specs.Calls.{Calls, calls_in, calls_in_fill, calls_in_pair, calls_in_test, test_if_any, calls_in_node, calls_in_action, calls_in_alternative, with_call, with_calls}
use Rattle.abc_tree.specs.declared.templates.Template.{Template}

pub both_added : (found xs ys : Calls) → with_calls found (xs ++ ys) ≡ with_calls (with_calls found xs) ys
both_added found [] ys = refl
both_added found (x ∷ xs) ys = both_added (with_call x found) xs ys

-- an expression with two parts
pub calls_select : (x y : Expr) → calls_in (e.Select x y) ≡ calls_in x ++ calls_in y
calls_select x y = search (rules, the_lemmas)

pub calls_apply2 : (op : Op) (x y : Expr) → calls_in (e.Apply2 op x y) ≡ calls_in x ++ calls_in y
calls_apply2 op x y = search (rules, the_lemmas)

pub calls_range : (x y : Expr) → calls_in_fill (fill.Range x y) ≡ calls_in x ++ calls_in y
calls_range x y = search (rules, the_lemmas)

pub calls_pair : (p : Pair) → calls_in_pair p ≡ calls_in p.key ++ calls_in p.associate
calls_pair p = search (rules, the_lemmas)

-- a test with two parts
pub calls_chain : (x : Expr) (links : List Link) → calls_in_test (t.Chain x links) ≡ calls_in x ++ flat (map (λ link. calls_in link.right) links)
calls_chain x links = search (rules, tests)

pub calls_member : (op : Op) (x y : Expr) → calls_in_test (t.Member op x y) ≡ calls_in x ++ calls_in y
calls_member op x y = search (rules, tests)

pub calls_and : (x y : Test) → calls_in_test (t.And x y) ≡ calls_in_test x ++ calls_in_test y
calls_and x y = search (rules, tests)

pub calls_or : (x y : Test) → calls_in_test (t.Or x y) ≡ calls_in_test x ++ calls_in_test y
calls_or x y = search (rules, tests)

pub calls_quantified : (q : Quantifier) (names : Bound) (x : Expr) (y : Test) → calls_in_test (t.Quantified q names x y) ≡ calls_in x ++ calls_in_test y
calls_quantified q names x y = search (rules, tests)

-- two parts of a tree, and one turn of a loop over a list
pub two_added : (found mid now xs ys all : Calls) → all ≡ xs ++ ys → mid ≡ with_calls found xs → now ≡ with_calls mid ys → now ≡ with_calls found all
two_added = adding.two_added with_calls both_added

pub next_added : {X : Type 0} (calls : X → Calls) (xs : List X) (i : ℕ) (x : X) (found now : Calls) → i < length xs → x ≡ slice_index_or xs i x → now ≡ with_calls found (calls x)
    → with_calls found (flat (map calls (drop i xs))) ≡ with_calls now (flat (map calls (drop (i + 1) xs)))
next_added = adding.next_added with_calls both_added

pub two_upto : (n : ℕ) (found mid now : Calls) (xs ys all : Lined Template) → all ≡ xs ++ ys → mid ≡ with_calls found (upto n xs) → now ≡ with_calls mid (upto n ys) → now ≡ with_calls found (upto n all)
two_upto = adding.two_upto with_calls both_added

pub next_upto : {X : Type 0} (calls : X → Lined Template) (n : ℕ) (xs : List X) (i : ℕ) (x : X) (found now : Calls) → i < length xs → x ≡ slice_index_or xs i x → now ≡ with_calls found (upto n (calls x))
    → with_calls found (upto n (flat (map calls (drop i xs)))) ≡ with_calls now (upto n (flat (map calls (drop (i + 1) xs))))
next_upto = adding.next_upto with_calls both_added

-- a command with a suite
pub calls_if : (x : Test) (suite : List Action) (line : ℕ) → calls_in_node (n.If x suite) line ≡ at line (calls_in_test x) ++ flat (map calls_in_action suite)
calls_if x suite line = search (rules, actions)

pub calls_while : (x : Test) (suite : List Action) (line : ℕ) → calls_in_node (n.While x suite) line ≡ at line (calls_in_test x) ++ flat (map calls_in_action suite)
calls_while x suite line = search (rules, actions)

pub calls_for : (names : Bound) (x : Expr) (suite : List Action) (line : ℕ) → calls_in_node (n.For names x suite) line ≡ at line (calls_in x) ++ flat (map calls_in_action suite)
calls_for names x suite line = search (rules, actions)

pub calls_alternative : (a : Alternative) → calls_in_alternative a ≡ at (out-Alternative a).line (test_if_any (out-Alternative a).test) ++ flat (map calls_in_action (out-Alternative a).suite)
calls_alternative a = search (rules, actions)
