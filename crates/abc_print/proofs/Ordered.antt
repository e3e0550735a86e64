-- What is in order is put in order as it is, and a value has no size past its bound.
use Rattle.std.proofs.Common.{◌≡◌, ◌≢◌, List, [], ◌∷◌, Some, None, cond, refl, sym, ap, ◌∙◌, subst}
use Rattle.std.specs.declared.cmp.Ordering.{Ordering}
use Rattle.std.specs.declared.cmp.Ordering.TheVariants.{Less, Equal, Greater}
use Rattle.std.specs.Ordering.{is_eq, match_ordering, ordering_reverse}
use Rattle.abc_value.specs.Tree.{Tree, Trees, Pairs, list, table, trees, pairs, no_trees, more, no_pairs, pair, listed_pairs}
use Rattle.abc_value.specs.Tree as tree
use Rattle.abc_value.specs.Order.{order}
use Rattle.abc_value.specs.Sizes.{length_of, height_of, weight_of, size_fault}
use Rattle.abc_value.specs.Changes.{add, with_pair, associate_of}
use Rattle.abc_value.specs.Regular.{IsSmall, IsOrdered, IsRising, AllRegularPairs}
use Rattle.abc_value.proofs.lists.Adding.{no_fault, tail_ordered}
use Rattle.abc_value.proofs.ordering.OrderLaws.{order-reverse}
use Rattle.abc_value.proofs.tables.RisingKeys.{tail_rising, Below, below_all}
use Rattle.abc_value.proofs.trees.Rows.{trees_listed, pairs_listed}
use Rattle.abc_value.specs.Changes.{in_order, with_new, placed}
use Rattle.abc_print.specs.Literals.{if_small, by_fault, listed, tabled}

-- ---- sizes

fits : (t : Tree) → IsSmall t → size_fault t ≡ None
unfolding size_fault
fits t s = no_fault (length_of t) (height_of t) (weight_of t) s.0 s.1 s.2

pub small : (t : Tree) → IsSmall t → if_small t ≡ Some t
small t s = ap (by_fault t) (fits t s)

-- ---- lists

not_less : (r : Ordering) → r ≢ Greater → ordering_reverse r ≢ Less
not_less Less h e = cc
not_less Equal h e = cc
not_less Greater h e = h refl

in_front : (r : Ordering) (x e : Tree) (a b : List Tree) → r ≢ Less → match_ordering r a b b ≡ b
in_front Less x e a b h = absurd (h refl)
in_front Equal x e a b h = refl
in_front Greater x e a b h = refl

added : (e : Tree) (ts : Trees) → IsOrdered (more e ts) → add e (tree.listed ts) ≡ e ∷ tree.listed ts
added e no_trees h = refl
added e (more x xs) h =
    in_front (order x e) x e (x ∷ add e (tree.listed xs)) (e ∷ x ∷ tree.listed xs) (subst (λ r. r ≢ Less) (sym (order-reverse x e)) (not_less (order e x) h.0))

stays : (ts : Trees) → IsOrdered ts → in_order (tree.listed ts) ≡ tree.listed ts
stays no_trees h = refl
stays (more t ts) h = ap (add t) (stays ts (tail_ordered t ts h)) ∙ added t ts h

-- the elements of a list give it back
pub list_back : (ts : Trees) → IsSmall (list ts) → IsOrdered ts → listed (tree.listed ts) ≡ Some (list ts)
list_back ts s h = ap (λ es. if_small (list (trees es))) (stays ts h) ∙ ap (λ us. if_small (list us)) (trees_listed ts) ∙ small (list ts) s

-- ---- tables

-- the pairs of a row as literals have them
abbrev pub pair_list : Pairs → List (Tree × Tree)
pair_list no_pairs = []
pair_list (pair k a ps) = (k, a) ∷ pair_list ps

above : (k l : Tree) → order k l ≡ Less → order l k ≡ Greater
above k l h = order-reverse l k ∙ ap ordering_reverse h

is_new : (k : Tree) (ps : Pairs) → Below k ps → associate_of k (listed_pairs ps) ≡ None
is_new k no_pairs b = refl
is_new k (pair l c ps) b = ap (λ r. cond (is_eq r) (Some c) (associate_of k (listed_pairs ps))) (above k l b.0) ∙ is_new k ps b.1

first_pair : (k a : Tree) (ps : Pairs) → Below k ps → with_pair k a (listed_pairs ps) ≡ (k, a) ∷ listed_pairs ps
first_pair k a no_pairs b = refl
first_pair k a (pair l c ps) b =
    ap (λ r. match_ordering r ((l, c) ∷ with_pair k a (listed_pairs ps)) ((k, a) ∷ listed_pairs ps) ((k, a) ∷ (l, c) ∷ listed_pairs ps)) (above k l b.0)

keeps : (ps : Pairs) → AllRegularPairs ps → IsRising ps → placed (pair_list ps) ≡ listed_pairs ps
unfolding AllRegularPairs
keeps no_pairs all h = refl
keeps (pair k a ps) all h =
    let b = below_all k a ps all.0 all.2 h in
    ap (λ qs. with_new k a (associate_of k qs) qs) (keeps ps all.2 (tail_rising k a ps h)) ∙ ap (λ o. with_new k a o (listed_pairs ps)) (is_new k ps b) ∙ first_pair k a ps b

-- the pairs of a table give it back
pub table_back : (k a : Tree) (ps : Pairs) → IsSmall (table (pair k a ps)) → AllRegularPairs (pair k a ps) → IsRising (pair k a ps) → tabled (pair_list (pair k a ps)) ≡ Some (table (pair k a ps))
table_back k a ps s all h =
    ap (λ qs. if_small (tree.table_of qs)) (keeps (pair k a ps) all h) ∙ ap (λ qs. if_small (table (pair k a qs))) (pairs_listed ps) ∙ small (table (pair k a ps)) s
