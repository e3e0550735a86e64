-- The parts of lists and tables of known types, and lists and tables of such parts.
use Rattle.std.proofs.Common.{refl, sym, subst, List, [], ◌∷◌, inl}
use Rattle.std.specs.Ordering.{match_ordering}
use Rattle.std.specs.declared.cmp.Ordering.{Ordering}
use Rattle.std.specs.declared.cmp.Ordering.TheVariants.{Less, Equal, Greater}
use Rattle.abc_num.specs.declared.types.Ground.{Ground}
use Rattle.abc_num.specs.declared.types.Ground.TheVariants as type
use Rattle.abc_value.specs.Tree.{Tree, number, text, compound, list, table, trees, pairs, no_trees, more}
use Rattle.abc_value.specs.Order.{order}
use Rattle.abc_value.specs.Types.{has, all_have, pairs_have}
use Rattle.abc_value.specs.Parts.{parts_of, pairs_of}
use Rattle.abc_value.specs.Changes.{add, with_pair}
use Rattle.abc_value.proofs.forms.Grounds.{list_part, key_part, associate_part}
use Rattle.abc_value.proofs.trees.Rows.{trees_listed, pairs_listed}

-- lists of one type
pub typed_parts : (t : Tree) (g : Ground) → has t (type.List g) → all_have (trees (parts_of t)) g
typed_parts (number n) g h = tt
typed_parts (text b) g h = tt
typed_parts (compound ts) g h = let e = h.1 in absurd (cc)
typed_parts (list no_trees) g h = tt
typed_parts (list (more t ts)) g h =
    let e = sym (list_part g h.0 h.1) in (subst (has t) e h.2, subst (λ us. all_have us g) (sym (trees_listed ts)) (subst (all_have ts) e h.3))
typed_parts (table ps) g h = let e = h.2 in absurd (cc)

add_by : (e x : Tree) (xs : List Tree) (g : Ground) (o : Ordering) → has e g → has x g → all_have (trees xs) g → all_have (trees (add e xs)) g → all_have (trees (match_ordering o (x ∷ add e xs) (e ∷ x ∷ xs) (e ∷ x ∷ xs))) g
add_by e x xs g Less h k l m = (k, m)
add_by e x xs g Equal h k l m = (h, (k, l))
add_by e x xs g Greater h k l m = (h, (k, l))

pub add_typed : (e : Tree) (xs : List Tree) (g : Ground) → has e g → all_have (trees xs) g → all_have (trees (add e xs)) g
add_typed e [] g h k = (h, tt)
add_typed e (x ∷ xs) g h k = add_by e x xs g (order x e) h k.0 k.1 (add_typed e xs g h k.1)

pub list_of_type : (xs : List Tree) (g : Ground) → all_have (trees xs) g → has (list (trees xs)) (type.List g)
list_of_type [] g h = inl (g, refl)
list_of_type (x ∷ xs) g h = (g, refl, h.0, h.1)

-- tables of two types
pub typed_pairs : (t : Tree) (k a : Ground) → has t (type.Table k a) → pairs_have (pairs (pairs_of t)) k a
typed_pairs (number n) k a h = tt
typed_pairs (text b) k a h = tt
typed_pairs (compound ts) k a h = tt
typed_pairs (list ts) k a h = tt
typed_pairs (table ps) k a h =
    subst (λ qs. pairs_have qs k a) (sym (pairs_listed ps))
    (subst (λ l. pairs_have ps l a) (sym (key_part k a h.0 h.1 h.2)) (subst (λ b. pairs_have ps h.0 b) (sym (associate_part k a h.0 h.1 h.2)) h.3))

with_by : (k a : Tree) (p : Tree × Tree) (ps : List (Tree × Tree)) (g l : Ground) (o : Ordering) → has k g → has a l → has p.0 g × has p.1 l × pairs_have (pairs ps) g l → pairs_have (pairs (with_pair k a ps)) g l → pairs_have (pairs (match_ordering o (p ∷ with_pair k a ps) ((k, a) ∷ ps) ((k, a) ∷ p ∷ ps))) g l
with_by k a p ps g l Less h i j m = (j.0, j.1, m)
with_by k a p ps g l Equal h i j m = (h, i, j.2)
with_by k a p ps g l Greater h i j m = (h, i, j)

pub with_typed : (k a : Tree) (ps : List (Tree × Tree)) (g l : Ground) → has k g → has a l → pairs_have (pairs ps) g l → pairs_have (pairs (with_pair k a ps)) g l
with_typed k a [] g l h i j = (h, i, tt)
with_typed k a (p ∷ ps) g l h i j = with_by k a p ps g l (order p.0 k) h i j (with_typed k a ps g l h i j.2)
