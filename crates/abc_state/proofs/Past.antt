-- Lists and texts that are past the bound of lengths.
use Rattle.std.proofs.Common.{◌≡◌, ◌≢◌, ℕ, ◌+◌, ◌<◌, List, [], ◌∷◌, ◌++◌, length, drop, slice_get, Some, refl, sym, ap, ◌∙◌, arith, length-append}
use Rattle.std.specs.Ordering.{match_ordering}
use Rattle.std.specs.declared.cmp.Ordering.{Ordering}
use Rattle.std.specs.declared.cmp.Ordering.TheVariants.{Less, Equal, Greater}
use Rattle.abc_num.specs.declared.limits.TheConstants.{MOST_ELEMENTS}
use Rattle.abc_value.specs.declared.faults.ValueFault.{ValueFault}
use Rattle.abc_value.specs.declared.faults.ValueFault.TheVariants.{TooLong, Memory}
use Rattle.abc_value.specs.Tree.{Tree, text, list, trees}
use Rattle.abc_value.specs.Order.{order}
use Rattle.abc_value.specs.Changes.{add, in_order}
use Rattle.abc_value.specs.Sizes.{count, trees_height, trees_weight, size_fault}
use Rattle.abc_value.proofs.trees.Rows.{count_trees}
use Rattle.abc_value.proofs.trees.Making.{too_long, text_too_long}
use Rattle.abc_state.specs.inner.Lengths.{IsPast}
use Rattle.abc_state.proofs.Parts.{parts_next}

-- ---- a list is as long as its elements are many

longer : (o : Ordering) (e x : Tree) (xs ys : List Tree) → length ys ≡ length xs + 1 → length (match_ordering o (x ∷ ys) (e ∷ x ∷ xs) (e ∷ x ∷ xs)) ≡ length xs + 2
longer Less e x xs ys h = omega (arith, h)
longer Equal e x xs ys h = omega arith
longer Greater e x xs ys h = omega arith

added_length : (e : Tree) (xs : List Tree) → length (add e xs) ≡ length xs + 1
added_length e [] = refl
added_length e (x ∷ xs) = omega (arith, longer (order x e) e x xs (add e xs) (added_length e xs))

ordered_length : (es : List Tree) → length (in_order es) ≡ length es
ordered_length [] = refl
ordered_length (e ∷ es) = omega (arith, added_length e (in_order es), ordered_length es)

list_too_long : (es : List Tree) → MOST_ELEMENTS < length es → size_fault (list (trees (in_order es))) ≡ Some TooLong
unfolding size_fault
list_too_long es h =
    let ts = trees (in_order es) in too_long (count ts) (trees_height ts) (trees_weight ts + 5) (omega (arith, count_trees (in_order es), ordered_length es))

-- ---- what is past the bound

-- a front that is too long makes the whole too long
past_front : {A : Type 0} (whole front rest : List A) (f : ValueFault) → whole ≡ front ++ rest → IsPast front f → IsPast whole f
past_front whole front rest f e h = λ m.
    let l = ap length e ∙ length-append front rest in
    let k : MOST_ELEMENTS < length front = (h m).1 in
    ((h m).0, omega (arith, l, k))

pub past_part : (whole all parts : List Tree) (i : ℕ) (v : Tree) (f : ValueFault) → whole ≡ all ++ drop i parts → slice_get parts i ≡ Some v → IsPast (all ++ v ∷ []) f → IsPast whole f
past_part whole all parts i v f h k = past_front whole (all ++ v ∷ []) (drop (i + 1) parts) f (parts_next whole all (all ++ v ∷ []) parts i v h k refl)

pub list_past : (es : List Tree) (f : ValueFault) → IsPast es f → f ≢ Memory → size_fault (list (trees (in_order es))) ≡ Some f
list_past es f h m = list_too_long es (h m).1 ∙ ap (λ x. Some x) (sym (h m).0)

pub text_past : (b : List ℕ) (f : ValueFault) → IsPast b f → f ≢ Memory → size_fault (text b) ≡ Some f
text_past b f h m = text_too_long b (h m).1 ∙ ap (λ x. Some x) (sym (h m).0)
