-- Elements of trains by their place.
use Rattle.std.proofs.Common.{◌≡◌, ℕ, ◌+◌, ◌<◌, List, length, get_or, map, sym, ap, ◌∙◌, subst, arith, slice_get, Some, None, add-one, pos, Result, Ok}
use Rattle.std.proofs.lemmas.Option.{slice_get-get_or, get_or_from_slice_get}
use Rattle.std.specs.Option.{ok_or}
use Rattle.abc_value.specs.Tree.{Tree, number, text, compound, list, table, trees, listed, listed_pairs}
use Rattle.abc_value.specs.Regular.{IsRegular, IsOrdered, AllRegular}
use Rattle.abc_value.specs.Parts.{IsText, IsList, parts_of}
use Rattle.abc_num.specs.Number.{Fraction, whole_number, whole_of}
use Rattle.abc_value.specs.declared.faults.ValueFault.{ValueFault}
use Rattle.abc_value.specs.declared.faults.ValueFault.TheVariants.{OutOfRange}
use Rattle.abc_value.specs.Items.{IsTrain, IsAnswer, elements_of, item_of}
use Rattle.abc_value.specs.Items as items
use Rattle.abc_value.proofs.trees.Rows.{trees_listed}
use Rattle.abc_predef.specs.inner.Places.{element_at}
use Rattle.abc_predef.proofs.Codes.{nothing_left}

part_there : (xs : List Tree) (i : ℕ) → i < length xs → slice_get xs i ≡ None → ⊥
part_there xs i l e = let past = nothing_left xs i e in absurd (omega arith)

-- a train without a part at a place that it has is a text
pub is_text : (t : Tree) (i : ℕ) → IsTrain t → i < length (elements_of t) → slice_get (parts_of t) i ≡ None → IsText t
is_text (number n) i h l e = h
is_text (text b) i h l e = tt
is_text (compound ts) i h l e = h
is_text (list ts) i h l e = absurd (part_there (listed ts) i l e)
is_text (table ps) i h l e = absurd (part_there (map (λ p. p.1) (listed_pairs ps)) i l e)

pub list_is_train : (t : Tree) → IsList t → IsTrain t
list_is_train (number n) h = absurd h
list_is_train (text b) h = absurd h
list_is_train (compound ts) h = absurd h
list_is_train (list ts) h = tt
list_is_train (table ps) h = absurd h

pub list_part_there : (t : Tree) (i : ℕ) → IsList t → i < length (elements_of t) → slice_get (parts_of t) i ≡ None → ⊥
list_part_there (number n) i h l e = absurd h
list_part_there (text b) i h l e = absurd h
list_part_there (compound ts) i h l e = absurd h
list_part_there (list ts) i h l e = part_there (listed ts) i l e
list_part_there (table ps) i h l e = absurd h

pub list_part_is : (t : Tree) (i : ℕ) (x d : Tree) → IsList t → slice_get (parts_of t) i ≡ Some x → get_or (elements_of t) i d ≡ x
list_part_is (number n) i x d h e = absurd h
list_part_is (text b) i x d h e = absurd h
list_part_is (compound ts) i x d h e = absurd h
list_part_is (list ts) i x d h e = get_or_from_slice_get (listed ts) i x d e
list_part_is (table ps) i x d h e = absurd h

pub list_elements : (t : Tree) → IsList t → IsRegular t → IsOrdered (trees (elements_of t)) × AllRegular (trees (elements_of t))
unfolding IsRegular
list_elements (number n) h r = absurd h
list_elements (text b) h r = absurd h
list_elements (compound ts) h r = absurd h
list_elements (list ts) h r = (subst IsOrdered (sym (trees_listed ts)) r.1, subst AllRegular (sym (trees_listed ts)) r.2)
list_elements (table ps) h r = absurd h

-- the element of a place is what its number gives
pub item_is : (t : Tree) (i : ℕ) (n : Fraction) (r : Result Tree ValueFault) → i < length (elements_of t) → n ≡ whole_number (pos (i + 1)) → IsAnswer (item_of t n) r → IsAnswer (Ok (element_at t i)) r
item_is t i n r h e a =
    let is : item_of t n ≡ Ok (element_at t i) =
    ap (item_of t) e ∙ ap (λ k. items.element_at (elements_of t) (whole_of (whole_number (pos k)))) (add-one i)
    ∙ ap (λ o. ok_or o OutOfRange) (slice_get-get_or (elements_of t) i t h) in
    subst (λ answer. IsAnswer answer r) is a
