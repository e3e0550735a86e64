-- Steps of joins and of the shapes of values.
use Rattle.std.proofs.Common.{◌≡◌, ℕ, zero, suc, ◌+◌, ◌<◌, ◌≤◌, List, [], ◌∷◌, ◌++◌, length, drop, get_or, refl, sym, ap, ◌∙◌, arith, add-one, Option, Some, None}
use Rattle.std.specs.Option.{option_map}
use Rattle.abc_value.specs.Tree.{Tree, list, trees}
use Rattle.abc_value.specs.Forms.{Form, Forms, anything, a_list, forms, no_forms, more_forms, both, join, join_each, joined, form_of, forms_of, common}
use Rattle.abc_value.specs.FormCode.{depth_of, forms_depth}

pub shape_below : (ss : List Form) (i : ℕ) (s : Form) → i < length ss → s ≡ get_or ss i s → depth_of s + 1 ≤ forms_depth (forms ss)
shape_below [] i s h e = absurd (omega arith)
shape_below (t ∷ ts) zero s h e = omega (arith, ap depth_of e)
shape_below (t ∷ ts) (suc i) s h e = omega (arith, shape_below ts i s (omega arith) e)

-- the forms in front of others, if there are others
abbrev pub in_front : List Form → Option Forms → Option Forms
in_front [] o = o
in_front (s ∷ ss) o = both more_forms (Some s) (in_front ss o)

pub in_front_none : (ss : List Form) → in_front ss None ≡ None
in_front_none [] = refl
in_front_none (s ∷ ss) = ap (both more_forms (Some s)) (in_front_none ss)

pub in_front_end : (ss : List Form) → in_front ss (Some no_forms) ≡ Some (forms ss)
in_front_end [] = refl
in_front_end (s ∷ ss) = ap (both more_forms (Some s)) (in_front_end ss)

pub in_front_more : (ss : List Form) (s : Form) (o : Option Forms) → in_front ss (both more_forms (Some s) o) ≡ in_front (ss ++ s ∷ []) o
in_front_more [] s o = refl
in_front_more (t ∷ ts) s o = ap (both more_forms (Some t)) (in_front_more ts s o)

pub both_none : (o : Option Forms) → both more_forms None o ≡ None
both_none None = refl
both_none (Some ss) = refl

-- ---- two rows, place by place
pub join_each_step : (ss ts : List Form) (i : ℕ) (d e : Form) → i < length ss → length ss ≡ length ts → join_each (forms (drop i ss)) (forms (drop i ts)) ≡ both more_forms (join (get_or ss i d) (get_or ts i e)) (join_each (forms (drop (suc i) ss)) (forms (drop (suc i) ts)))
join_each_step [] ts i d e h l = absurd (omega arith)
join_each_step (s ∷ ss) [] i d e h l = absurd (omega arith)
join_each_step (s ∷ ss) (t ∷ ts) zero d e h l = refl
join_each_step (s ∷ ss) (t ∷ ts) (suc i) d e h l = join_each_step ss ts i d e (omega arith) (omega arith)

pub join_each_end : (ss ts : List Form) (i : ℕ) → length ss ≤ i → length ss ≡ length ts → join_each (forms (drop i ss)) (forms (drop i ts)) ≡ Some no_forms
join_each_end [] [] zero h l = refl
join_each_end [] [] (suc i) h l = refl
join_each_end [] (t ∷ ts) i h l = absurd (omega arith)
join_each_end (s ∷ ss) [] i h l = absurd (omega arith)
join_each_end (s ∷ ss) (t ∷ ts) zero h l = absurd (omega arith)
join_each_end (s ∷ ss) (t ∷ ts) (suc i) h l = join_each_end ss ts i (omega arith) (omega arith)

pub join_each_uneven : (ss ts : List Form) → (length ss ≡ length ts → ⊥) → join_each (forms ss) (forms ts) ≡ None
join_each_uneven [] [] h = absurd (h refl)
join_each_uneven [] (t ∷ ts) h = refl
join_each_uneven (s ∷ ss) [] h = refl
join_each_uneven (s ∷ ss) (t ∷ ts) h = ap (both more_forms (join s t)) (join_each_uneven ss ts (λ e. h (ap suc e))) ∙ both_absent (join s t)
  where
    both_absent : (o : Option Form) → both more_forms o None ≡ None
    both_absent None = refl
    both_absent (Some x) = refl

-- a turn of the loop over two rows
pub join_each_turn : (w : Option Forms) (ss ts fs : List Form) (i : ℕ) (d e f : Form) → w ≡ in_front fs (join_each (forms (drop i ss)) (forms (drop i ts))) → i < length ss → length ss ≡ length ts → Some f ≡ join (get_or ss i d) (get_or ts i e) → w ≡ in_front (fs ++ f ∷ []) (join_each (forms (drop (i + 1) ss)) (forms (drop (i + 1) ts)))
join_each_turn w ss ts fs i d e f inv h l found =
    inv ∙ ap (in_front fs) (join_each_step ss ts i d e h l ∙ ap (λ o. both more_forms o (join_each (forms (drop (suc i) ss)) (forms (drop (suc i) ts)))) (sym found))
    ∙ in_front_more fs f (join_each (forms (drop (suc i) ss)) (forms (drop (suc i) ts)))
    ∙ ap (λ j. in_front (fs ++ f ∷ []) (join_each (forms (drop j ss)) (forms (drop j ts)))) (sym (add-one i))

pub join_each_stop : (w : Option Forms) (ss ts fs : List Form) (i : ℕ) (d e : Form) → w ≡ in_front fs (join_each (forms (drop i ss)) (forms (drop i ts))) → i < length ss → length ss ≡ length ts → None ≡ join (get_or ss i d) (get_or ts i e) → None ≡ w
join_each_stop w ss ts fs i d e inv h l found =
    sym (inv ∙ ap (in_front fs) (join_each_step ss ts i d e h l ∙ ap (λ o. both more_forms o (join_each (forms (drop (suc i) ss)) (forms (drop (suc i) ts)))) (sym found) ∙ both_none (join_each (forms (drop (suc i) ss)) (forms (drop (suc i) ts)))) ∙ in_front_none fs)

pub join_each_done : (w : Option Forms) (ss ts fs : List Form) (i : ℕ) → w ≡ in_front fs (join_each (forms (drop i ss)) (forms (drop i ts))) → length ss ≤ i → length ss ≡ length ts → Some (forms fs) ≡ w
join_each_done w ss ts fs i inv h l = sym (inv ∙ ap (in_front fs) (join_each_end ss ts i h l) ∙ in_front_end fs)

-- ---- values, one after the other
pub forms_step : (xs : List Tree) (i : ℕ) (x : Tree) → i < length xs → x ≡ get_or xs i x → forms_of (trees (drop i xs)) ≡ both more_forms (form_of x) (forms_of (trees (drop (suc i) xs)))
forms_step [] i x h e = absurd (omega arith)
forms_step (y ∷ ys) zero x h e = ap (λ z. both more_forms (form_of z) (forms_of (trees ys))) (sym e)
forms_step (y ∷ ys) (suc i) x h e = forms_step ys i x (omega arith) e

forms_end : (xs : List Tree) (i : ℕ) → length xs ≤ i → forms_of (trees (drop i xs)) ≡ Some no_forms
forms_end [] zero h = refl
forms_end [] (suc i) h = refl
forms_end (x ∷ xs) zero h = absurd (omega arith)
forms_end (x ∷ xs) (suc i) h = forms_end xs i (omega arith)

pub forms_turn : (w : Option Forms) (xs : List Tree) (fs : List Form) (i : ℕ) (x : Tree) (f : Form) → w ≡ in_front fs (forms_of (trees (drop i xs))) → i < length xs → x ≡ get_or xs i x → Some f ≡ form_of x → w ≡ in_front (fs ++ f ∷ []) (forms_of (trees (drop (i + 1) xs)))
forms_turn w xs fs i x f inv h e found =
    inv ∙ ap (in_front fs) (forms_step xs i x h e ∙ ap (λ o. both more_forms o (forms_of (trees (drop (suc i) xs)))) (sym found)) ∙ in_front_more fs f (forms_of (trees (drop (suc i) xs)))
    ∙ ap (λ j. in_front (fs ++ f ∷ []) (forms_of (trees (drop j xs)))) (sym (add-one i))

pub forms_stop : (w : Option Forms) (xs : List Tree) (fs : List Form) (i : ℕ) (x : Tree) → w ≡ in_front fs (forms_of (trees (drop i xs))) → i < length xs → x ≡ get_or xs i x → None ≡ form_of x → None ≡ w
forms_stop w xs fs i x inv h e found =
    sym (inv ∙ ap (in_front fs) (forms_step xs i x h e ∙ ap (λ o. both more_forms o (forms_of (trees (drop (suc i) xs)))) (sym found) ∙ both_none (forms_of (trees (drop (suc i) xs)))) ∙ in_front_none fs)

pub forms_done : (w : Option Forms) (xs : List Tree) (fs : List Form) (i : ℕ) → w ≡ in_front fs (forms_of (trees (drop i xs))) → length xs ≤ i → Some (forms fs) ≡ w
forms_done w xs fs i inv h = sym (inv ∙ ap (in_front fs) (forms_end xs i h) ∙ in_front_end fs)

-- the first element may be joined to what is known of nothing
pub from_anything : (o : Option Form) → joined (Some anything) o ≡ o
from_anything None = refl
from_anything (Some s) = refl

-- a list with elements has lists of what they have together
pub list_form : (xs : List Tree) → (length xs ≡ 0 → ⊥) → option_map a_list (common (Some anything) (trees xs)) ≡ form_of (list (trees xs))
list_form [] h = absurd (h refl)
list_form (x ∷ xs) h = ap (λ o. option_map a_list (common o (trees xs))) (from_anything (form_of x))
