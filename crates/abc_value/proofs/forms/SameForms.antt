-- Steps of the test whether two forms are one.
use Rattle.std.proofs.Common.{◌≡◌, ℕ, zero, suc, ◌+◌, ◌<◌, ◌≤◌, List, [], ◌∷◌, ◌&&◌, Bool, true, false, length, drop, get_or, refl, sym, ap, ◌∙◌, arith, add-one}
use Rattle.abc_value.specs.Forms.{Form, forms}
use Rattle.abc_value.specs.inner.Kept.{same_form, same_forms}

and_false : (b : Bool) → false ≡ (b && false)
and_false true = refl
and_false false = refl

pub same_uneven : (ss ts : List Form) → (length ss ≡ length ts → ⊥) → false ≡ same_forms (forms ss) (forms ts)
same_uneven [] [] h = absurd (h refl)
same_uneven [] (t ∷ ts) h = refl
same_uneven (s ∷ ss) [] h = refl
same_uneven (s ∷ ss) (t ∷ ts) h = and_false (same_form s t) ∙ ap (λ b. same_form s t && b) (same_uneven ss ts (λ e. h (ap suc e)))

same_step : (ss ts : List Form) (i : ℕ) (s t : Form) → i < length ss → length ss ≡ length ts → s ≡ get_or ss i s → t ≡ get_or ts i t → same_forms (forms (drop i ss)) (forms (drop i ts)) ≡ (same_form s t && same_forms (forms (drop (suc i) ss)) (forms (drop (suc i) ts)))
same_step [] ts i s t h l p q = absurd (omega arith)
same_step (x ∷ ss) [] i s t h l p q = absurd (omega arith)
same_step (x ∷ ss) (y ∷ ts) zero s t h l p q = λ k. same_form (sym p k) (sym q k) && same_forms (forms ss) (forms ts)
same_step (x ∷ ss) (y ∷ ts) (suc i) s t h l p q = same_step ss ts i s t (omega arith) (omega arith) p q

same_end : (ss ts : List Form) (i : ℕ) → length ss ≤ i → length ss ≡ length ts → true ≡ same_forms (forms (drop i ss)) (forms (drop i ts))
same_end [] [] zero h l = refl
same_end [] [] (suc i) h l = refl
same_end [] (t ∷ ts) i h l = absurd (omega arith)
same_end (s ∷ ss) [] i h l = absurd (omega arith)
same_end (s ∷ ss) (t ∷ ts) zero h l = absurd (omega arith)
same_end (s ∷ ss) (t ∷ ts) (suc i) h l = same_end ss ts i (omega arith) (omega arith)

-- ---- the loop over two rows, with w the answer
pub same_stop : (w : Bool) (ss ts : List Form) (i : ℕ) (s t : Form) → w ≡ same_forms (forms (drop i ss)) (forms (drop i ts)) → i < length ss → length ss ≡ length ts → s ≡ get_or ss i s → t ≡ get_or ts i t → same_form s t ≡ false → false ≡ w
same_stop w ss ts i s t inv h l p q found =
    sym (inv ∙ same_step ss ts i s t h l p q ∙ ap (λ b. b && same_forms (forms (drop (suc i) ss)) (forms (drop (suc i) ts))) found)

pub same_turn : (w : Bool) (ss ts : List Form) (i : ℕ) (s t : Form) → w ≡ same_forms (forms (drop i ss)) (forms (drop i ts)) → i < length ss → length ss ≡ length ts → s ≡ get_or ss i s → t ≡ get_or ts i t → same_form s t ≡ true → w ≡ same_forms (forms (drop (i + 1) ss)) (forms (drop (i + 1) ts))
same_turn w ss ts i s t inv h l p q found =
    inv ∙ same_step ss ts i s t h l p q ∙ ap (λ b. b && same_forms (forms (drop (suc i) ss)) (forms (drop (suc i) ts))) found
    ∙ ap (λ j. same_forms (forms (drop j ss)) (forms (drop j ts))) (sym (add-one i))

pub same_done : (w : Bool) (ss ts : List Form) (i : ℕ) → w ≡ same_forms (forms (drop i ss)) (forms (drop i ts)) → length ss ≤ i → length ss ≡ length ts → true ≡ w
same_done w ss ts i inv h l = same_end ss ts i h l ∙ sym inv
