-- Graphs to which variables and demands were added, and the way back.
use Rattle.std.proofs.Common.{◌≡◌, ◌∙◌, ℕ, ◌+◌, ◌<◌, ◌≤◌, ◌⊎◌, inl, inr, List, [], ◌∷◌, ◌++◌, length, ap, sym, subst, refl, arith}
use Rattle.std.proofs.lemmas.List.{length-append, get_or_append_left}
use Rattle.std.proofs.Math.Seq.{get_or-append_seam}
use Rattle.std.proofs.lemmas.Bool.{cases_lt}
use Rattle.abc_terms.specs.declared.term.VarId.{VarId}
use Rattle.abc_terms.specs.declared.demand.Demand.{Demand}
use Rattle.abc_terms.specs.Renamed.{variable, number_in}
use Rattle.abc_unify.specs.Graphs.{Seen, held, back_at, with_variable, with_demands}
use Rattle.abc_unify.proofs.Backward.{back_now, back_more}
use Rattle.abc_scheme.specs.inner.Copies.{AreMadeBehind}
use Rattle.abc_scheme.specs.Later.{IsLater}

pub later_same : (s : Seen) → IsLater s s
later_same s m le = (le, refl)

later_added : (s t : Seen) → t.past ≡ s.past ++ held s ∷ [] → IsLater s t
later_added s t added m le =
    let count : length t.past ≡ length s.past + 1 = ap length added ∙ length-append s.past (held s ∷ []) in
    (omega (arith, count, le), back_more s t m added le)

pub later_then : (s t u : Seen) → IsLater s t → IsLater t u → IsLater s u
later_then s t u one two m le =
    let a : (m ≤ length t.past) × (back_at t m ≡ back_at s m) = one m le in
    let b : (m ≤ length u.past) × (back_at u m ≡ back_at t m) = two m a.0 in
    (b.0, b.1 ∙ a.1)

pub later_fresh : (s t u : Seen) → IsLater s t → u ≡ with_variable t → IsLater s u
later_fresh s t u one is = later_then s t u one (later_added t u (ap (λ x. x.past) is))

pub later_demands : (s t u : Seen) (more : List Demand) → IsLater s t → u ≡ with_demands t more → IsLater s u
later_demands s t u more one is = later_then s t u one (later_added t u (ap (λ x. x.past) is))

pub later_equal : (s t u : Seen) → IsLater s t → u ≡ t → IsLater s u
later_equal s t u one is = subst (λ (x : Seen). IsLater s x) (sym is) one

-- going back to the state at the beginning
pub back_first : (s t u : Seen) (m : ℕ) → m ≡ length s.past → IsLater s t → u ≡ back_at t m → u ≡ s
back_first s t u m e later is =
    let le : m ≤ length s.past = omega (arith, e) in
    is ∙ ((later m le).1 ∙ sym (back_now s m e))

pub made_more : (old now next : Seen) (vars : List VarId) (a : VarId) → AreMadeBehind old now vars → a.0 ≡ now.count → next ≡ with_variable now → AreMadeBehind old next (vars ++ a ∷ [])
made_more old now next vars a made number is =
    let count : next.count ≡ now.count + 1 = ap (λ x. x.count) is in
    let more : length (vars ++ a ∷ []) ≡ length vars + 1 = length-append vars (a ∷ []) in
    record {
      counted = omega (arith, count, made.counted, more);
      asked = ap (λ x. x.demands) is ∙ made.asked;
      numbered = λ i lt. by_place i (omega (arith, lt, more)) (cases_lt i (length vars));
      later = later_then old now next made.later (later_added now next (ap (λ x. x.past) is));
    }
  where
    by_place : (i : ℕ) → i < length vars + 1 → (i < length vars) ⊎ (length vars ≤ i) → number_in (vars ++ a ∷ []) i ≡ old.count + i
    by_place i lt (inl low) = ap (λ (b : VarId). b.0) (get_or_append_left vars (a ∷ []) (variable 0) i low) ∙ made.numbered i low
    by_place i lt (inr high) =
        let e : i ≡ length vars = omega (arith, lt, high) in
        ap (number_in (vars ++ a ∷ [])) e ∙ (ap (λ (b : VarId). b.0) (get_or-append_seam vars a [] (variable 0)) ∙ omega (arith, number, made.counted, e))

pub made_pushed : (old now next : Seen) (vars more : List VarId) (a : VarId) → AreMadeBehind old now vars → a.0 ≡ now.count → next ≡ with_variable now → more ≡ vars ++ a ∷ [] → AreMadeBehind old next more
made_pushed old now next vars more a made number is pushed = subst (λ xs. AreMadeBehind old next xs) (sym pushed) (made_more old now next vars a made number is)
