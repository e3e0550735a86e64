-- Graphs to which something was added, and the way back.
use Rattle.std.proofs.Common.{◌≡◌, ◌∙◌, ℕ, ◌+◌, ◌≤◌, List, [], ◌∷◌, ◌++◌, length, ap, sym, subst, refl, arith}
use Rattle.std.specs.Prelude.{Ok, Err, OnOk, OnErr}
use Rattle.std.specs.declared.result.Result.{Result}
use Rattle.std.proofs.Math.ListN.{length-append}
use Rattle.abc_terms.specs.declared.demand.Demand.{Demand}
use Rattle.abc_unify.specs.Graphs.{Seen, held, back_at, with_variable, with_demands}
use Rattle.abc_unify.proofs.Backward.{back_now, back_more}
use Rattle.abc_demand.specs.Later.{IsLater}

pub later_same : (s : Seen) → IsLater s s
later_same s m le = (le, refl)

later_added : (s t : Seen) → t.past ≡ s.past ++ held s ∷ [] → IsLater s t
later_added s t added m le =
    let count : length t.past ≡ length s.past + 1 = ap length added ∙ length-append s.past (held s ∷ []) in
    (omega (arith, count, le), back_more s t m added le)

later_then : (s t u : Seen) → IsLater s t → IsLater t u → IsLater s u
later_then s t u one two m le =
    let a : (m ≤ length t.past) × (back_at t m ≡ back_at s m) = one m le in
    let b : (m ≤ length u.past) × (back_at u m ≡ back_at t m) = two m a.0 in
    (b.0, b.1 ∙ a.1)

pub later_fresh : (s t u : Seen) → IsLater s t → u ≡ with_variable t → IsLater s u
later_fresh s t u one is = later_then s t u one (later_added t u (ap (λ x. x.past) is))

pub later_equal : (s t u : Seen) → IsLater s t → u ≡ t → IsLater s u
later_equal s t u one is = subst (λ (x : Seen). IsLater s x) (sym is) one

-- whether the demands were taken or refused
pub later_asked : {X E : Type 0} (r : Result X E) (s t u : Seen) (ds : List Demand) → IsLater s t → OnOk r (u ≡ with_demands t ds) → OnErr r (u ≡ t) → IsLater s u
later_asked (Ok x) s t u ds one is same = later_then s t u one (later_added t u (ap (λ y. y.past) is))
later_asked (Err e) s t u ds one is same = later_equal s t u one same

-- going back to the state at the beginning
pub back_first : (s t u : Seen) (m : ℕ) → m ≡ length s.past → IsLater s t → u ≡ back_at t m → u ≡ s
back_first s t u m e later is =
    let le : m ≤ length s.past = omega (arith, e) in
    is ∙ ((later m le).1 ∙ sym (back_now s m e))

-- n variables were made
pub record IsMaking (old now : Seen) (n : ℕ) : Type 0 where
  pub counted : now.count ≡ old.count + n
  pub asked : now.demands ≡ old.demands
  pub later : IsLater old now

pub making_first : (s : Seen) → IsMaking s s 0
making_first s = record { counted = omega arith; asked = refl; later = later_same s }

pub making_next : (old now next : Seen) (n : ℕ) → IsMaking old now n → next ≡ with_variable now → IsMaking old next (n + 1)
making_next old now next n m is =
    let count : next.count ≡ now.count + 1 = ap (λ x. x.count) is in
    record { counted = omega (arith, count, m.counted); asked = ap (λ x. x.demands) is ∙ m.asked; later = later_fresh old now next m.later is }
