-- Going back leads to the state at the mark, whatever was added or undone since.
use Rattle.std.proofs.Common.{◌≡◌, ℕ, ◌+◌, ◌≤◌, inl, inr, List, [], ◌∷◌, ◌++◌, length, get_or, take, drop, sym, ◌∙◌, ap, arith}
use Rattle.std.proofs.Math.ListN.{length-append, get_or-append}
use Rattle.std.proofs.Math.Seq.{get_or-append_seam}
use Rattle.std.proofs.lemmas.Bool.{cases_lt}
use Rattle.std.proofs.lemmas.List.{take-append-le, length-take-le, take_all, take-append-drop, get_or_default}
use Rattle.std.proofs.lemmas.Grind.{common_steps}
use Rattle.abc_unify.specs.Graphs.{Held, Seen, held, held_at, back_at}

of_parts : (s t : Seen) (m : ℕ) → held_at t m ≡ held_at s m → take m t.past ≡ take m s.past → back_at t m ≡ back_at s m
of_parts s t m at past =
    let one : Held → Seen = λ h. record { count = h.count; demands = h.demands; past = take m t.past } in
    let two : List Held → Seen = λ p. record { count = (held_at s m).count; demands = (held_at s m).demands; past = p } in
    ap one at ∙ ap two past

-- the last of the states is the present one
pub back_now : (s : Seen) (m : ℕ) → m ≡ length s.past → s ≡ back_at s m
back_now s m e =
    let at : held_at s m ≡ held s = ap (held_at s) e ∙ get_or-append_seam s.past (held s) [] (held s) in
    let past : take m s.past ≡ s.past = take_all m s.past (omega arith) in
    let one : Held → Seen = λ h. record { count = h.count; demands = h.demands; past = take m s.past } in
    let two : List Held → Seen = λ t. record { count = s.count; demands = s.demands; past = t } in
    sym (ap one at ∙ ap two past)

-- what is added does not change what was held before
pub back_more : (s t : Seen) (m : ℕ) → t.past ≡ s.past ++ held s ∷ [] → m ≤ length s.past → back_at t m ≡ back_at s m
back_more s t m added h =
    let count : length t.past ≡ length s.past + 1 = ap length added ∙ length-append s.past (held s ∷ []) in
    let at : held_at t m ≡ held_at s m =
    get_or-append t.past (held t ∷ []) (held t) m (omega arith)
    ∙ (ap (λ p. get_or p m (held t)) added ∙ get_or_default (s.past ++ held s ∷ []) m (held t) (held s) (omega (arith, length-append s.past (held s ∷ [])))) in
    of_parts s t m at (ap (take m) added ∙ take-append-le m s.past (held s ∷ []) h)

-- going back twice is going back to the earlier
pub back_twice : (s : Seen) (k m : ℕ) → m ≤ k → k ≤ length s.past → back_at (back_at s k) m ≡ back_at s m
back_twice s k m h i =
    let count : length (take k s.past) ≡ k = length-take-le k s.past i in
    let past : take m (take k s.past) ≡ take m s.past = grind (arith, common_steps) in
    of_parts s (back_at s k) m
    (elim (cases_lt m k) [
      | inl early ↦
          get_or-append (take k s.past) (held (back_at s k) ∷ []) (held (back_at s k)) m (omega arith)
          ∙ (get_or_default (take k s.past) m (held (back_at s k)) (held s) (omega arith)
          ∙ (sym (get_or-append (take k s.past) (drop k s.past) (held s) m (omega arith))
          ∙ (ap (λ p. get_or p m (held s)) (take-append-drop k s.past)
          ∙ sym (get_or-append s.past (held s ∷ []) (held s) m (omega arith)))))
      | inr late ↦
          let same : m ≡ k = omega arith in
          let seam : m ≡ length (take k s.past) = omega arith in
          ap (λ j. get_or (take k s.past ++ held (back_at s k) ∷ []) j (held (back_at s k))) seam
          ∙ (get_or-append_seam (take k s.past) (held (back_at s k)) [] (held (back_at s k))
          ∙ ap (held_at s) (sym same))
    ]) past
