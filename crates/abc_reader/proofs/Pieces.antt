-- The parts of a piece of the input.
use Rattle.std.proofs.Common.{◌≡◌, ℕ, zero, suc, ◌+◌, ◌-◌, ◌<◌, ◌≤◌, true, false, List, [], ◌∷◌, ◌++◌, length, take, drop, get_or, sym, ◌∙◌, ap, arith, take-append-drop, length-take, length-drop}
use Rattle.std.proofs.lemmas.List.{drop_more, drop-take, drop-drop, take_all, append-nil}
use Rattle.abc_num.specs.Lines.{HasNoLf}
use Rattle.abc_reader.specs.inner.LineReading.{Front, front_of, TookPart}

pub no_lf : (n : ℕ) (bytes : List ℕ) → n ≤ length bytes → ((k : ℕ) → k < n → get_or bytes k 0 ≡ 10 → ⊥) → HasNoLf (take n bytes)
no_lf zero bytes le f = tt
no_lf (suc n) [] le f = absurd (omega arith)
no_lf (suc n) (b ∷ bytes) le f = (f 0 (omega arith), no_lf n bytes (omega arith) (λ k lt e. f (suc k) (omega arith) e))

-- what stands behind a place of a part of a piece
behind : (items : List ℕ) (from to place : ℕ) → from + place ≤ to → drop place (take (to - from) (drop from items)) ≡ take (to - (from + place)) (drop (from + place) items)
behind items from to place le =
    let room : to - from ≡ place + (to - (from + place)) = omega arith in
    ap (λ n. drop place (take n (drop from items))) room ∙ drop-take place (to - (from + place)) (drop from items)
    ∙ ap (λ (l : List ℕ). take (to - (from + place)) l) (drop-drop place from items)

module _ (items pending : List ℕ) (from to end : ℕ) (is : pending ≡ take (to - from) (drop from items)) (order : from ≤ to) (inside : to ≤ length items) where
  count : length pending ≡ to - from
  count = omega (arith, ap length is, length-take (to - from) (drop from items), length-drop from items)

  pub split_at_lf : end < length pending → get_or pending end 0 ≡ 10 → pending ≡ take end pending ++ 10 ∷ take (to - (from + (end + 1))) (drop (from + (end + 1)) items)
  split_at_lf lt lf =
      let rest : drop (end + 1) pending ≡ take (to - (from + (end + 1))) (drop (from + (end + 1)) items) =
      ap (λ (l : List ℕ). drop (end + 1) l) is ∙ behind items from to (end + 1) (omega (arith, count)) in
      sym (take-append-drop end pending)
      ∙ ap (λ (l : List ℕ). take end pending ++ l) (drop_more pending end 0 lt ∙ ap (λ b. b ∷ drop (end + 1) pending) lf ∙ ap (λ (l : List ℕ). 10 ∷ l) rest)

  pub found_part : (line_old line_new : Front) → end ≤ length pending → ((end ≡ length pending) → ⊥) → ((k : ℕ) → k < end → get_or pending k 0 ≡ 10 → ⊥) → (end < length pending → get_or pending end 0 ≡ 10)
      → ((bytes : List ℕ) → line_old ≡ front_of bytes → line_new ≡ front_of (bytes ++ take end pending))
      → TookPart (take (to - from) (drop from items)) (take (to - (from + (end + 1))) (drop (from + (end + 1)) items)) line_old line_new true
  found_part line_old line_new within inner before lf grows =
      let lt : end < length pending = omega (arith, inner) in
      record { part = take end pending; no_lf = no_lf end pending within before; grows = grows; split = sym is ∙ split_at_lf lt (lf lt); rest = λ e. absurd (cc e) }

  pub whole_part : (line_old line_new : Front) → end ≡ length pending → ((k : ℕ) → k < end → get_or pending k 0 ≡ 10 → ⊥)
      → ((bytes : List ℕ) → line_old ≡ front_of bytes → line_new ≡ front_of (bytes ++ take end pending))
      → TookPart (take (to - from) (drop from items)) (take (to - to) (drop to items)) line_old line_new false
  whole_part line_old line_new whole before grows =
      let all = take_all end pending (omega (arith, whole)) in
      let none : to - to ≡ 0 = omega arith in
      record {
        part = take end pending;
        no_lf = no_lf end pending (omega (arith, whole)) before;
        grows = grows;
        split = sym is ∙ sym (append-nil (take end pending) ∙ all);
        rest = λ e. ap (λ n. take n (drop to items)) none;
      }
