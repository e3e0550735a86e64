-- A spot behind a cut.
use Rattle.std.proofs.Common.{◌≡◌, ℕ, zero, suc, ◌+◌, ◌-◌, ◌<◌, ◌≤◌, List, [], ◌∷◌, length, take, drop, refl, sym, ap, subst, ◌∙◌, arith, add-one, inl, inr}
use Rattle.std.proofs.lemmas.List.{length-take, length-drop, length-append}
use Rattle.std.proofs.lemmas.Bool.{cases_lt}
use Rattle.abc_chunks.specs.Towers.{joined}
use Rattle.abc_chunks.specs.inner.Spots.{IsSpot, piece_at, parted}

module _ {T : Type 0} where
  count_parted : (xss : List (List T)) (k cut : ℕ) → k < length xss → length (parted xss k cut) ≡ suc (length xss)
  count_parted [] k cut h = absurd (omega arith)
  count_parted (xs ∷ xss) zero cut h = refl
  count_parted (xs ∷ xss) (suc k) cut h = ap suc (count_parted xss k cut (omega arith))

  low_part : (xss : List (List T)) (k cut : ℕ) → k < length xss → piece_at (parted xss k cut) k ≡ take cut (piece_at xss k)
  low_part [] k cut h = absurd (omega arith)
  low_part (xs ∷ xss) zero cut h = refl
  low_part (xs ∷ xss) (suc k) cut h = low_part xss k cut (omega arith)

  high_part : (xss : List (List T)) (k cut : ℕ) → k < length xss → piece_at (parted xss k cut) (suc k) ≡ drop cut (piece_at xss k)
  high_part [] k cut h = absurd (omega arith)
  high_part (xs ∷ xss) zero cut h = refl
  high_part (xs ∷ xss) (suc k) cut h = high_part xss k cut (omega arith)

  low_front : (xss : List (List T)) (k cut : ℕ) → k < length xss → length (joined (take k (parted xss k cut))) ≡ length (joined (take k xss))
  low_front [] k cut h = absurd (omega arith)
  low_front (xs ∷ xss) zero cut h = refl
  low_front (xs ∷ xss) (suc k) cut h = omega (arith, low_front xss k cut (omega arith), length-append xs (joined (take k (parted xss k cut))), length-append xs (joined (take k xss)))

  high_front : (xss : List (List T)) (k cut : ℕ) → k < length xss → cut ≤ length (piece_at xss k) → length (joined (take (suc k) (parted xss k cut))) ≡ length (joined (take k xss)) + cut
  high_front [] k cut h l = absurd (omega arith)
  high_front (xs ∷ xss) zero cut h l = omega (arith, length-append (take cut xs) [], length-take cut xs)
  high_front (xs ∷ xss) (suc k) cut h l = omega (arith, high_front xss k cut (omega arith) l, length-append xs (joined (take (suc k) (parted xss k cut))), length-append xs (joined (take k xss)))

  -- a spot before the cut stays, and one behind it moves to the next chunk
  pub behind_spot : (xss : List (List T)) (place k at cut j to : ℕ) → IsSpot xss place k at → cut ≤ length (piece_at xss k)
      → (at ≤ cut → (j ≡ k) × (to ≡ at)) × (cut < at → (j ≡ k + 1) × (to ≡ at - cut)) → IsSpot (parted xss k cut) place j to
  behind_spot xss place k at cut j to s l moved =
      let count = count_parted xss k cut s.chunk in
      let low = ap length (low_part xss k cut s.chunk) in
      let high = ap length (high_part xss k cut s.chunk) in
      elim (cases_lt cut at) [
        | inl h ↦
            let m = moved.1 h in
            let here : j ≡ suc k = m.0 ∙ add-one k in
            let P : ℕ → ℕ → Type 0 = λ j to. IsSpot (parted xss k cut) place j to in
            subst (λ i. P i to) (sym here) (subst (P (suc k)) (sym m.1) (record {
              chunk = omega (arith, count, s.chunk);
              within = omega (arith, h, high, length-drop cut (piece_at xss k), s.within);
              front = omega (arith, h, high_front xss k cut s.chunk l, s.front);
            }))
        | inr h ↦
            let m = moved.0 h in
            let P : ℕ → ℕ → Type 0 = λ j to. IsSpot (parted xss k cut) place j to in
            subst (λ i. P i to) (sym m.0) (subst (P k) (sym m.1) (record {
              chunk = omega (arith, count, s.chunk);
              within = omega (arith, h, l, low, length-take cut (piece_at xss k));
              front = omega (arith, low_front xss k cut s.chunk, s.front);
            }))
      ]

  -- its chunk has room
  pub behind_room : (xss : List (List T)) (k at cut j m : ℕ) → k < length xss → length (piece_at xss k) ≡ m → 0 < cut → cut < m
      → (at ≤ cut → j ≡ k) × (cut < at → j ≡ k + 1) → length (piece_at (parted xss k cut) j) < m
  behind_room xss k at cut j m h full p q moved =
      let low = ap length (low_part xss k cut h) in
      let high = ap length (high_part xss k cut h) in
      elim (cases_lt cut at) [
        | inl l ↦ subst (λ i. length (piece_at (parted xss k cut) i) < m) (sym (moved.1 l ∙ add-one k)) (omega (arith, full, p, q, high, length-drop cut (piece_at xss k)))
        | inr l ↦ subst (λ i. length (piece_at (parted xss k cut) i) < m) (sym (moved.0 l)) (omega (arith, full, p, q, low, length-take cut (piece_at xss k)))
      ]
