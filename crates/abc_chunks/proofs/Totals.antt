-- The totals tell where each chunk begins.
use Rattle.std.proofs.Common.{◌≡◌, ℕ, zero, suc, ◌+◌, ◌-◌, ◌<◌, ◌≤◌, List, [], ◌∷◌, length, take, get_or, refl, sym, ap, subst, ◌∙◌, arith, add-one}
use Rattle.std.proofs.lemmas.List.{length-append}
use Rattle.abc_chunks.specs.Towers.{joined, sizes, totals_from}
use Rattle.abc_chunks.specs.inner.Spots.{AreAround, IsChunkAt, IsSpot, piece_at}

pub length_totals : (n : ℕ) (ks : List ℕ) → length (totals_from n ks) ≡ suc (length ks)
length_totals n [] = refl
length_totals n (k ∷ ks) = ap suc (length_totals (n + k) ks)

module _ {T : Type 0} where
  pub length_sizes : (xss : List (List T)) → length (sizes xss) ≡ length xss
  length_sizes [] = refl
  length_sizes (xs ∷ xss) = ap suc (length_sizes xss)

  pub count_totals : (n : ℕ) (xss : List (List T)) → length (totals_from n (sizes xss)) ≡ suc (length xss)
  count_totals n xss = length_totals n (sizes xss) ∙ ap suc (length_sizes xss)

  pub total_at : (n : ℕ) (xss : List (List T)) (k : ℕ) → k ≤ length xss → get_or (totals_from n (sizes xss)) k 0 ≡ n + length (joined (take k xss))
  total_at n [] zero h = omega arith
  total_at n [] (suc k) h = absurd (omega arith)
  total_at n (xs ∷ xss) zero h = omega arith
  total_at n (xs ∷ xss) (suc k) h = omega (arith, total_at (n + length xs) xss k (omega arith), length-append xs (joined (take k xss)))

  pub total_last : (n : ℕ) (xss : List (List T)) → get_or (totals_from n (sizes xss)) (length xss) 0 ≡ n + length (joined xss)
  total_last n [] = omega arith
  total_last n (xs ∷ xss) = omega (arith, total_last (n + length xs) xss, length-append xs (joined xss))

  pub front_more : (xss : List (List T)) (k : ℕ) → k < length xss → length (joined (take (suc k) xss)) ≡ length (joined (take k xss)) + length (piece_at xss k)
  front_more [] k h = absurd (omega arith)
  front_more (xs ∷ xss) zero h = omega (arith, length-append xs [])
  front_more (xs ∷ xss) (suc k) h = omega (arith, front_more xss k (omega arith), length-append xs (joined (take k xss)), length-append xs (joined (take (suc k) xss)))

  -- no total is greater than the last
  pub front_within : (xss : List (List T)) (k : ℕ) → length (joined (take k xss)) ≤ length (joined xss)
  front_within [] zero = omega arith
  front_within [] (suc k) = omega arith
  front_within (xs ∷ xss) zero = omega arith
  front_within (xs ∷ xss) (suc k) = omega (arith, front_within xss k, length-append xs (joined (take k xss)), length-append xs (joined xss))

  around_these : (xss : List (List T)) (place : ℕ) → place < length (joined xss) → AreAround (totals_from 0 (sizes xss)) place
  around_these [] place h = absurd (omega arith)
  around_these (xs ∷ xss) place h =
      let count = count_totals 0 (xs ∷ xss) in
      let last = total_last 0 (xs ∷ xss) in
      let end : length (totals_from 0 (sizes (xs ∷ xss))) - 1 ≡ length (xs ∷ xss) = omega (arith, count) in
      record {
        many = omega (arith, count);
        first = omega arith;
        last = subst (λ n. place < get_or (totals_from 0 (sizes (xs ∷ xss))) n 0) (sym end) (omega (arith, last));
      }

  pub around : (xss : List (List T)) (totals : List ℕ) (place : ℕ) → totals ≡ totals_from 0 (sizes xss) → place < length (joined xss) → AreAround totals place
  around xss totals place e h = subst (λ ts. AreAround ts place) (sym e) (around_these xss place h)

  -- the last total is the count of all elements
  pub counted : (xss : List (List T)) (totals : List ℕ) → totals ≡ totals_from 0 (sizes xss) → get_or totals (length totals - 1) 0 ≡ length (joined xss)
  counted xss totals e =
      let end : length (totals_from 0 (sizes xss)) - 1 ≡ length xss = omega (arith, count_totals 0 xss) in
      ap (λ ts. get_or ts (length ts - 1) 0) e ∙ ap (λ n. get_or (totals_from 0 (sizes xss)) n 0) end ∙ omega (arith, total_last 0 xss)

  pub spot_found : (xss : List (List T)) (totals : List ℕ) (place k : ℕ) → totals ≡ totals_from 0 (sizes xss) → IsChunkAt totals place k
      → IsSpot xss place k (place - get_or totals k 0) × (place - get_or totals k 0 < length (piece_at xss k))
  spot_found xss totals place k e at =
      let count = ap length e ∙ count_totals 0 xss in
      let here : k < length xss = omega (arith, count, at.within) in
      let low = ap (λ ts. get_or ts k 0) e ∙ total_at 0 xss k (omega arith) in
      let high = ap (λ ts. get_or ts (suc k) 0) e ∙ total_at 0 xss (suc k) here in
      let last : place < get_or totals (suc k) 0 = subst (λ n. place < get_or totals n 0) (add-one k) at.last in
      let more = front_more xss k here in
      (record { chunk = here; within = omega (arith, low, high, last, more, at.first); front = omega (arith, low, at.first) }, omega (arith, low, high, last, more, at.first))

  -- the spot of a place, by the total that was read
  pub spot_read : (xss : List (List T)) (totals : List ℕ) (place k n : ℕ) → totals ≡ totals_from 0 (sizes xss) → IsChunkAt totals place k → n ≡ get_or totals k 0
      → IsSpot xss place k (place - n) × (place - n < length (piece_at xss k))
  spot_read xss totals place k n e at is = subst (λ m. IsSpot xss place k (place - m) × (place - m < length (piece_at xss k))) (sym is) (spot_found xss totals place k e at)
