-- What a change of one chunk makes of the totals and of the sizes.
use Rattle.std.proofs.Common.{◌≡◌, ℕ, zero, suc, ◌+◌, ◌-◌, ◌<◌, ◌≤◌, List, [], ◌∷◌, ◌++◌, length, map, take, drop, get_or, slice_set, refl, sym, ap, subst, ◌∙◌, arith, add-one}
use Rattle.std.specs.List.{insert, remove, All, AllByRecursion}
use Rattle.std.proofs.lemmas.List.{map-set, length-take, length-drop, length-append}
use Rattle.std.proofs.lemmas.List.Elements.{All-from_recursion, All-drop}
use Rattle.abc_chunks.specs.Towers.{joined, sizes, totals_from, AreSizes}
use Rattle.abc_chunks.specs.declared.tower.TheConstants.{MOST_IN_CHUNK}
use Rattle.abc_chunks.specs.inner.Spots.{piece_at, raised, lowered, parted, if_empty, without_empty}

totals_suc : (n : ℕ) (ks : List ℕ) → totals_from (suc n) ks ≡ map (λ t. t + 1) (totals_from n ks)
totals_suc n [] = λ i. sym (add-one n) i ∷ []
totals_suc n (k ∷ ks) =
    let next : suc n + k ≡ suc (n + k) = omega arith in
    let rest = ap (λ s. totals_from s ks) next ∙ totals_suc (n + k) ks in
    λ i. sym (add-one n) i ∷ rest i

pred_suc : (ts : List ℕ) → map (λ t. t - 1) (map (λ t. t + 1) ts) ≡ ts
pred_suc [] = refl
pred_suc (t ∷ ts) = let e : t + 1 - 1 ≡ t = omega arith in λ i. e i ∷ pred_suc ts i

-- one chunk has one element more
totals_raised : (n : ℕ) (ks : List ℕ) (k m : ℕ) → k < length ks → get_or ks k 0 ≡ m → totals_from n (slice_set ks k (suc m)) ≡ raised (suc k) (totals_from n ks)
totals_raised n [] k m h e = absurd (omega arith)
totals_raised n (j ∷ ks) zero m h e =
    let start : n + suc m ≡ suc (n + j) = omega (arith, e) in
    ap (λ ts. n ∷ ts) (ap (λ s. totals_from s ks) start ∙ totals_suc (n + j) ks)
totals_raised n (j ∷ ks) (suc k) m h e = ap (λ ts. n ∷ ts) (totals_raised (n + j) ks k m (omega arith) e)

-- one chunk has one element less
totals_lowered : (n : ℕ) (ks : List ℕ) (k m : ℕ) → k < length ks → get_or ks k 0 ≡ suc m → totals_from n (slice_set ks k m) ≡ lowered (suc k) (totals_from n ks)
totals_lowered n [] k m h e = absurd (omega arith)
totals_lowered n (j ∷ ks) zero m h e =
    let start : n + j ≡ suc (n + m) = omega (arith, e) in
    ap (λ ts. n ∷ ts) (sym (ap (λ s. map (λ i. i - 1) (totals_from s ks)) start ∙ ap (map (λ i. i - 1)) (totals_suc (n + m) ks) ∙ pred_suc (totals_from (n + m) ks)))
totals_lowered n (j ∷ ks) (suc k) m h e = ap (λ ts. n ∷ ts) (totals_lowered (n + j) ks k m (omega arith) e)

-- one chunk is cut into two
totals_parted : (n : ℕ) (ks : List ℕ) (k a b : ℕ) → k < length ks → get_or ks k 0 ≡ a + b
    → totals_from n (take k ks ++ a ∷ b ∷ drop (suc k) ks) ≡ insert (totals_from n ks) (suc k) (get_or (totals_from n ks) k 0 + a)
totals_parted n [] k a b h e = absurd (omega arith)
totals_parted n (j ∷ ks) zero a b h e =
    let start : n + a + b ≡ n + j = omega (arith, e) in
    ap (λ ts. n ∷ (n + a) ∷ ts) (ap (λ s. totals_from s ks) start)
totals_parted n (j ∷ ks) (suc k) a b h e = ap (λ ts. n ∷ ts) (totals_parted (n + j) ks k a b (omega arith) e)

-- an empty chunk goes
first_gone : (n j : ℕ) (ks : List ℕ) → j ≡ 0 → totals_from n ks ≡ n ∷ drop 1 (totals_from (n + j) ks)
first_gone n j [] e = refl
first_gone n j (i ∷ ks) e =
    let start : n ≡ n + j = omega (arith, e) in
    ap (λ s. n ∷ totals_from (s + i) ks) start

totals_without : (n : ℕ) (ks : List ℕ) (k : ℕ) → k < length ks → get_or ks k 0 ≡ 0 → totals_from n (remove ks k) ≡ remove (totals_from n ks) (suc k)
totals_without n [] k h e = absurd (omega arith)
totals_without n (j ∷ ks) zero h e = first_gone n j ks e
totals_without n (j ∷ ks) (suc k) h e = ap (λ ts. n ∷ ts) (totals_without (n + j) ks k (omega arith) e)

module _ {T : Type 0} where
  pub size_at : (xss : List (List T)) (k : ℕ) → k < length xss → get_or (sizes xss) k 0 ≡ length (piece_at xss k)
  size_at [] k h = absurd (omega arith)
  size_at (xs ∷ xss) zero h = refl
  size_at (xs ∷ xss) (suc k) h = size_at xss k (omega arith)

  sizes_long : (xss : List (List T)) → length (sizes xss) ≡ length xss
  sizes_long [] = refl
  sizes_long (xs ∷ xss) = ap suc (sizes_long xss)

  sizes_parted : (xss : List (List T)) (k cut : ℕ) → k < length xss
      → sizes (parted xss k cut) ≡ take k (sizes xss) ++ length (take cut (piece_at xss k)) ∷ length (drop cut (piece_at xss k)) ∷ drop (suc k) (sizes xss)
  sizes_parted [] k cut h = absurd (omega arith)
  sizes_parted (xs ∷ xss) zero cut h = refl
  sizes_parted (xs ∷ xss) (suc k) cut h = ap (λ ks. length xs ∷ ks) (sizes_parted xss k cut (omega arith))

  sizes_without : (xss : List (List T)) (k : ℕ) → sizes (remove xss k) ≡ remove (sizes xss) k
  sizes_without [] zero = refl
  sizes_without [] (suc k) = refl
  sizes_without (xs ∷ xss) zero = refl
  sizes_without (xs ∷ xss) (suc k) = ap (λ ks. length xs ∷ ks) (sizes_without xss k)

  -- the totals after a chunk has one element more
  pub totals_put : (xss : List (List T)) (k : ℕ) (ys : List T) → k < length xss → length ys ≡ suc (length (piece_at xss k)) → totals_from 0 (sizes (slice_set xss k ys)) ≡ raised (suc k) (totals_from 0 (sizes xss))
  totals_put xss k ys h e =
      ap (totals_from 0) (map-set length xss k ys ∙ ap (slice_set (sizes xss) k) e) ∙ totals_raised 0 (sizes xss) k (length (piece_at xss k)) (omega (arith, sizes_long xss)) (size_at xss k h)

  pub totals_taken : (xss : List (List T)) (k : ℕ) (ys : List T) → k < length xss → suc (length ys) ≡ length (piece_at xss k) → totals_from 0 (sizes (slice_set xss k ys)) ≡ lowered (suc k) (totals_from 0 (sizes xss))
  totals_taken xss k ys h e =
      ap (totals_from 0) (map-set length xss k ys) ∙ totals_lowered 0 (sizes xss) k (length ys) (omega (arith, sizes_long xss)) (size_at xss k h ∙ sym e)

  pub totals_split : (xss : List (List T)) (k cut : ℕ) → k < length xss → cut ≤ length (piece_at xss k)
      → totals_from 0 (sizes (parted xss k cut)) ≡ insert (totals_from 0 (sizes xss)) (suc k) (get_or (totals_from 0 (sizes xss)) k 0 + cut)
  totals_split xss k cut h l =
      let low : length (take cut (piece_at xss k)) ≡ cut = omega (arith, length-take cut (piece_at xss k)) in
      let both : get_or (sizes xss) k 0 ≡ length (take cut (piece_at xss k)) + length (drop cut (piece_at xss k)) = omega (arith, size_at xss k h, low, length-drop cut (piece_at xss k)) in
      ap (totals_from 0) (sizes_parted xss k cut h) ∙ totals_parted 0 (sizes xss) k _ _ (omega (arith, sizes_long xss)) both
      ∙ ap (λ n. insert (totals_from 0 (sizes xss)) (suc k) (get_or (totals_from 0 (sizes xss)) k 0 + n)) low

  pub totals_gone : (xss : List (List T)) (k : ℕ) → k < length xss → piece_at xss k ≡ [] → totals_from 0 (sizes (remove xss k)) ≡ remove (totals_from 0 (sizes xss)) (suc k)
  totals_gone xss k h e = ap (totals_from 0) (sizes_without xss k) ∙ totals_without 0 (sizes xss) k (omega (arith, sizes_long xss)) (size_at xss k h ∙ ap length e)

-- ---- the bounds of the totals
small_from : {T : Type 0} (n m : ℕ) (xss : List (List T)) → n + length (joined xss) < m → AllByRecursion (λ t. t < m) (totals_from n (sizes xss))
small_from n m [] h = (omega arith, tt)
small_from n m (xs ∷ xss) h = let l = length-append xs (joined xss) in (omega arith, small_from (n + length xs) m xss (omega (arith, l)))

pub totals_small : {T : Type 0} (m j : ℕ) (xss : List (List T)) (totals : List ℕ) → totals ≡ totals_from 0 (sizes xss) → length (joined xss) < m → All (λ t. t < m) (drop j totals)
totals_small m j xss totals e h =
    All-drop (λ t. t < m) j totals (subst (λ ts. All (λ t. t < m) ts) (sym e) (All-from_recursion (λ t. t < m) (totals_from 0 (sizes xss)) (small_from 0 m xss (omega arith))))

some_from : (n : ℕ) (ks : List ℕ) → 1 ≤ n → AllByRecursion (λ t. 1 ≤ t) (totals_from n ks)
some_from n [] h = (h, tt)
some_from n (k ∷ ks) h = (h, some_from (n + k) ks (omega arith))

later_some : (n : ℕ) (ks : List ℕ) (k : ℕ) → k < length ks → 1 ≤ get_or ks k 0 → AllByRecursion (λ t. 1 ≤ t) (drop (suc k) (totals_from n ks))
later_some n [] k h p = absurd (omega arith)
later_some n (j ∷ ks) zero h p = some_from (n + j) ks (omega arith)
later_some n (j ∷ ks) (suc k) h p = later_some (n + j) ks k (omega arith) p

pub totals_some : {T : Type 0} (xss : List (List T)) (k : ℕ) (totals : List ℕ) → totals ≡ totals_from 0 (sizes xss) → k < length xss → 1 ≤ length (piece_at xss k) → All (λ t. 1 ≤ t) (drop (suc k) totals)
totals_some xss k totals e h p =
    subst (λ ts. All (λ t. 1 ≤ t) (drop (suc k) ts)) (sym e) (All-from_recursion (λ t. 1 ≤ t) (drop (suc k) (totals_from 0 (sizes xss))) (later_some 0 (sizes xss) k (omega (arith, sizes_long xss)) (omega (arith, size_at xss k h))))

-- ---- sizes
abbrev IsSize : ℕ → Type 0
IsSize k = (1 ≤ k) × (k ≤ MOST_IN_CHUNK)

sized_set : (ks : List ℕ) (k m : ℕ) → AreSizes ks → IsSize m → AreSizes (slice_set ks k m)
sized_set [] k m s p = tt
sized_set (j ∷ ks) zero m s p = (p, s.1)
sized_set (j ∷ ks) (suc k) m s p = (s.0, sized_set ks k m s.1 p)

sized_parted : (ks : List ℕ) (k a b : ℕ) → k < length ks → AreSizes ks → IsSize a → IsSize b → AreSizes (take k ks ++ a ∷ b ∷ drop (suc k) ks)
sized_parted [] k a b h s p q = absurd (omega arith)
sized_parted (j ∷ ks) zero a b h s p q = (p, (q, s.1))
sized_parted (j ∷ ks) (suc k) a b h s p q = (s.0, sized_parted ks k a b (omega arith) s.1 p q)

module _ {T : Type 0} where
  pub sizes_set : (xss : List (List T)) (k : ℕ) (ys : List T) → AreSizes (sizes xss) → 1 ≤ length ys → length ys ≤ MOST_IN_CHUNK → AreSizes (sizes (slice_set xss k ys))
  sizes_set xss k ys s p q = subst AreSizes (sym (map-set length xss k ys)) (sized_set (sizes xss) k (length ys) s (p, q))

  pub sizes_split : (xss : List (List T)) (k cut : ℕ) → k < length xss → AreSizes (sizes xss) → 0 < cut → cut < length (piece_at xss k) → length (piece_at xss k) ≤ MOST_IN_CHUNK → AreSizes (sizes (parted xss k cut))
  sizes_split xss k cut h s p q r =
      let low : length (take cut (piece_at xss k)) ≡ cut = omega (arith, length-take cut (piece_at xss k)) in
      let high = length-drop cut (piece_at xss k) in
      subst AreSizes (sym (sizes_parted xss k cut h)) (sized_parted (sizes xss) k _ _ (omega (arith, sizes_long xss)) s (omega (arith, low), omega (arith, low)) (omega (arith, high), omega (arith, high)))

  pub sizes_within : (xss : List (List T)) (k : ℕ) → k < length xss → AreSizes (sizes xss) → (1 ≤ length (piece_at xss k)) × (length (piece_at xss k) ≤ MOST_IN_CHUNK)
  sizes_within [] k h s = absurd (omega arith)
  sizes_within (xs ∷ xss) zero h s = s.0
  sizes_within (xs ∷ xss) (suc k) h s = sizes_within xss k (omega arith) s.1

  kept : (xs zs : List T) (yss zss : List (List T)) → IsSize (length xs) → AreSizes (sizes (if_empty zs yss zss)) → AreSizes (sizes (if_empty zs (xs ∷ yss) (xs ∷ zss)))
  kept xs [] yss zss p q = (p, q)
  kept xs (z ∷ zs) yss zss p q = (p, q)

  -- one chunk has become shorter, and goes if it is empty
  pub sizes_taken : (xss : List (List T)) (k : ℕ) (ys : List T) → k < length xss → AreSizes (sizes xss) → length ys ≤ MOST_IN_CHUNK → AreSizes (sizes (without_empty (slice_set xss k ys) k))
  sizes_taken [] k ys h s r = absurd (omega arith)
  sizes_taken (xs ∷ xss) zero [] h s r = s.1
  sizes_taken (xs ∷ xss) zero (y ∷ ys) h s r = ((omega arith, r), s.1)
  sizes_taken (xs ∷ xss) (suc k) ys h s r = kept xs (piece_at (slice_set xss k ys) k) (remove (slice_set xss k ys) k) (slice_set xss k ys) s.0 (sizes_taken xss k ys (omega arith) s.1 r)

  -- one chunk has as many elements as before
  pub sizes_swapped : (xss : List (List T)) (k : ℕ) (ys : List T) → k < length xss → length ys ≡ length (piece_at xss k) → sizes (slice_set xss k ys) ≡ sizes xss
  sizes_swapped [] k ys h e = absurd (omega arith)
  sizes_swapped (xs ∷ xss) zero ys h e = ap (λ n. n ∷ sizes xss) e
  sizes_swapped (xs ∷ xss) (suc k) ys h e = ap (λ ks. length xs ∷ ks) (sizes_swapped xss k ys (omega arith) e)
