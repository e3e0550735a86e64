-- The place up to which the elements of a sequence pass, found by halves.
use Rattle.std.proofs.Common.{◌≡◌, ℕ, suc, ◌+◌, ◌-◌, ◌<◌, ◌≤◌, Bool, true, false, List, [], ◌∷◌, length, get_or, refl, sym, ap, subst, ◌∙◌, arith, inl, inr}
use Rattle.std.specs.List.{AllWithin}
use Rattle.std.specs.List.Sorted.{IsPartitionedBy, IsPartitionPoint}
use Rattle.std.proofs.lemmas.List.{get_or_read, take_all}
use Rattle.std.proofs.lemmas.Bool.{cases_lt}
use Rattle.abc_chunks.specs.Towers.{joined, sizes, AreSizes}
use Rattle.abc_chunks.specs.inner.Spots.{piece_at, in_front, IsChunkOf}
use Rattle.abc_chunks.proofs.Joined.{get_joined}
use Rattle.abc_chunks.proofs.Shifts.{sizes_within}
use Rattle.abc_chunks.proofs.Totals.{front_more, front_within}

is_false : (b : Bool) → (b ≡ true → ⊥) → b ≡ false
is_false true h = absurd (h refl)
is_false false h = refl

-- up to low all pass, and from high on none does
pub record IsHalved {T : Type 0} (p : T → Bool) (xs : List T) (low high : ℕ) : Type 0 where
  pub met : low ≤ high
  pub within : high ≤ length xs
  pub passed : AllWithin (λ x. p x ≡ true) xs 0 low
  pub others : AllWithin (λ x. p x ≡ false) xs high (length xs)

-- all in front of the chunk low pass, and none from the chunk high on does
pub record IsAround {T : Type 0} (p : T → Bool) (xss : List (List T)) (low high : ℕ) : Type 0 where
  pub below : low < high
  pub within : high ≤ length xss
  pub passed : AllWithin (λ x. p x ≡ true) (joined xss) 0 (in_front xss low)
  pub others : AllWithin (λ x. p x ≡ false) (joined xss) (in_front xss high) (length (joined xss))

module _ {T : Type 0} (p : T → Bool) where
  pub halved_all : (xs : List T) → IsHalved p xs 0 (length xs)
  halved_all xs = record { met = omega arith; within = omega arith; passed = λ k d l h. absurd (omega arith); others = λ k d l h. absurd (omega arith) }

  -- where the element at m passes, all up to it do; where it doesn't, none from it on does
  passed_upto : (xs : List T) (m : ℕ) (x : T) → IsPartitionedBy p xs → m < length xs → x ≡ get_or xs m x → p x ≡ true → AllWithin (λ y. p y ≡ true) xs 0 (suc m)
  passed_upto xs m x parted inside is passing = λ k d l h. parted k m d (omega (arith, h)) inside (ap p (sym (get_or_read xs m x inside is d)) ∙ passing)

  others_from : (xs : List T) (m : ℕ) (x : T) → IsPartitionedBy p xs → m < length xs → x ≡ get_or xs m x → p x ≡ false → AllWithin (λ y. p y ≡ false) xs m (length xs)
  others_from xs m x parted inside is failing = λ k d l h.
      is_false (p (get_or xs k d)) (λ passing. let q : true ≡ false = sym (parted m k d l h passing) ∙ ap p (sym (get_or_read xs m x inside is d)) ∙ failing in cc)

  pub halved_low : (xs : List T) (low high m : ℕ) (x : T) → IsPartitionedBy p xs → IsHalved p xs low high → low ≤ m → m < high → x ≡ get_or xs m x → p x ≡ true → IsHalved p xs (m + 1) high
  halved_low xs low high m x parted s l h is passing = record {
    met = omega (arith, h);
    within = s.within;
    passed = λ k d i j. passed_upto xs m x parted (omega (arith, h, s.within)) is passing k d i (omega (arith, j));
    others = s.others;
  }

  pub halved_high : (xs : List T) (low high m : ℕ) (x : T) → IsPartitionedBy p xs → IsHalved p xs low high → low ≤ m → m < high → x ≡ get_or xs m x → p x ≡ false → IsHalved p xs low m
  halved_high xs low high m x parted s l h is failing = record {
    met = l;
    within = omega (arith, h, s.within);
    passed = s.passed;
    others = others_from xs m x parted (omega (arith, h, s.within)) is failing;
  }

  pub halved_within : (xs : List T) (low high : ℕ) → IsHalved p xs low high → low ≤ length xs
  halved_within xs low high s = omega (arith, s.met, s.within)

  pub halved_found : (xs : List T) (low high : ℕ) → IsHalved p xs low high → high ≤ low → IsPartitionPoint (λ x. p x ≡ true) (λ x. p x ≡ false) xs low
  halved_found xs low high s h = (s.passed, λ k d l i. s.others k d (omega (arith, h, l)) i)

  -- ---- the chunk
  pub around_all : (xss : List (List T)) → 0 < length xss → IsAround p xss 0 (length xss)
  around_all xss h =
      let whole : in_front xss (length xss) ≡ length (joined xss) = ap (λ zss. length (joined zss)) (take_all (length xss) xss (omega arith)) in
      record { below = h; within = omega arith; passed = λ k d l i. absurd (omega (arith, i)); others = λ k d l i. absurd (omega (arith, whole, l, i)) }

  inside_front : (xss : List (List T)) (m : ℕ) → m < length xss → AreSizes (sizes xss) → in_front xss m < length (joined xss)
  inside_front xss m h s = omega (arith, front_more xss m h, front_within xss (suc m), (sizes_within xss m h s).0)

  pub around_low : (xss : List (List T)) (low high m : ℕ) (x : T) → AreSizes (sizes xss) → IsPartitionedBy p (joined xss) → IsAround p xss low high → low < m → m < high → x ≡ get_or (joined xss) (in_front xss m) x → p x ≡ true → IsAround p xss m high
  around_low xss low high m x s parted a l h is passing = record {
    below = h;
    within = a.within;
    passed = λ k d i j. passed_upto (joined xss) (in_front xss m) x parted (inside_front xss m (omega (arith, h, a.within)) s) is passing k d i (omega (arith, j));
    others = a.others;
  }

  pub around_high : (xss : List (List T)) (low high m : ℕ) (x : T) → AreSizes (sizes xss) → IsPartitionedBy p (joined xss) → IsAround p xss low high → low < m → m < high → x ≡ get_or (joined xss) (in_front xss m) x → p x ≡ false → IsAround p xss low m
  around_high xss low high m x s parted a l h is failing = record {
    below = l;
    within = omega (arith, h, a.within);
    passed = a.passed;
    others = others_from (joined xss) (in_front xss m) x parted (inside_front xss m (omega (arith, h, a.within)) s) is failing;
  }

  pub around_found : (xss : List (List T)) (low high : ℕ) → IsAround p xss low high → high ≤ low + 1 → IsChunkOf p xss low
  around_found xss low high a h =
      let next : high ≡ suc low = omega (arith, a.below, h) in
      record { within = omega (arith, a.below, a.within); before = a.passed; behind = subst (λ n. AllWithin (λ x. p x ≡ false) (joined xss) (in_front xss n) (length (joined xss))) next a.others }

  -- ---- in the chunk
  pub piece_parted : (xss : List (List T)) (k : ℕ) → k < length xss → IsPartitionedBy p (joined xss) → IsPartitionedBy p (piece_at xss k)
  piece_parted xss k h parted = λ i j d l m passing.
      let last : in_front xss k + j < length (joined xss) = omega (arith, m, front_more xss k h, front_within xss (suc k)) in
      ap p (sym (get_joined xss k i d h (omega (arith, l, m)))) ∙ parted (in_front xss k + i) (in_front xss k + j) d (omega (arith, l)) last (ap p (get_joined xss k j d h m) ∙ passing)

  pub place_within : (xss : List (List T)) (k n : ℕ) → k < length xss → n ≤ length (piece_at xss k) → in_front xss k + n ≤ length (joined xss)
  place_within xss k n h l = omega (arith, l, front_more xss k h, front_within xss (suc k))

  pub place_joined : (xss : List (List T)) (k n : ℕ) → IsChunkOf p xss k → n ≤ length (piece_at xss k) → IsPartitionPoint (λ x. p x ≡ true) (λ x. p x ≡ false) (piece_at xss k) n
      → IsPartitionPoint (λ x. p x ≡ true) (λ x. p x ≡ false) (joined xss) (in_front xss k + n)
  place_joined xss k n c l s = (passed, others)
    where
      at : (j : ℕ) (d : T) → in_front xss k ≤ j → j - in_front xss k < length (piece_at xss k) → get_or (joined xss) j d ≡ get_or (piece_at xss k) (j - in_front xss k) d
      at j d h m =
          let place : j ≡ in_front xss k + (j - in_front xss k) = omega (arith, h) in
          ap (λ i. get_or (joined xss) i d) place ∙ get_joined xss k (j - in_front xss k) d c.within m

      passed : AllWithin (λ x. p x ≡ true) (joined xss) 0 (in_front xss k + n)
      passed j d i h = elim (cases_lt j (in_front xss k)) [
        | inl b ↦ c.before j d i b
        | inr b ↦ ap p (at j d b (omega (arith, b, h, l))) ∙ s.0 (j - in_front xss k) d (omega arith) (omega (arith, b, h))
      ]

      others : AllWithin (λ x. p x ≡ false) (joined xss) (in_front xss k + n) (length (joined xss))
      others j d i h = elim (cases_lt j (in_front xss (suc k))) [
        | inl b ↦
            let more = front_more xss k c.within in
            ap p (at j d (omega (arith, i)) (omega (arith, b, more, i))) ∙ s.1 (j - in_front xss k) d (omega (arith, i)) (omega (arith, b, more, i))
        | inr b ↦ c.behind j d b h
      ]

pub some_pieces : {T : Type 0} (xss : List (List T)) → 0 < length (joined xss) → 0 < length xss
some_pieces [] h = absurd (omega arith)
some_pieces (xs ∷ xss) h = omega arith
