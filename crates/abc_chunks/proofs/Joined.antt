-- What a change of one chunk makes of all elements.
use Rattle.std.proofs.Common.{◌≡◌, ℕ, zero, suc, ◌+◌, ◌-◌, ◌<◌, ◌≤◌, List, [], ◌∷◌, ◌++◌, length, take, drop, get_or, slice_set, refl, sym, ap, ◌∙◌, arith}
use Rattle.std.specs.List.{insert, remove}
use Rattle.std.proofs.lemmas.List.{length-append, append_assoc, set-append_left, set-append_right, get_or-append-add, take-append-drop}
use Rattle.std.proofs.lemmas.List.Edits.{insert-append_left, insert-append_right, remove-append_left, remove-append_right}
use Rattle.abc_chunks.specs.Towers.{joined}
use Rattle.abc_chunks.specs.inner.Spots.{piece_at, parted, if_empty, without_empty}

none_before : (n : ℕ) → 0 + n ≡ n
none_before n = omega arith

module _ {T : Type 0} where
  abbrev front : List (List T) → ℕ → ℕ
  front xss k = length (joined (take k xss))

  get_left : (xs ys : List T) (i : ℕ) (d : T) → i < length xs → get_or (xs ++ ys) i d ≡ get_or xs i d
  get_left [] ys i d h = absurd (omega arith)
  get_left (x ∷ xs) ys zero d h = refl
  get_left (x ∷ xs) ys (suc i) d h = get_left xs ys i d (omega arith)

  pub get_joined : (xss : List (List T)) (k at : ℕ) (d : T) → k < length xss → at < length (piece_at xss k) → get_or (joined xss) (front xss k + at) d ≡ get_or (piece_at xss k) at d
  get_joined [] k at d h l = absurd (omega arith)
  get_joined (xs ∷ xss) zero at d h l = ap (λ n. get_or (xs ++ joined xss) n d) (none_before at) ∙ get_left xs (joined xss) at d l
  get_joined (xs ∷ xss) (suc k) at d h l =
      let place : length (xs ++ joined (take k xss)) + at ≡ length xs + (front xss k + at) = omega (arith, length-append xs (joined (take k xss))) in
      ap (λ n. get_or (xs ++ joined xss) n d) place ∙ get_or-append-add xs (joined xss) (front xss k + at) d ∙ get_joined xss k at d (omega arith) l

  pub insert_joined : (xss : List (List T)) (k at : ℕ) (x : T) → k < length xss → at ≤ length (piece_at xss k) → joined (slice_set xss k (insert (piece_at xss k) at x)) ≡ insert (joined xss) (front xss k + at) x
  insert_joined [] k at x h l = absurd (omega arith)
  insert_joined (xs ∷ xss) zero at x h l = sym (ap (λ n. insert (xs ++ joined xss) n x) (none_before at) ∙ insert-append_left xs (joined xss) at x l)
  insert_joined (xs ∷ xss) (suc k) at x h l =
      let place : (length (xs ++ joined (take k xss)) + at) - length xs ≡ front xss k + at = omega (arith, length-append xs (joined (take k xss))) in
      let behind : length xs ≤ length (xs ++ joined (take k xss)) + at = omega (arith, length-append xs (joined (take k xss))) in
      ap (λ ys. xs ++ ys) (insert_joined xss k at x (omega arith) l ∙ ap (λ n. insert (joined xss) n x) (sym place))
      ∙ sym (insert-append_right xs (joined xss) (length xs) (length (xs ++ joined (take k xss)) + at) x refl behind)

  pub remove_joined : (xss : List (List T)) (k at : ℕ) → k < length xss → at < length (piece_at xss k) → joined (slice_set xss k (remove (piece_at xss k) at)) ≡ remove (joined xss) (front xss k + at)
  remove_joined [] k at h l = absurd (omega arith)
  remove_joined (xs ∷ xss) zero at h l = sym (ap (λ n. remove (xs ++ joined xss) n) (none_before at) ∙ remove-append_left xs (joined xss) at l)
  remove_joined (xs ∷ xss) (suc k) at h l =
      let place : (length (xs ++ joined (take k xss)) + at) - length xs ≡ front xss k + at = omega (arith, length-append xs (joined (take k xss))) in
      let behind : length xs ≤ length (xs ++ joined (take k xss)) + at = omega (arith, length-append xs (joined (take k xss))) in
      ap (λ ys. xs ++ ys) (remove_joined xss k at (omega arith) l ∙ ap (λ n. remove (joined xss) n) (sym place))
      ∙ sym (remove-append_right xs (joined xss) (length xs) (length (xs ++ joined (take k xss)) + at) refl behind)

  pub set_joined : (xss : List (List T)) (k at : ℕ) (x : T) → k < length xss → at < length (piece_at xss k) → joined (slice_set xss k (slice_set (piece_at xss k) at x)) ≡ slice_set (joined xss) (front xss k + at) x
  set_joined [] k at x h l = absurd (omega arith)
  set_joined (xs ∷ xss) zero at x h l = sym (ap (λ n. slice_set (xs ++ joined xss) n x) (none_before at) ∙ set-append_left xs (joined xss) at x l)
  set_joined (xs ∷ xss) (suc k) at x h l =
      let place : (length (xs ++ joined (take k xss)) + at) - length xs ≡ front xss k + at = omega (arith, length-append xs (joined (take k xss))) in
      let behind : length xs ≤ length (xs ++ joined (take k xss)) + at = omega (arith, length-append xs (joined (take k xss))) in
      ap (λ ys. xs ++ ys) (set_joined xss k at x (omega arith) l ∙ ap (λ n. slice_set (joined xss) n x) (sym place))
      ∙ sym (set-append_right xs (joined xss) (length xs) (length (xs ++ joined (take k xss)) + at) x refl behind)

  pub parted_joined : (xss : List (List T)) (k cut : ℕ) → k < length xss → joined (parted xss k cut) ≡ joined xss
  parted_joined [] k cut h = absurd (omega arith)
  parted_joined (xs ∷ xss) zero cut h = sym (append_assoc (take cut xs) (drop cut xs) (joined xss)) ∙ ap (λ ys. ys ++ joined xss) (take-append-drop cut xs)
  parted_joined (xs ∷ xss) (suc k) cut h = ap (λ ys. xs ++ ys) (parted_joined xss k cut (omega arith))

  if_empty_joined : (xs : List T) (yss xss : List (List T)) → (xs ≡ [] → joined yss ≡ joined xss) → joined (if_empty xs yss xss) ≡ joined xss
  if_empty_joined [] yss xss h = h refl
  if_empty_joined (x ∷ xs) yss xss h = refl

  empty_joined : (xss : List (List T)) (k : ℕ) → k < length xss → piece_at xss k ≡ [] → joined (remove xss k) ≡ joined xss
  empty_joined [] k h e = absurd (omega arith)
  empty_joined (xs ∷ xss) zero h e = ap (λ ys. ys ++ joined xss) (sym e)
  empty_joined (xs ∷ xss) (suc k) h e = ap (λ ys. xs ++ ys) (empty_joined xss k (omega arith) e)

  pub without_joined : (xss : List (List T)) (k : ℕ) → k < length xss → joined (without_empty xss k) ≡ joined xss
  without_joined xss k h = if_empty_joined (piece_at xss k) (remove xss k) xss (empty_joined xss k h)
