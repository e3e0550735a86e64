-- The rest of a word, as far as it goes, is the longest.
use Rattle.std.proofs.Common.{◌≡◌, ℕ, zero, suc, ◌≤◌, Bool, true, false, ◌&&◌, ◌||◌, cond, List, [], ◌∷◌, length, take, refl, ap, ◌∙◌, arith, inl, inr, eqb-true, eq-eqb, ◌+◌, ◌<◌, ◌⊎◌, drop, get_or, sym}
use Rattle.std.proofs.lemmas.List.{drop_more, drop_all}
use Rattle.std.proofs.lemmas.Bool.{cases_lt}
use Rattle.std.specs.Prelude.{◌==◌}
use Rattle.abc_tokens.specs.Bytes.{point}
use Rattle.abc_tokens.specs.Words.{goes_on, IsTail}
use Rattle.abc_tokens.specs.Scanned.{tail_length, continues}

-- n is the greatest number of bytes in front that are the rest of a word
abbrev pub IsLongestTail : (ℕ → Bool) → List ℕ → ℕ → Type 0
IsLongestTail letter bytes n = (n ≤ length bytes) × IsTail letter (take n bytes) × ((m : ℕ) → m ≤ length bytes → IsTail letter (take m bytes) → m ≤ n)

module _ (letter : ℕ → Bool) where
  module _ (b c : ℕ) (bytes : List ℕ) (t : ℕ) (q : IsLongestTail letter (c ∷ bytes) t) where
    on_more : (n : ℕ) → n ≡ t → IsTail letter (take n (c ∷ bytes)) → goes_on letter b ≡ true → IsTail letter (take (suc n) (b ∷ c ∷ bytes))
    on_more zero e h x = x
    on_more (suc n) e h x = inl (x, h)

    on_point : (n : ℕ) → n ≡ t → IsTail letter (take n (c ∷ bytes)) → b ≡ point → goes_on letter c ≡ true → IsTail letter (take (suc n) (b ∷ c ∷ bytes))
    on_point zero e h x z = let one : 1 ≤ t = q.2 1 (omega arith) z in absurd (omega arith)
    on_point (suc n) e h x z = inr (x, z, h)

    most_on : (m : ℕ) → m ≤ length (b ∷ c ∷ bytes) → IsTail letter (take m (b ∷ c ∷ bytes)) → m ≤ suc t
    most_on zero l h = omega arith
    most_on (suc zero) l h = omega arith
    most_on (suc (suc m)) l (inl h) = let p : suc m ≤ t = q.2 (suc m) (omega arith) h.1 in omega arith
    most_on (suc (suc m)) l (inr h) = let p : suc m ≤ t = q.2 (suc m) (omega arith) h.2 in omega arith

    none_on : goes_on letter b ≡ false → ((b == point) && goes_on letter c) ≡ false → (m : ℕ) → IsTail letter (take m (b ∷ c ∷ bytes)) → m ≤ 0
    none_on x y zero h = omega arith
    none_on x y (suc zero) h = cc
    none_on x y (suc (suc m)) (inl h) = let p : goes_on letter b ≡ true = h.0 in cc
    none_on x y (suc (suc m)) (inr h) =
        let p : ((b == point) && goes_on letter c) ≡ true = ap (λ v. v && goes_on letter c) (eq-eqb b point h.0) ∙ h.1 in cc

    by_tests : (x y z : Bool) → goes_on letter b ≡ x → (b == point) ≡ y → goes_on letter c ≡ z
        → IsLongestTail letter (b ∷ c ∷ bytes) (cond (x || (y && z)) (suc t) 0)
    by_tests true y z ex ey ez = (omega (arith, q.0), on_more t refl q.1 ex, most_on)
    by_tests false true true ex ey ez = (omega (arith, q.0), on_point t refl q.1 (eqb-true b point ey) ez, most_on)
    by_tests false true false ex ey ez = (omega arith, tt, λ m l h. none_on ex (ap (λ v. v && goes_on letter c) ey ∙ ez) m h)
    by_tests false false z ex ey ez = (omega arith, tt, λ m l h. none_on ex (ap (λ v. v && goes_on letter c) ey) m h)

  -- a byte that a word doesn't go on with is no tail
  no_byte : (b : ℕ) → goes_on letter b ≡ false → (m : ℕ) → m ≤ 1 → IsTail letter (take m (b ∷ [])) → m ≤ 0
  no_byte b e zero l h = omega arith
  no_byte b e (suc zero) l h = cc
  no_byte b e (suc (suc m)) l h = absurd (omega arith)

  one_byte : (b : ℕ) (x y : Bool) → goes_on letter b ≡ x → IsLongestTail letter (b ∷ []) (cond (x || (y && false)) 1 0)
  one_byte b true y e = (omega arith, e, λ m l h. l)
  one_byte b false true e = (omega arith, tt, no_byte b e)
  one_byte b false false e = (omega arith, tt, no_byte b e)

  pub longest_tail : (bytes : List ℕ) → IsLongestTail letter bytes (tail_length letter bytes)
  longest_tail [] = (omega arith, tt, λ m l h. l)
  longest_tail (b ∷ []) = one_byte b (goes_on letter b) (b == point) refl
  longest_tail (b ∷ c ∷ bytes) = by_tests b c bytes (tail_length letter (c ∷ bytes)) (longest_tail (c ∷ bytes)) (goes_on letter b) (b == point) (goes_on letter c) refl refl refl

-- a byte with which a word goes on is there
is_there : (letter : ℕ → Bool) (bytes : List ℕ) (n : ℕ) → continues letter (drop n bytes) ≡ true → n < length bytes
is_there letter bytes n h = by_cases (cases_lt n (length bytes))
  where
    by_cases : (n < length bytes) ⊎ (length bytes ≤ n) → n < length bytes
    by_cases (inl l) = l
    by_cases (inr l) = let e : continues letter [] ≡ true = ap (continues letter) (sym (drop_all n bytes l)) ∙ h in cc

-- one byte further
pub tail_more : (letter : ℕ → Bool) (bytes rest : List ℕ) (n total : ℕ) → rest ≡ drop n bytes → continues letter rest ≡ true
    → n + tail_length letter (drop n bytes) ≡ total → (n + 1 ≤ length bytes) × (n + 1 + tail_length letter (drop (n + 1) bytes) ≡ total)
tail_more letter bytes rest n total same h t =
    let h1 : continues letter (drop n bytes) ≡ true = ap (continues letter) (sym same) ∙ h in
    let l : n < length bytes = is_there letter bytes n h1 in
    let e : drop n bytes ≡ get_or bytes n 0 ∷ drop (n + 1) bytes = drop_more bytes n 0 l in
    let h2 : continues letter (get_or bytes n 0 ∷ drop (n + 1) bytes) ≡ true = ap (continues letter) (sym e) ∙ h1 in
    let one : tail_length letter (drop n bytes) ≡ suc (tail_length letter (drop (n + 1) bytes)) =
    ap (tail_length letter) e ∙ ap (λ x. cond x (suc (tail_length letter (drop (n + 1) bytes))) 0) h2 in
    (omega arith, omega arith)

-- where no byte goes on, the rest of the word ends
pub tail_none : (letter : ℕ → Bool) (bytes rest : List ℕ) (n total : ℕ) → rest ≡ drop n bytes → continues letter rest ≡ false
    → n + tail_length letter (drop n bytes) ≡ total → n ≡ total
tail_none letter bytes rest n total same h t =
    let z : tail_length letter rest ≡ 0 = none rest h in
    let e : tail_length letter (drop n bytes) ≡ 0 = ap (tail_length letter) (sym same) ∙ z in omega arith
  where
    none : (bs : List ℕ) → continues letter bs ≡ false → tail_length letter bs ≡ 0
    none [] h = refl
    none (b ∷ bs) h = ap (λ x. cond x (suc (tail_length letter bs)) 0) h
