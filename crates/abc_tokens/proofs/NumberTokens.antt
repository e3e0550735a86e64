-- The digits in front, with the point and the digits behind them, are the longest number.
use Rattle.std.proofs.Common.{◌≡◌, ℕ, zero, suc, ◌+◌, ◌≤◌, ◌<◌, Bool, true, false, ◌&&◌, ◌||◌, cond, List, [], ◌∷◌, ◌++◌, length, take, drop, refl, ap, sym, ◌∙◌, subst, arith, inl, inr, ◌⊎◌, ◌-◌, length-drop, eqb-true, eq-eqb}
use Rattle.std.specs.Prelude.{◌==◌, All}
use Rattle.std.proofs.lemmas.Bool.{and_parts, and_from, or_right, or_cases, leb-true, le-leb}
use Rattle.std.proofs.lemmas.List.Elements.{All-nil, All-cons, All-head, All-tail}
use Rattle.std.proofs.lemmas.List.{length-take-le}
use Rattle.std.proofs.Math.Seq.{take-add}
use Rattle.abc_num.specs.Literal.{IsDigit, IsDigits, IsNumberToken}
use Rattle.abc_tokens.specs.Bytes.{is_digit, point, begins}
use Rattle.abc_tokens.specs.Scanned.{digits, begins_decimals, decimals, number_length}

pub digit_from : (c : ℕ) → is_digit c ≡ true → IsDigit c
digit_from c h = let p = and_parts _ _ h in (leb-true 48 c p.0, leb-true c 57 p.1)

pub digit_test : (c : ℕ) → IsDigit c → is_digit c ≡ true
digit_test c h = and_from _ _ (le-leb 48 c h.0) (le-leb c 57 h.1)

-- one more digit in front
pub digits_more : (b : ℕ) (bytes : List ℕ) → is_digit b ≡ true → digits (b ∷ bytes) ≡ suc (digits bytes)
digits_more b bytes h = let one : 1 + digits bytes ≡ suc (digits bytes) = omega arith in ap (λ x. cond x (1 + digits bytes) 0) h ∙ one

digits_none : (b : ℕ) (bytes : List ℕ) → is_digit b ≡ false → digits (b ∷ bytes) ≡ 0
digits_none b bytes h = ap (λ x. cond x (1 + digits bytes) 0) h

abbrev Front : List ℕ → ℕ → Type 0
Front bytes n = All IsDigit (take n bytes) × (n ≤ length bytes)

front_on : (b : ℕ) (bytes : List ℕ) → Front bytes (digits bytes) → (x : Bool) → is_digit b ≡ x → Front (b ∷ bytes) (digits (b ∷ bytes))
front_on b bytes q true e = let l : digits bytes ≤ length bytes = q.1 in
    subst (Front (b ∷ bytes)) (sym (digits_more b bytes e)) (All-cons IsDigit b (take (digits bytes) bytes) (digit_from b e) q.0, omega arith)
front_on b bytes q false e = subst (Front (b ∷ bytes)) (sym (digits_none b bytes e)) (All-nil IsDigit, omega arith)

front_digits : (bytes : List ℕ) → Front bytes (digits bytes)
front_digits [] = (All-nil IsDigit, omega arith)
front_digits (b ∷ bytes) = front_on b bytes (front_digits bytes) (is_digit b) refl

most_digits : (bytes : List ℕ) (m : ℕ) → m ≤ length bytes → All IsDigit (take m bytes) → m ≤ digits bytes
most_digits bytes zero l h = omega arith
most_digits [] (suc m) l h = l
most_digits (b ∷ bytes) (suc m) l h =
    let e = digits_more b bytes (digit_test b (All-head IsDigit b (take m bytes) h)) in
    let r : m ≤ digits bytes = most_digits bytes m (omega arith) (All-tail IsDigit b (take m bytes) h) in
    subst (λ n. suc m ≤ n) (sym e) (omega arith)

-- what a number token begins with
abbrev pub begins_number : List ℕ → Bool
begins_number bytes = begins is_digit bytes || begins_decimals bytes

-- a digit before a number
pub number_more : (b : ℕ) (bytes : List ℕ) → is_digit b ≡ true → number_length (b ∷ bytes) ≡ suc (number_length bytes)
number_more b bytes h = ap (λ n. n + decimals (drop n (b ∷ bytes))) (digits_more b bytes h) ∙ (omega arith)

-- a point and digits
decimals_at : (b : ℕ) (bytes : List ℕ) → (b == point) ≡ true → begins is_digit bytes ≡ true → number_length (b ∷ bytes) ≡ suc (digits bytes)
decimals_at b bytes p d =
    let none : is_digit b ≡ false = subst (λ c. is_digit c ≡ false) (sym (eqb-true b point p)) refl in
    let e : begins_decimals (b ∷ bytes) ≡ true = and_from _ _ p d in
    ap (λ n. n + decimals (drop n (b ∷ bytes))) (digits_none b bytes none) ∙ ap (λ x. 0 + cond x (suc (digits bytes)) 0) e ∙ (omega arith)

first_decimal : (bytes : List ℕ) (m : ℕ) (decs : List ℕ) → take m bytes ≡ decs → IsDigits decs → begins is_digit bytes ≡ true
first_decimal bytes zero decs f d = absurd (d.0 (sym f))
first_decimal [] (suc m) decs f d = absurd (d.0 (sym f))
first_decimal (c ∷ bytes) (suc m) decs f d = digit_test c (All-head IsDigit c (take m bytes) (subst (All IsDigit) (sym f) d.1))

-- the point of a number token
pointed : (bytes : List ℕ) (m : ℕ) (whole decs : List ℕ) → m ≤ length bytes → take m bytes ≡ whole ++ (point ∷ decs)
    → All IsDigit whole → IsDigits decs → m ≤ number_length bytes
pointed bytes zero whole decs l e w d = omega arith
pointed [] (suc m) whole decs l e w d = absurd (omega arith)
pointed (b ∷ bytes) (suc m) [] decs l e w d =
    let is_point : b ≡ point = cc in
    let rest : take m bytes ≡ decs = cc in
    let n = decimals_at b bytes (eq-eqb b point is_point) (first_decimal bytes m decs rest d) in
    let r : m ≤ digits bytes = most_digits bytes m (omega arith) (subst (All IsDigit) (sym rest) d.1) in
    subst (λ n. suc m ≤ n) (sym n) (omega arith)
pointed (b ∷ bytes) (suc m) (c ∷ whole) decs l e w d =
    let same : b ≡ c = cc in
    let rest : take m bytes ≡ whole ++ (point ∷ decs) = cc in
    let n = number_more b bytes (subst (λ x. is_digit x ≡ true) (sym same) (digit_test c (All-head IsDigit c whole w))) in
    let r : m ≤ number_length bytes = pointed bytes m whole decs (omega arith) rest (All-tail IsDigit c whole w) d in
    subst (λ n. suc m ≤ n) (sym n) (omega arith)

pub most_number : (bytes : List ℕ) (m : ℕ) → m ≤ length bytes → IsNumberToken (take m bytes) → m ≤ number_length bytes
most_number bytes m l (inl h) = let r : m ≤ digits bytes = most_digits bytes m l h.1 in omega arith
most_number bytes m l (inr (whole, decs, e, w, d)) = pointed bytes m whole decs l e w d

first_of : (b : ℕ) (bytes : List ℕ) (m : ℕ) (whole decs : List ℕ) → take m (b ∷ bytes) ≡ whole ++ (point ∷ decs) → All IsDigit whole → IsDigits decs
    → (is_digit b || begins_decimals (b ∷ bytes)) ≡ true
first_of b bytes zero [] decs e w d = cc
first_of b bytes zero (c ∷ whole) decs e w d = cc
first_of b bytes (suc m) [] decs e w d =
    let is_point : b ≡ point = cc in
    let rest : take m bytes ≡ decs = cc in
    let p : begins_decimals (b ∷ bytes) ≡ true = and_from _ _ (eq-eqb b point is_point) (first_decimal bytes m decs rest d) in
    or_right (is_digit b) _ p
first_of b bytes (suc m) (c ∷ whole) decs e w d =
    let same : b ≡ c = cc in
    ap (λ x. x || begins_decimals (b ∷ bytes)) (subst (λ x. is_digit x ≡ true) (sym same) (digit_test c (All-head IsDigit c whole w)))

pub number_first : (b : ℕ) (bytes : List ℕ) (m : ℕ) → IsNumberToken (take m (b ∷ bytes)) → (is_digit b || begins_decimals (b ∷ bytes)) ≡ true
number_first b bytes zero (inl h) = absurd (h.0 refl)
number_first b bytes (suc m) (inl h) = ap (λ x. x || begins_decimals (b ∷ bytes)) (digit_test b (All-head IsDigit b (take m bytes) h.1))
number_first b bytes m (inr (whole, decs, e, w, d)) = first_of b bytes m whole decs e w d

abbrev pub IsSpelled : List ℕ → ℕ → Type 0
IsSpelled bytes n = IsNumberToken (take n bytes) × (n ≤ length bytes) × (0 < n)

some_digits : (bytes : List ℕ) → begins is_digit bytes ≡ true → 0 < digits bytes
some_digits [] e = cc
some_digits (b ∷ bytes) e = subst (λ n. 0 < n) (sym (digits_more b bytes e)) (omega arith)

taken : (d : ℕ) (bytes : List ℕ) → 0 < d → d ≤ length bytes → take d bytes ≡ [] → ⊥
taken d bytes p l e = let n : length (take d bytes) ≡ 0 = ap length e in let m = length-take-le d bytes l in absurd (omega arith)

module _ (bytes : List ℕ) (d : ℕ) (q : Front bytes d) (h : begins_number bytes ≡ true) where
  whole_number : 0 < d → IsSpelled bytes (d + 0)
  whole_number p = let e : d ≡ d + 0 = omega arith in let l : d ≤ length bytes = q.1 in
      subst (IsSpelled bytes) e (inl (taken d bytes p l, q.0), l, p)

  with_point : (b : ℕ) (rest : List ℕ) → drop d bytes ≡ b ∷ rest → (b == point) ≡ true → begins is_digit rest ≡ true → IsSpelled bytes (d + suc (digits rest))
  with_point b rest e p s =
      let f = front_digits rest in
      let few : digits rest ≤ length rest = f.1 in
      let l : d ≤ length bytes = q.1 in
      let size : length bytes - d ≡ suc (length rest) = sym (length-drop d bytes) ∙ ap length e in
      let spelled : take (d + suc (digits rest)) bytes ≡ take d bytes ++ (point ∷ take (digits rest) rest) =
      take-add d (suc (digits rest)) bytes ∙ ap (λ x. take d bytes ++ take (suc (digits rest)) x) e
      ∙ ap (λ x. take d bytes ++ (x ∷ take (digits rest) rest)) (eqb-true b point p) in
      (inr (take d bytes, take (digits rest) rest, spelled, q.0, (taken (digits rest) rest (some_digits rest s) few, f.0)), omega arith, omega arith)

-- the front d are digits, and the rest begins with decimals or not
spelled_by : (bytes : List ℕ) (d : ℕ) → Front bytes d → (rest : List ℕ) → drop d bytes ≡ rest → (begins is_digit bytes ≡ true → 0 < d)
    → begins_number bytes ≡ true → IsSpelled bytes (d + decimals rest)
spelled_by bytes d q [] e some h = whole_number bytes d q h (positive d e some)
  where
    positive : (d : ℕ) → drop d bytes ≡ [] → (begins is_digit bytes ≡ true → 0 < d) → 0 < d
    positive zero e some = let no : begins_number bytes ≡ false = ap begins_number e in cc
    positive (suc d) e some = omega arith
spelled_by bytes d q (b ∷ rest) e some h = by_tests (b == point) (begins is_digit rest) refl refl
  where
    positive : (d : ℕ) → drop d bytes ≡ b ∷ rest → (begins is_digit bytes ≡ true → 0 < d) → begins_decimals (b ∷ rest) ≡ false → 0 < d
    positive zero e some none = by_cases (or_cases (begins is_digit bytes) (begins_decimals bytes) h)
      where
        by_cases : (begins is_digit bytes ≡ true) ⊎ (begins_decimals bytes ≡ true) → 0 < 0
        by_cases (inl y) = some y
        by_cases (inr y) = let z : begins_decimals (b ∷ rest) ≡ true = ap begins_decimals (sym e) ∙ y in cc
    positive (suc d) e some none = omega arith

    by_tests : (x y : Bool) → (b == point) ≡ x → begins is_digit rest ≡ y → IsSpelled bytes (d + cond (x && y) (suc (digits rest)) 0)
    by_tests true true p s = with_point bytes d q h b rest e p s
    by_tests true false p s = whole_number bytes d q h (positive d e some (ap (λ x. x && begins is_digit rest) p ∙ s))
    by_tests false y p s = whole_number bytes d q h (positive d e some (ap (λ x. x && begins is_digit rest) p))

pub number_spelled : (bytes : List ℕ) → begins_number bytes ≡ true → IsSpelled bytes (number_length bytes)
number_spelled bytes h = spelled_by bytes (digits bytes) (front_digits bytes) (drop (digits bytes) bytes) refl (some_digits bytes) h

pub no_number : IsNumberToken [] → ⊥
no_number (inl h) = h.0 refl
no_number (inr (whole, decs, e, w, d)) = by_whole whole e
  where
    by_whole : (whole : List ℕ) → [] ≡ whole ++ (point ∷ decs) → ⊥
    by_whole [] e = cc
    by_whole (c ∷ whole) e = cc

pub number_none : (b : ℕ) (bytes : List ℕ) → is_digit b ≡ false → number_length (b ∷ bytes) ≡ decimals (b ∷ bytes)
number_none b bytes h = ap (λ n. n + decimals (drop n (b ∷ bytes))) (digits_none b bytes h) ∙ (omega arith)
