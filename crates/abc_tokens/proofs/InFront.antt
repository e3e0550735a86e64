-- The name, keyword, number or sign in front is the longest that is spelled there, and the only one.
use Rattle.std.proofs.Common.{◌≡◌, ℕ, zero, suc, ◌≤◌, ◌<◌, Bool, true, false, ◌&&◌, ◌||◌, cond, List, [], ◌∷◌, length, take, Option, Some, None, refl, ap, sym, ◌∙◌, subst, arith, inl, inr, ◌⊎◌, eqb-true}
use Rattle.std.specs.Prelude.{◌==◌, not, nat_le}
use Rattle.std.proofs.lemmas.Bool.{and_parts, or_cases, or_right, leb-true, both_ways, not-true}
use Rattle.abc_tokens.specs.declared.kinds.TokenKind.{TokenKind}
use Rattle.abc_tokens.specs.declared.kinds.TokenKind.TheVariants.{Name, Keyword, Number, Text, Sign, Other}
use Rattle.abc_tokens.specs.Bytes.{is_small, is_capital, is_digit, point, begins}
use Rattle.abc_tokens.specs.Words.{IsWord, Spells, IsLongest, BeginsNone}
use Rattle.abc_tokens.specs.Scanned.{tail_length, begins_decimals, number_length, is_double, is_single, word_in_front}
use Rattle.abc_tokens.proofs.Tails.{longest_tail}
use Rattle.abc_tokens.proofs.NumberTokens.{most_number, number_first, number_spelled, no_number}
use Rattle.abc_tokens.proofs.SignTokens.{is_plain, plain_single, plain_double, double_point, sign_first}

-- n bytes in front spell this kind, and whatever is spelled there is of this kind and no longer
pub record IsOnly (kind : TokenKind) (n : ℕ) (bytes : List ℕ) : Type 0 where
  pub some : 0 < n
  pub within : n ≤ length bytes
  pub spelled : Spells kind (take n bytes)
  pub only : (other : TokenKind) (m : ℕ) → m ≤ length bytes → Spells other (take m bytes) → (other ≡ kind) × (m ≤ n)

abbrev pub Finds : List ℕ → Option (TokenKind × ℕ) → Type 0
Finds bytes None = BeginsNone bytes
Finds bytes (Some w) = IsOnly w.0 w.1 bytes

word_first : (letter : ℕ → Bool) (b : ℕ) (bytes : List ℕ) (m : ℕ) → IsWord letter (take m (b ∷ bytes)) → letter b ≡ true
word_first letter b bytes zero h = absurd h
word_first letter b bytes (suc m) h = h.0

most_word : (letter : ℕ → Bool) (b : ℕ) (bytes : List ℕ) (m : ℕ) → m ≤ suc (length bytes) → IsWord letter (take m (b ∷ bytes)) → m ≤ suc (tail_length letter bytes)
most_word letter b bytes zero l h = omega arith
most_word letter b bytes (suc m) l h = let q : m ≤ tail_length letter bytes = (longest_tail letter bytes).2 m (omega arith) h.1 in omega arith

-- the classes of first bytes are apart
small_capital : (b : ℕ) → is_small b ≡ true → is_capital b ≡ true → ⊥
small_capital b s c =
    let p : 97 ≤ b = leb-true 97 b (and_parts (nat_le 97 b) (nat_le b 122) s).0 in let q : b ≤ 90 = leb-true b 90 (and_parts (nat_le 65 b) (nat_le b 90) c).1 in omega arith

-- letters stand above digits and the point
letter_above : (b : ℕ) → (is_small b || is_capital b) ≡ true → 65 ≤ b
letter_above b h = by_cases (or_cases (is_small b) (is_capital b) h)
  where
    by_cases : (is_small b ≡ true) ⊎ (is_capital b ≡ true) → 65 ≤ b
    by_cases (inl e) = let p : 97 ≤ b = leb-true 97 b (and_parts _ _ e).0 in omega arith
    by_cases (inr e) = leb-true 65 b (and_parts _ _ e).0

number_below : (b : ℕ) (bytes : List ℕ) → (is_digit b || begins_decimals (b ∷ bytes)) ≡ true → b ≤ 57
number_below b bytes h = by_cases (or_cases (is_digit b) (begins_decimals (b ∷ bytes)) h)
  where
    by_cases : (is_digit b ≡ true) ⊎ (begins_decimals (b ∷ bytes) ≡ true) → b ≤ 57
    by_cases (inl e) = leb-true b 57 (and_parts _ _ e).1
    by_cases (inr e) = let p : b ≡ point = eqb-true b point (and_parts (b == point) (begins is_digit bytes) e).0 in omega arith

module _ (b : ℕ) (bytes : List ℕ) where
  abbrev is_number : Bool
  is_number = is_digit b || begins_decimals (b ∷ bytes)

  -- what begins like a number is no letter
  letter_number : is_number ≡ true → (is_small b || is_capital b) ≡ true → ⊥
  letter_number n l = let p = number_below b bytes n in let q = letter_above b l in absurd (omega (arith, p, q))

  sign_plain : (m : ℕ) → m ≤ suc (length bytes) → Spells Sign (take m (b ∷ bytes)) → is_plain b ≡ true
  sign_plain m l h = by_cases (sign_first b bytes m l h)
    where
      by_cases : ((m ≡ 1) × (is_single b ≡ true)) ⊎ ((m ≡ 2) × (is_double b bytes ≡ true)) → is_plain b ≡ true
      by_cases (inl e) = (and_parts (is_plain b) (not (b == point)) (plain_single b e.1)).0
      by_cases (inr e) = plain_double b bytes e.1

  letter_sign : (is_small b || is_capital b) ≡ true → (m : ℕ) → m ≤ suc (length bytes) → Spells Sign (take m (b ∷ bytes)) → ⊥
  letter_sign e m l h = by_cases (or_cases (is_small b) (is_capital b) e)
    where
      by_cases : (is_small b ≡ true) ⊎ (is_capital b ≡ true) → ⊥
      by_cases (inl s) = let p = sign_plain m l h in
          both_ways (is_small b) (not-true (is_small b) (and_parts (not (is_small b)) (not (is_capital b) && not (is_digit b)) p).0) s
      by_cases (inr c) = let p = sign_plain m l h in
          let r = (and_parts (not (is_small b)) (not (is_capital b) && not (is_digit b)) p).1 in
          both_ways (is_capital b) (not-true (is_capital b) (and_parts (not (is_capital b)) (not (is_digit b)) r).0) c

  digit_sign : is_digit b ≡ true → (m : ℕ) → m ≤ suc (length bytes) → Spells Sign (take m (b ∷ bytes)) → ⊥
  digit_sign e m l h = let p = sign_plain m l h in
      let r = (and_parts (not (is_small b)) (not (is_capital b) && not (is_digit b)) p).1 in
      both_ways (is_digit b) (not-true (is_digit b) (and_parts (not (is_capital b)) (not (is_digit b)) r).1) e

  -- nor a sign
  sign_number : is_number ≡ true → (m : ℕ) → m ≤ suc (length bytes) → Spells Sign (take m (b ∷ bytes)) → ⊥
  sign_number n m l h = by_cases (or_cases (is_digit b) (begins_decimals (b ∷ bytes)) n) (sign_first b bytes m l h)
    where
      by_cases : (is_digit b ≡ true) ⊎ (begins_decimals (b ∷ bytes) ≡ true) → ((m ≡ 1) × (is_single b ≡ true)) ⊎ ((m ≡ 2) × (is_double b bytes ≡ true)) → ⊥
      by_cases (inl d) k = digit_sign d m l h
      by_cases (inr d) (inl k) = let p = (and_parts (is_plain b) (not (b == point)) (plain_single b k.1)).1 in
          both_ways (b == point) (not-true (b == point) p) (and_parts (b == point) (begins is_digit bytes) d).0
      by_cases (inr d) (inr k) = let p = and_parts (b == point) (begins is_digit bytes) d in
          both_ways (begins is_digit bytes) (double_point b bytes k.1 p.0) p.1

  at_small : is_small b ≡ true → IsOnly Name (suc (tail_length is_small bytes)) (b ∷ bytes)
  at_small e = let t = longest_tail is_small bytes in
      let l : tail_length is_small bytes ≤ length bytes = t.0 in
      record { some = omega arith; within = omega arith; spelled = (e, t.1); only = only }
    where
      letter : (is_small b || is_capital b) ≡ true
      letter = ap (λ x. x || is_capital b) e

      only : (other : TokenKind) (m : ℕ) → m ≤ suc (length bytes) → Spells other (take m (b ∷ bytes)) → (other ≡ Name) × (m ≤ suc (tail_length is_small bytes))
      only Name m l h = (refl, most_word is_small b bytes m l h)
      only Keyword m l h = absurd (small_capital b e (word_first is_capital b bytes m h))
      only Number m l h = absurd (letter_number (number_first b bytes m h) letter)
      only Sign m l h = absurd (letter_sign letter m l h)
      only Text m l h = absurd h
      only Other m l h = absurd h

  at_capital : is_capital b ≡ true → IsOnly Keyword (suc (tail_length is_capital bytes)) (b ∷ bytes)
  at_capital e = let t = longest_tail is_capital bytes in
      let l : tail_length is_capital bytes ≤ length bytes = t.0 in
      record { some = omega arith; within = omega arith; spelled = (e, t.1); only = only }
    where
      letter : (is_small b || is_capital b) ≡ true
      letter = or_right (is_small b) (is_capital b) e

      only : (other : TokenKind) (m : ℕ) → m ≤ suc (length bytes) → Spells other (take m (b ∷ bytes)) → (other ≡ Keyword) × (m ≤ suc (tail_length is_capital bytes))
      only Name m l h = absurd (small_capital b (word_first is_small b bytes m h) e)
      only Keyword m l h = (refl, most_word is_capital b bytes m l h)
      only Number m l h = absurd (letter_number (number_first b bytes m h) letter)
      only Sign m l h = absurd (letter_sign letter m l h)
      only Text m l h = absurd h
      only Other m l h = absurd h

  at_number : is_number ≡ true → IsOnly Number (number_length (b ∷ bytes)) (b ∷ bytes)
  at_number e = let q = number_spelled (b ∷ bytes) e in
      record { some = q.2; within = q.1; spelled = q.0; only = only }
    where
      only : (other : TokenKind) (m : ℕ) → m ≤ suc (length bytes) → Spells other (take m (b ∷ bytes)) → (other ≡ Number) × (m ≤ number_length (b ∷ bytes))
      only Name m l h = absurd (letter_number e (ap (λ x. x || is_capital b) (word_first is_small b bytes m h)))
      only Keyword m l h = absurd (letter_number e (or_right (is_small b) (is_capital b) (word_first is_capital b bytes m h)))
      only Number m l h = (refl, most_number (b ∷ bytes) m l h)
      only Sign m l h = absurd (sign_number e m l h)
      only Text m l h = absurd h
      only Other m l h = absurd h

  module _ (s : is_small b ≡ false) (c : is_capital b ≡ false) (n : is_number ≡ false) where
    others : (kind : TokenKind) (m : ℕ) → m ≤ suc (length bytes) → Spells kind (take m (b ∷ bytes)) → (kind ≡ Sign) × (((m ≡ 1) × (is_single b ≡ true)) ⊎ ((m ≡ 2) × (is_double b bytes ≡ true)))
    others Name m l h = absurd (both_ways (is_small b) s (word_first is_small b bytes m h))
    others Keyword m l h = absurd (both_ways (is_capital b) c (word_first is_capital b bytes m h))
    others Number m l h = absurd (both_ways is_number n (number_first b bytes m h))
    others Sign m l h = (refl, sign_first b bytes m l h)
    others Text m l h = absurd h
    others Other m l h = absurd h

    two : is_double b bytes ≡ true → (2 ≤ suc (length bytes)) × Spells Sign (take 2 (b ∷ bytes))
    two = of bytes
      where
        of : (bs : List ℕ) → is_double b bs ≡ true → (2 ≤ suc (length bs)) × Spells Sign (take 2 (b ∷ bs))
        of [] e = cc
        of (d ∷ bs) e = (omega arith, e)

    at_double : is_double b bytes ≡ true → IsOnly Sign 2 (b ∷ bytes)
    at_double e = let p = two e in record { some = omega arith; within = p.0; spelled = p.1; only = only }
      where
        short : (m : ℕ) → ((m ≡ 1) × (is_single b ≡ true)) ⊎ ((m ≡ 2) × (is_double b bytes ≡ true)) → m ≤ 2
        short m (inl k) = omega arith
        short m (inr k) = omega arith

        only : (other : TokenKind) (m : ℕ) → m ≤ suc (length bytes) → Spells other (take m (b ∷ bytes)) → (other ≡ Sign) × (m ≤ 2)
        only other m l h = let q = others other m l h in (q.0, short m q.1)

    at_single : is_double b bytes ≡ false → is_single b ≡ true → IsOnly Sign 1 (b ∷ bytes)
    at_single d e = record { some = omega arith; within = omega arith; spelled = e; only = only }
      where
        short : (m : ℕ) → ((m ≡ 1) × (is_single b ≡ true)) ⊎ ((m ≡ 2) × (is_double b bytes ≡ true)) → m ≤ 1
        short m (inl k) = omega arith
        short m (inr k) = absurd (both_ways (is_double b bytes) d k.1)

        only : (other : TokenKind) (m : ℕ) → m ≤ suc (length bytes) → Spells other (take m (b ∷ bytes)) → (other ≡ Sign) × (m ≤ 1)
        only other m l h = let q = others other m l h in (q.0, short m q.1)

    at_none : is_double b bytes ≡ false → is_single b ≡ false → BeginsNone (b ∷ bytes)
    at_none d e kind m l h = by_cases (others kind m l h).1
      where
        by_cases : ((m ≡ 1) × (is_single b ≡ true)) ⊎ ((m ≡ 2) × (is_double b bytes ≡ true)) → ⊥
        by_cases (inl k) = both_ways (is_single b) e k.1
        by_cases (inr k) = both_ways (is_double b bytes) d k.1

  by_tests : (s c n d x : Bool) → is_small b ≡ s → is_capital b ≡ c → is_number ≡ n → is_double b bytes ≡ d → is_single b ≡ x
      → Finds (b ∷ bytes) (cond s (Some (Name, suc (tail_length is_small bytes))) (cond c (Some (Keyword, suc (tail_length is_capital bytes)))
      (cond n (Some (Number, number_length (b ∷ bytes))) (cond d (Some (Sign, 2)) (cond x (Some (Sign, 1)) None)))))
  by_tests true c n d x es ec en ed ex = at_small es
  by_tests false true n d x es ec en ed ex = at_capital ec
  by_tests false false true d x es ec en ed ex = at_number en
  by_tests false false false true x es ec en ed ex = at_double es ec en ed
  by_tests false false false false true es ec en ed ex = at_single es ec en ed ex
  by_tests false false false false false es ec en ed ex = at_none es ec en ed ex

pub finds : (bytes : List ℕ) → Finds bytes (word_in_front bytes)
unfolding word_in_front
finds [] = none
  where
    none : BeginsNone []
    none Name zero l h = h
    none Name (suc n) l h = h
    none Keyword zero l h = h
    none Keyword (suc n) l h = h
    none Number zero l h = no_number h
    none Number (suc n) l h = no_number h
    none Sign zero l h = h
    none Sign (suc n) l h = h
    none Text n l h = h
    none Other n l h = h
finds (b ∷ bytes) = by_tests b bytes (is_small b) (is_capital b) (is_digit b || begins_decimals (b ∷ bytes)) (is_double b bytes) (is_single b) refl refl refl refl refl

pub longest_in_front : (bytes : List ℕ) (w : TokenKind × ℕ) → word_in_front bytes ≡ Some w → IsLongest w.0 w.1 bytes × (0 < w.1)
longest_in_front bytes w e = let q : IsOnly w.0 w.1 bytes = subst (Finds bytes) e (finds bytes) in
    (record { within = q.within; spelled = q.spelled; longest = λ other m l h. (q.only other m l h).1 }, q.some)

pub none_in_front : (bytes : List ℕ) → word_in_front bytes ≡ None → BeginsNone bytes
none_in_front bytes e = subst (Finds bytes) e (finds bytes)

pub in_front : (kind : TokenKind) (n : ℕ) (bytes : List ℕ) → IsLongest kind n bytes → word_in_front bytes ≡ Some (kind, n)
in_front kind n bytes q = by_found (word_in_front bytes) refl
  where
    by_found : (found : Option (TokenKind × ℕ)) → word_in_front bytes ≡ found → word_in_front bytes ≡ Some (kind, n)
    by_found None e = absurd (none_in_front bytes e kind n q.within q.spelled)
    by_found (Some w) e = let r : IsOnly w.0 w.1 bytes = subst (Finds bytes) e (finds bytes) in
        let k : kind ≡ w.0 = (r.only kind n q.within q.spelled).0 in
        let most : n ≤ w.1 = (r.only kind n q.within q.spelled).1 in
        let least : w.1 ≤ n = q.longest w.0 w.1 r.within r.spelled in
        let m : n ≡ w.1 = omega arith in
        e ∙ ap (λ x. Some (x, w.1)) (sym k) ∙ ap (λ x. Some (kind, x)) (sym m)

pub none_from_none : (bytes : List ℕ) → BeginsNone bytes → word_in_front bytes ≡ None
none_from_none bytes h = by_found (word_in_front bytes) refl
  where
    by_found : (found : Option (TokenKind × ℕ)) → word_in_front bytes ≡ found → word_in_front bytes ≡ None
    by_found None e = e
    by_found (Some w) e = let r : IsOnly w.0 w.1 bytes = subst (Finds bytes) e (finds bytes) in absurd (h w.0 w.1 r.within r.spelled)
