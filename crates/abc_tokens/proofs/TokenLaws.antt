-- The tokens that are computed are exactly the tokens of the line.
use Rattle.std.proofs.Common.{◌≡◌, ℕ, zero, suc, ◌+◌, ◌-◌, ◌<◌, Bool, true, false, cond, List, [], ◌∷◌, ◌++◌, length, take, drop, Option, Some, None, refl, ap, sym, ◌∙◌, subst, arith, length-drop, eqb-true}
use Rattle.std.specs.Prelude.{◌==◌, if◌then◌else◌}
use Rattle.std.proofs.lemmas.Bool.{ne_eqb, eqb-false}
use Rattle.std.proofs.lemmas.Option.{same_Some}
use Rattle.abc_tokens.specs.declared.kinds.Token.{Token}
use Rattle.abc_tokens.specs.declared.kinds.TokenKind.{TokenKind}
use Rattle.abc_tokens.specs.declared.kinds.TokenKind.TheVariants as kind
use Rattle.abc_tokens.specs.declared.kinds.TokenFault.{TokenFault}
use Rattle.abc_tokens.specs.declared.kinds.TokenFault.TheVariants.{BadByte, OpenText, BadNumber, Memory}
use Rattle.abc_tokens.specs.Bytes.{is_quote, space, backslash}
use Rattle.abc_tokens.specs.Words.{IsLongest, number_of}
use Rattle.abc_tokens.specs.Texts.{Closes}
use Rattle.abc_tokens.specs.Tokens.{place, token, Tokens, none, comment, blank, word, text, other, open_text, has_characters, AreTokens, HasBadNumber, HasFault}
use Rattle.abc_tokens.specs.Scanned.{Ending, Found, onto, scanned, with_text, with_word, word_in_front, text_ending}
use Rattle.abc_tokens.specs.inner.Reads.{IsScan, ScanFault}
use Rattle.abc_tokens.proofs.InFront.{in_front, none_from_none, longest_in_front, none_in_front}
use Rattle.abc_tokens.proofs.TextLaws.{text_read, text_closed, text_open, closes_ends, Ends, no_quote, no_bytes, word_no_space, word_no_comment, word_no_quote}
use Rattle.abc_tokens.proofs.TokenSteps.{scanned_skip}

module _ (loose : Bool) (len : ℕ) where
  -- what a byte gives by the three tests
  abbrev table : (b : ℕ) (bytes : List ℕ) (s c u : Bool) → Found
  table b bytes s c u = cond s (scanned loose len bytes 0) (cond c (Some ([], []))
      (cond u (with_text loose len (scanned loose len bytes) (b ∷ bytes) (text_ending (b ∷ bytes)))
      (with_word loose len (scanned loose len bytes) (b ∷ bytes) (word_in_front (b ∷ bytes)))))

  by_table : (b : ℕ) (bytes : List ℕ) (s c u : Bool) → (b == space) ≡ s → (b == backslash) ≡ c → is_quote b ≡ u → scanned loose len (b ∷ bytes) 0 ≡ table b bytes s c u
  unfolding scanned
  by_table b bytes s c u es ec eu = ap (λ s. table b bytes s (b == backslash) (is_quote b)) es ∙ ap (λ c. table b bytes s c (is_quote b)) ec ∙ ap (table b bytes s c) eu

  -- where reading goes on behind a text
  behind : (b : ℕ) (bytes rest : List ℕ) → Ends bytes rest → drop (length (b ∷ bytes) - 1 - length rest) bytes ≡ rest
  behind b bytes rest (k, l, e) =
      let size : length bytes - k ≡ length rest = sym (length-drop k bytes) ∙ ap length e in
      let n : length (b ∷ bytes) - 1 - length rest ≡ k = omega arith in
      ap (λ n. drop n bytes) n ∙ e

  past_text : (b : ℕ) (bytes rest : List ℕ) → Ends bytes rest → scanned loose len bytes (length (b ∷ bytes) - 1 - length rest) ≡ scanned loose len rest 0
  past_text b bytes rest e = scanned_skip loose len bytes (length (b ∷ bytes) - 1 - length rest) ∙ ap (λ bs. scanned loose len bs 0) (behind b bytes rest e)

  dropped : (b : ℕ) (bytes : List ℕ) (n : ℕ) → 0 < n → drop (n - 1) bytes ≡ drop n (b ∷ bytes)
  dropped b bytes zero p = absurd (omega arith)
  dropped b bytes (suc n) p = let z : suc n - 1 ≡ n = omega arith in ap (λ k. drop k bytes) z

  -- ---- the tokens are found

  found_word : (k : TokenKind) (n : ℕ) (bytes : List ℕ) (ts : List Token) (ns : List (List ℕ)) → IsLongest k n bytes → scanned loose len (drop n bytes) 0 ≡ Some (ts, ns)
      → scanned loose len bytes 0 ≡ Some (token k (place len bytes) (place len bytes + n) ∷ ts, number_of k (take n bytes) ++ ns)
  found_word k n [] ts ns l h = let e = in_front k n [] l in let z = no_bytes in cc
  found_word k n (b ∷ bytes) ts ns l h =
      let e = in_front k n (b ∷ bytes) l in
      let p = (longest_in_front (b ∷ bytes) (k, n) e).1 in
      by_table b bytes false false false (word_no_space b bytes (k, n) e) (word_no_comment b bytes (k, n) e) (word_no_quote b bytes (k, n) e)
      ∙ ap (with_word loose len (scanned loose len bytes) (b ∷ bytes)) e
      ∙ ap (onto (token k (place len (b ∷ bytes)) (place len (b ∷ bytes) + n)) (number_of k (take n (b ∷ bytes))))
      (scanned_skip loose len bytes (n - 1) ∙ ap (λ bs. scanned loose len bs 0) (dropped b bytes n p) ∙ h)

  found_open : (q : ℕ) (bytes : List ℕ) → loose ≡ true → is_quote q ≡ true → (found : Ending) → text_ending (q ∷ bytes) ≡ found
      → ((rest : List ℕ) (ns : List (List ℕ)) → ¬ (Closes q bytes rest ns))
      → with_text loose len (scanned loose len bytes) (q ∷ bytes) found ≡ Some (token kind.Text (place len (q ∷ bytes)) len ∷ [], [])
  found_open q bytes y u None e n = ap (λ x. if x then Some (token kind.Text (place len (q ∷ bytes)) len ∷ [], []) else None) y
  found_open q bytes y u (Some end) e n = absurd (n end.0 end.1 (text_closed q bytes end.0 end.1 e))

  pub found : {bytes : List ℕ} {ts : List Token} {ns : List (List ℕ)} → Tokens loose len bytes ts ns → scanned loose len bytes 0 ≡ Some (ts, ns)
  unfolding scanned
  found none = refl
  found comment = refl
  found (blank d) = found d
  found (word {k = k} {n = n} {bytes = bytes} {ts = ts} {ns = ns} l d) = found_word k n bytes ts ns l (found d)
  found (text {q = q} {bytes = bytes} {rest = rest} {ts = ts} {ms = ms} {ns = ns} u c d) =
      by_table q bytes false false true (no_quote (λ q. (q == space) ≡ false) refl refl q u) (no_quote (λ q. (q == backslash) ≡ false) refl refl q u) u
      ∙ ap (with_text loose len (scanned loose len bytes) (q ∷ bytes)) (text_read c u)
      ∙ ap (onto (token kind.Text (place len (q ∷ bytes)) (place len rest)) ms) (past_text q bytes rest (closes_ends c) ∙ found d)
  found (other {b = b} {bytes = bytes} s c u n d) =
      by_table b bytes false false false (ne_eqb b space s) (ne_eqb b backslash c) u
      ∙ ap (with_word loose len (scanned loose len bytes) (b ∷ bytes)) (none_from_none (b ∷ bytes) n)
      ∙ ap (onto (token kind.Other (place len (b ∷ bytes)) (place len (b ∷ bytes) + 1)) []) (found d)
  found (open_text {q = q} {bytes = bytes} y u n) =
      by_table q bytes false false true (no_quote (λ q. (q == space) ≡ false) refl refl q u) (no_quote (λ q. (q == backslash) ≡ false) refl refl q u) u
      ∙ found_open q bytes y u (text_ending (q ∷ bytes)) refl n

  -- ---- what is found are tokens

  abbrev Reads : List ℕ → Type 0
  Reads bytes = (skip : ℕ) (ts : List Token) (ns : List (List ℕ)) → scanned loose len bytes skip ≡ Some (ts, ns) → Tokens loose len (drop skip bytes) ts ns

  -- the same of what is found, whatever it is
  abbrev Holds : List ℕ → Found → Type 0
  Holds bytes None = Unit {0}
  Holds bytes (Some x) = Tokens loose len bytes x.0 x.1

  module _ (b : ℕ) (bytes : List ℕ) (ih : Reads bytes) where
    ih_holds : (skip : ℕ) (found : Found) → scanned loose len bytes skip ≡ found → Holds (drop skip bytes) found
    ih_holds skip None e = tt
    ih_holds skip (Some x) e = ih skip x.0 x.1 e

    onto_holds : (t : Token) (ms : List (List ℕ)) (here rest : List ℕ) (found : Found) → ((ts : List Token) (ns : List (List ℕ)) → Tokens loose len rest ts ns → Tokens loose len here (t ∷ ts) (ms ++ ns))
        → Holds rest found → Holds here (onto t ms found)
    onto_holds t ms here rest None f h = tt
    onto_holds t ms here rest (Some x) f h = f x.0 x.1 h

    word_holds : (b == space) ≡ false → (b == backslash) ≡ false → is_quote b ≡ false → (w : Option (TokenKind × ℕ)) → word_in_front (b ∷ bytes) ≡ w
        → Holds (b ∷ bytes) (with_word loose len (scanned loose len bytes) (b ∷ bytes) w)
    word_holds s c u None e = onto_holds (token kind.Other (place len (b ∷ bytes)) (place len (b ∷ bytes) + 1)) [] (b ∷ bytes) bytes (scanned loose len bytes 0)
        (λ ts ns d. other (eqb-false b space s) (eqb-false b backslash c) u (none_in_front (b ∷ bytes) e) d) (ih_holds 0 (scanned loose len bytes 0) refl)
    word_holds s c u (Some w) e = let l = longest_in_front (b ∷ bytes) w e in
        onto_holds (token w.0 (place len (b ∷ bytes)) (place len (b ∷ bytes) + w.1)) (number_of w.0 (take w.1 (b ∷ bytes))) (b ∷ bytes) (drop w.1 (b ∷ bytes)) (scanned loose len bytes (w.1 - 1))
        (λ ts ns d. word l.0 d)
        (subst (λ bs. Holds bs (scanned loose len bytes (w.1 - 1))) (dropped b bytes w.1 l.1) (ih_holds (w.1 - 1) (scanned loose len bytes (w.1 - 1)) refl))

    text_holds : is_quote b ≡ true → (end : Ending) → text_ending (b ∷ bytes) ≡ end → (y : Bool) → loose ≡ y → Holds (b ∷ bytes) (with_text loose len (scanned loose len bytes) (b ∷ bytes) end)
    text_holds u None e true y = subst (λ x. Holds (b ∷ bytes) (if x then Some (token kind.Text (place len (b ∷ bytes)) len ∷ [], []) else None)) (sym y) (open_text y u (text_open b bytes u e))
    text_holds u None e false y = subst (λ x. Holds (b ∷ bytes) (if x then Some (token kind.Text (place len (b ∷ bytes)) len ∷ [], []) else None)) (sym y) tt
    text_holds u (Some end) e y l =
        let d = text_closed b bytes end.0 end.1 e in
        let k = length (b ∷ bytes) - 1 - length end.0 in
        onto_holds (token kind.Text (place len (b ∷ bytes)) (place len end.0)) end.1 (b ∷ bytes) end.0 (scanned loose len bytes k)
        (λ ts ns t. text u d t)
        (subst (λ bs. Holds bs (scanned loose len bytes k)) (behind b bytes end.0 (closes_ends d)) (ih_holds k (scanned loose len bytes k) refl))

    table_holds : (s c u : Bool) → (b == space) ≡ s → (b == backslash) ≡ c → is_quote b ≡ u → Holds (b ∷ bytes) (table b bytes s c u)
    table_holds true c u es ec eu = spaced (scanned loose len bytes 0) (ih_holds 0 (scanned loose len bytes 0) refl)
      where
        spaced : (found : Found) → Holds bytes found → Holds (b ∷ bytes) found
        spaced None h = tt
        spaced (Some x) h = subst (λ d. Tokens loose len (d ∷ bytes) x.0 x.1) (sym (eqb-true b space es)) (blank h)
    table_holds false true u es ec eu = subst (λ d. Tokens loose len (d ∷ bytes) [] []) (sym (eqb-true b backslash ec)) comment
    table_holds false false true es ec eu = text_holds eu (text_ending (b ∷ bytes)) refl loose refl
    table_holds false false false es ec eu = word_holds es ec eu (word_in_front (b ∷ bytes)) refl

  nothing : (skip : ℕ) → Tokens loose len (drop skip []) [] []
  nothing zero = none
  nothing (suc skip) = none

  reads : (bytes : List ℕ) → Reads bytes
  unfolding scanned
  reads [] skip ts ns e = subst (Holds (drop skip [])) e (nothing skip)
  reads (b ∷ bytes) (suc skip) ts ns e = reads bytes skip ts ns e
  reads (b ∷ bytes) zero ts ns e = subst (Holds (b ∷ bytes)) e (table_holds b bytes (reads bytes) (b == space) (b == backslash) (is_quote b) refl refl refl)

  pub are_tokens : (bytes : List ℕ) (ts : List Token) (ns : List (List ℕ)) → scanned loose len bytes 0 ≡ Some (ts, ns) → Tokens loose len bytes ts ns
  are_tokens bytes ts ns e = reads bytes 0 ts ns e

-- ---- the answers for a line

pub answer_tokens : (line : List ℕ) (ts : List Token) → has_characters line ≡ true → IsScan line ts true → AreTokens line ts
answer_tokens line ts c s = record {
  characters = c;
  found = (s.0, are_tokens false (length line) line ts s.0 s.2, s.1);
  only = λ us ns d. ap (λ x. x.0) (same_Some _ _ (sym (found false (length line) d) ∙ s.2));
}

pub answer_fault : (line : List ℕ) (fault : TokenFault) → has_characters line ≡ true → ScanFault line fault → HasFault line fault
answer_fault line OpenText c s = record {
  characters = c;
  unread = λ ts ns d. let e : scanned false (length line) line 0 ≡ Some (ts, ns) = found false (length line) d in
      let f : scanned false (length line) line 0 ≡ None = s in cc;
}
answer_fault line Memory c s = tt
answer_fault line BadByte c s = absurd s
answer_fault line BadNumber c s = absurd s

pub answer_bad_number : (line : List ℕ) (ts : List Token) → has_characters line ≡ true → IsScan line ts false → HasBadNumber line
answer_bad_number line ts c s = record { characters = c; found = (ts, s.0, are_tokens false (length line) line ts s.0 s.2, s.1) }
