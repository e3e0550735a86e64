-- The steps of reading a line.
use Rattle.std.proofs.Common.{◌≡◌, ℕ, zero, suc, ◌+◌, ◌-◌, ◌≤◌, ◌<◌, ◌≢◌, Bool, true, false, ◌&&◌, cond, List, [], ◌∷◌, ◌++◌, length, take, drop, get_or, Some, None, refl, ap, sym, ◌∙◌, subst, arith, length-drop}
use Rattle.std.specs.Prelude.{◌==◌, if◌then◌else◌}
use Rattle.std.proofs.lemmas.Bool.{ne_eqb, eq-eqb}
use Rattle.std.proofs.lemmas.List.{drop-drop, drop_more, drop_all, append_assoc}
use Rattle.abc_tokens.specs.declared.kinds.Token.{Token}
use Rattle.abc_tokens.specs.declared.kinds.TokenKind.{TokenKind}
use Rattle.abc_tokens.specs.declared.kinds.TokenKind.TheVariants as kind
use Rattle.abc_tokens.specs.declared.scan.Read.{Read}
use Rattle.abc_tokens.specs.declared.texts.TextEnd.{TextEnd}
use Rattle.abc_tokens.specs.Bytes.{is_quote, space, backslash}
use Rattle.abc_tokens.specs.Words.{number_of}
use Rattle.abc_tokens.specs.Tokens.{place, token}
use Rattle.abc_tokens.specs.Scanned.{Found, onto, scanned, with_byte, with_text, with_word, word_in_front, text_ending}
use Rattle.abc_tokens.specs.inner.Steps.{Judges}
use Rattle.abc_tokens.specs.inner.Reading.{IsTextEnd}
use Rattle.abc_tokens.specs.inner.Reads.{found_from, IsStart, IsReadAt, prepended}
use Rattle.abc_tokens.proofs.Judging.{Judges-nil, Judges-append}

-- passing over bytes
pub scanned_skip : (loose : Bool) (len : ℕ) (bytes : List ℕ) (n : ℕ) → scanned loose len bytes n ≡ scanned loose len (drop n bytes) 0
unfolding scanned
scanned_skip loose len [] zero = refl
scanned_skip loose len [] (suc n) = refl
scanned_skip loose len (b ∷ bytes) zero = refl
scanned_skip loose len (b ∷ bytes) (suc n) = scanned_skip loose len bytes n

pub place_at : (line : List ℕ) (at : ℕ) → at ≤ length line → place (length line) (drop at line) ≡ at
place_at line at l = omega (arith, length-drop at line)

nothing : (loose : Bool) (len : ℕ) → scanned loose len [] 0 ≡ Some ([], [])
unfolding scanned
nothing loose len = refl

pub at_end : (loose : Bool) (line : List ℕ) (at : ℕ) → length line ≤ at → found_from loose line at ≡ Some ([], [])
at_end loose line at l = ap (λ bs. scanned loose (length line) bs 0) (drop_all at line l) ∙ nothing loose (length line)

module _ (loose : Bool) (line : List ℕ) (at : ℕ) (l : at < length line) where
  abbrev byte : ℕ
  byte = get_or line at 0

  abbrev rest : List ℕ
  rest = drop (at + 1) line

  at_byte : found_from loose line at ≡ with_byte loose (length line) (scanned loose (length line) rest) byte rest
  unfolding scanned
  at_byte = ap (λ bs. scanned loose (length line) bs 0) (drop_more line at 0 l)

  -- what a byte gives by the three tests
  abbrev table : (s c u : Bool) → Found
  table s c u = cond s (scanned loose (length line) rest 0) (cond c (Some ([], []))
      (cond u (with_text loose (length line) (scanned loose (length line) rest) (byte ∷ rest) (text_ending (byte ∷ rest)))
      (with_word loose (length line) (scanned loose (length line) rest) (byte ∷ rest) (word_in_front (byte ∷ rest)))))

  by_table : (s c u : Bool) → (byte == space) ≡ s → (byte == backslash) ≡ c → is_quote byte ≡ u → found_from loose line at ≡ table s c u
  by_table s c u es ec eu = at_byte ∙ ap (λ s. table s (byte == backslash) (is_quote byte)) es ∙ ap (λ c. table s c (is_quote byte)) ec ∙ ap (table s c) eu

  pub at_space : byte ≡ space → found_from loose line at ≡ found_from loose line (at + 1)
  at_space e = by_table true _ _ (eq-eqb byte space e) refl refl

  pub at_comment : byte ≡ backslash → found_from loose line at ≡ Some ([], [])
  at_comment e = by_table false true _ (subst (λ b. (b == space) ≡ false) (sym e) refl) (eq-eqb byte backslash e) refl

  -- where reading goes on behind a token that ends here
  behind : (end k : ℕ) → at + 1 + k ≡ end → scanned loose (length line) rest k ≡ found_from loose line end
  behind end k e = scanned_skip loose (length line) rest k ∙ ap (λ bs. scanned loose (length line) bs 0) (drop-drop k (at + 1) line ∙ ap (λ n. drop n line) e)

  here : byte ∷ rest ≡ drop at line
  here = sym (drop_more line at 0 l)

  starts : place (length line) (byte ∷ rest) ≡ at
  starts = ap (place (length line)) here ∙ place_at line at (omega arith)

  module _ (s : byte ≢ space) (c : byte ≢ backslash) where
    pub at_text : is_quote byte ≡ true → (end : ℕ) (ns : List (List ℕ)) → at < end → end ≤ length line → text_ending (drop at line) ≡ Some (drop end line, ns)
        → found_from loose line at ≡ onto (token kind.Text at end) ns (found_from loose line end)
    at_text u end ns f w e =
        by_table false false true (ne_eqb byte space s) (ne_eqb byte backslash c) u
        ∙ ap (with_text loose (length line) (scanned loose (length line) rest) (byte ∷ rest)) (ap text_ending here ∙ e)
        ∙ ap (λ p. onto (token kind.Text p (place (length line) (drop end line))) ns (scanned loose (length line) rest (length (byte ∷ rest) - 1 - length (drop end line)))) starts
        ∙ ap (λ p. onto (token kind.Text at p) ns (scanned loose (length line) rest (length (byte ∷ rest) - 1 - length (drop end line)))) (place_at line end w)
        ∙ ap (onto (token kind.Text at end) ns) (behind end (length (byte ∷ rest) - 1 - length (drop end line)) size)
      where
        size : at + 1 + (length (byte ∷ rest) - 1 - length (drop end line)) ≡ end
        size = let x = length-drop end line in let y = length-drop (at + 1) line in omega arith

    pub at_open : is_quote byte ≡ true → text_ending (drop at line) ≡ None
        → found_from loose line at ≡ (if loose then Some (token kind.Text at (length line) ∷ [], []) else None)
    at_open u e =
        by_table false false true (ne_eqb byte space s) (ne_eqb byte backslash c) u
        ∙ ap (with_text loose (length line) (scanned loose (length line) rest) (byte ∷ rest)) (ap text_ending here ∙ e)
        ∙ ap (λ p. if loose then Some (token kind.Text p (length line) ∷ [], []) else None) starts

    pub at_word : is_quote byte ≡ false → (k : TokenKind) (n : ℕ) → 0 < n → word_in_front (drop at line) ≡ Some (k, n)
        → found_from loose line at ≡ onto (token k at (at + n)) (number_of k (take n (drop at line))) (found_from loose line (at + n))
    at_word u k n p e =
        by_table false false false (ne_eqb byte space s) (ne_eqb byte backslash c) u
        ∙ ap (with_word loose (length line) (scanned loose (length line) rest) (byte ∷ rest)) (ap word_in_front here ∙ e)
        ∙ ap (λ q. onto (token k q (q + n)) (number_of k (take n (byte ∷ rest))) (scanned loose (length line) rest (n - 1))) starts
        ∙ ap (λ bs. onto (token k at (at + n)) (number_of k (take n bs)) (scanned loose (length line) rest (n - 1))) here
        ∙ ap (onto (token k at (at + n)) (number_of k (take n (drop at line)))) (behind (at + n) (n - 1) (omega arith))

    pub at_other : is_quote byte ≡ false → word_in_front (drop at line) ≡ None
        → found_from loose line at ≡ onto (token kind.Other at (at + 1)) [] (found_from loose line (at + 1))
    at_other u e =
        by_table false false false (ne_eqb byte space s) (ne_eqb byte backslash c) u
        ∙ ap (with_word loose (length line) (scanned loose (length line) rest) (byte ∷ rest)) (ap word_in_front here ∙ e)
        ∙ ap (λ q. onto (token kind.Other q (q + 1)) [] (found_from loose line (at + 1))) starts

-- the read that a word gives
pub read_word : (line bytes : List ℕ) (start : ℕ) (read : Read) (k : TokenKind) (n : ℕ) → bytes ≡ drop start line → start < length line
    → get_or line start 0 ≢ space → get_or line start 0 ≢ backslash → is_quote (get_or line start 0) ≡ false
    → Some (k, n) ≡ word_in_front bytes → 0 < n → n ≤ length bytes → read.token ≡ token k start (start + n) → Judges read.sound (number_of k (take n bytes))
    → IsReadAt line start read
read_word line bytes start read k n e l s c u w p m t j =
    let size : length bytes ≡ length line - start = ap length e ∙ length-drop start line in
    let end : read.token.end ≡ start + n = ap (λ t. t.end) t in
    let word : word_in_front (drop start line) ≡ Some (k, n) = ap word_in_front (sym e) ∙ sym w in
    record {
      starts = ap (λ t. t.start) t;
      further = omega arith;
      within = omega arith;
      found = (
        number_of k (take n bytes),
        j,
        λ loose.
            at_word loose line start l s c u k n p word
            ∙ ap (λ bs. onto (token k start (start + n)) (number_of k (take n bs)) (found_from loose line (start + n))) (sym e)
            ∙ ap (λ x. onto (token k start (start + n)) (number_of k (take n bytes)) (found_from loose line x)) (sym end)
            ∙ ap (λ x. onto x (number_of k (take n bytes)) (found_from loose line read.token.end)) (sym t),
      );
    }

pub read_other : (line bytes : List ℕ) (start : ℕ) (read : Read) → bytes ≡ drop start line → start < length line
    → get_or line start 0 ≢ space → get_or line start 0 ≢ backslash → is_quote (get_or line start 0) ≡ false
    → None ≡ word_in_front bytes → read.token ≡ token kind.Other start (start + 1) → read.sound ≡ true → IsReadAt line start read
read_other line bytes start read e l s c u w t j =
    let end : read.token.end ≡ start + 1 = ap (λ t. t.end) t in
    let word : word_in_front (drop start line) ≡ None = ap word_in_front (sym e) ∙ sym w in
    record {
      starts = ap (λ t. t.start) t;
      further = omega arith;
      within = omega arith;
      found = (
        [],
        subst (λ b. Judges b []) (sym j) Judges-nil,
        λ loose.
            at_other loose line start l s c u word
            ∙ ap (λ x. onto (token kind.Other start (start + 1)) [] (found_from loose line x)) (sym end)
            ∙ ap (λ x. onto x [] (found_from loose line read.token.end)) (sym t),
      );
    }

pub read_text : (line : List ℕ) (start : ℕ) (read : Read) (end : TextEnd) → start < length line
    → get_or line start 0 ≢ space → get_or line start 0 ≢ backslash → is_quote (get_or line start 0) ≡ true
    → IsTextEnd line start end → read.token ≡ token kind.Text start end.end → read.sound ≡ end.sound → IsReadAt line start read
read_text line start read end l s c u h t j =
    let e : read.token.end ≡ end.end = ap (λ t. t.end) t in
    let f : start < end.end = h.further in
    let w : end.end ≤ length line = h.within in
    record {
      starts = ap (λ t. t.start) t;
      further = omega arith;
      within = omega arith;
      found = (
        h.found.0,
        subst (λ b. Judges b h.found.0) (sym j) h.found.1,
        λ loose.
            at_text loose line start l s c u end.end h.found.0 f w h.found.2
            ∙ ap (λ x. onto (token kind.Text start end.end) h.found.0 (found_from loose line x)) (sym e)
            ∙ ap (λ x. onto x h.found.0 (found_from loose line read.token.end)) (sym t),
      );
    }

-- the tokens so far, before those that are found from here on
pub record HasScanned (line : List ℕ) (ts : List Token) (sound : Bool) (at : ℕ) : Type 0 where
  pub within : at ≤ length line
  pub same : (ns : List (List ℕ)) × Judges sound ns × (found_from false line 0 ≡ prepended ts ns (found_from false line at))

pub prepended-nil : (found : Found) → prepended [] [] found ≡ found
prepended-nil None = refl
prepended-nil (Some found) = refl

pub prepended-onto : (ts : List Token) (t : Token) (ns ms : List (List ℕ)) (found : Found) → prepended ts ns (onto t ms found) ≡ prepended (ts ++ t ∷ []) (ns ++ ms) found
prepended-onto ts t ns ms None = refl
prepended-onto ts t ns ms (Some found) =
    ap (λ us. Some (us, ns ++ (ms ++ found.1))) (sym (append_assoc ts (t ∷ []) found.0))
    ∙ ap (λ ls. Some ((ts ++ t ∷ []) ++ found.0, ls)) (sym (append_assoc ns ms found.1))

pub scan_on : (line : List ℕ) (ts new : List Token) (sound : Bool) (at start : ℕ) (read : Read) → HasScanned line ts sound at → IsStart line at start → IsReadAt line start read
    → new ≡ ts ++ read.token ∷ [] → HasScanned line new (sound && read.sound) read.token.end
scan_on line ts new sound at start read h s r e = record {
  within = r.within;
  same = (
    h.same.0 ++ r.found.0,
    Judges-append sound read.sound h.same.0 r.found.0 h.same.1 r.found.1,
    h.same.2 ∙ ap (prepended ts h.same.0) (s.same false ∙ r.found.2 false)
        ∙ prepended-onto ts read.token h.same.0 r.found.0 (found_from false line read.token.end)
        ∙ ap (λ us. prepended us (h.same.0 ++ r.found.0) (found_from false line read.token.end)) (sym e),
  );
}
