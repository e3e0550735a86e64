-- The tokens of a text are, as the grammar sees them, those of the text behind the spaces in front of it.
use Rattle.std.proofs.Common.{◌≡◌, ℕ, zero, suc, ◌+◌, ◌-◌, ◌≤◌, Bool, true, false, cond, List, [], ◌∷◌, ◌++◌, length, take, map, Option, Some, None, refl, ap, sym, ◌∙◌, subst, arith, length-drop, eqb-true}
use Rattle.std.specs.Prelude.{◌==◌, ◌||◌, Result, Ok, Err, if◌then◌else◌}
use Rattle.std.specs.List.{list_all}
use Rattle.std.proofs.lemmas.Bool.{and_parts}
use Rattle.abc_tokens.specs.declared.kinds.Token.{Token}
use Rattle.abc_tokens.specs.declared.kinds.TokenFault.{TokenFault}
use Rattle.abc_tokens.specs.declared.kinds.TokenFault.TheVariants.{BadByte, BadNumber}
use Rattle.abc_tokens.specs.declared.kinds.TokenKind.{TokenKind}
use Rattle.abc_tokens.specs.declared.kinds.TokenKind.TheVariants as kind
use Rattle.abc_tokens.specs.Bytes.{is_character, is_quote, space, backslash}
use Rattle.abc_tokens.specs.ReadLine.{judged, read_line}
use Rattle.abc_tokens.specs.Scanned.{Ending, Found, onto, scanned, with_text, with_word, text_ending, word_in_front}
use Rattle.abc_tokens.specs.Shape.{tab, text_of}
use Rattle.abc_tokens.specs.Tokens.{place, token, has_characters}
use Rattle.abc_tokens.specs.Values.{has_value}
use Rattle.abc_tokens.specs.Words.{number_of}
use Rattle.abc_tokens.proofs.Placed.{IsSuffix, suffix_drop, taken, whole_suffix}
use Rattle.abc_tokens.proofs.TextLaws.{text_closed, closes_ends}
use Rattle.abc_expressions.specs.Lexemes.{seen, lexeme_of}

-- ---- two lines that end with the same bytes

module _ (line line_2 : List ℕ) where
  abbrev SameSeen : Found → Found → Type 0
  SameSeen None None = Unit {0}
  SameSeen None (Some y) = ⊥
  SameSeen (Some x) None = ⊥
  SameSeen (Some x) (Some y) = (map (seen line) x.0 ≡ map (seen line_2) y.0) × (x.1 ≡ y.1)

  onto_same : (t u : Token) (ms : List (List ℕ)) (f g : Found) → seen line t ≡ seen line_2 u → SameSeen f g → SameSeen (onto t ms f) (onto u ms g)
  onto_same t u ms None None e h = tt
  onto_same t u ms None (Some y) e h = h
  onto_same t u ms (Some x) None e h = h
  onto_same t u ms (Some x) (Some y) e h = (ap (λ l. l ∷ map (seen line) x.0) e ∙ ap (λ ls. seen line_2 u ∷ ls) h.0, ap (λ ns. ms ++ ns) h.1)

  abbrev Len : ℕ
  Len = length line

  abbrev Len_2 : ℕ
  Len_2 = length line_2

  module _ (b : ℕ) (bytes : List ℕ) (s : IsSuffix line (b ∷ bytes)) (s_2 : IsSuffix line_2 (b ∷ bytes)) (next next_2 : ℕ → Found) (ih : (k : ℕ) → SameSeen (next k) (next_2 k)) where
    abbrev here : List ℕ
    here = b ∷ bytes

    -- a token of so many bytes
    seen_same : (k : TokenKind) (n : ℕ) → seen line (token k (place Len here) (place Len here + n)) ≡ seen line_2 (token k (place Len_2 here) (place Len_2 here + n))
    seen_same k n = ap (lexeme_of k) (taken line here n s ∙ sym (taken line_2 here n s_2))

    words_same : (w : Option (TokenKind × ℕ)) → SameSeen (with_word false Len next here w) (with_word false Len_2 next_2 here w)
    words_same None =
        onto_same (token kind.Other (place Len here) (place Len here + 1)) (token kind.Other (place Len_2 here) (place Len_2 here + 1)) [] (next 0) (next_2 0) refl (ih 0)
    words_same (Some w) =
        onto_same (token w.0 (place Len here) (place Len here + w.1)) (token w.0 (place Len_2 here) (place Len_2 here + w.1)) (number_of w.0 (take w.1 here)) (next (w.1 - 1)) (next_2 (w.1 - 1))
        (seen_same w.0 w.1) (ih (w.1 - 1))

    -- the token up to the rest has as many bytes in both
    ends_at : (n : ℕ) (rest : List ℕ) → length rest ≤ length here → length here ≤ n → place n here + (length here - length rest) ≡ place n rest
    ends_at n rest l m = omega (arith, l, m)

    texts_same : (end : Ending) → text_ending here ≡ end → SameSeen (with_text false Len next here end) (with_text false Len_2 next_2 here end)
    texts_same None e = tt
    texts_same (Some end) e =
        let ends = closes_ends (text_closed b bytes end.0 end.1 e) in
        let size : length end.0 ≡ length bytes - ends.0 = ap length (sym ends.2) ∙ length-drop ends.0 bytes in
        let short : length end.0 ≤ length here = omega (arith, size) in
        let n : ℕ = length here - length end.0 in
        let t : Token = token kind.Text (place Len here) (place Len end.0) in
        let u : Token = token kind.Text (place Len_2 here) (place Len_2 end.0) in
        let same : seen line t ≡ seen line_2 u =
        ap (λ k. seen line (token kind.Text (place Len here) k)) (sym (ends_at Len end.0 short s.short)) ∙ seen_same kind.Text n
        ∙ ap (λ k. seen line_2 (token kind.Text (place Len_2 here) k)) (ends_at Len_2 end.0 short s_2.short) in
        onto_same t u end.1 (next (length here - 1 - length end.0)) (next_2 (length here - 1 - length end.0)) same (ih (length here - 1 - length end.0))

    table_same : (x c u : Bool)
        → SameSeen (cond x (next 0) (cond c (Some ([], [])) (cond u (with_text false Len next here (text_ending here)) (with_word false Len next here (word_in_front here)))))
        (cond x (next_2 0) (cond c (Some ([], [])) (cond u (with_text false Len_2 next_2 here (text_ending here)) (with_word false Len_2 next_2 here (word_in_front here)))))
    table_same true c u = ih 0
    table_same false true u = (refl, refl)
    table_same false false true = texts_same (text_ending here) refl
    table_same false false false = words_same (word_in_front here)

  -- bytes at the end of both have the same tokens
  scan_same : (bytes : List ℕ) (skip : ℕ) → IsSuffix line bytes → IsSuffix line_2 bytes → SameSeen (scanned false Len bytes skip) (scanned false Len_2 bytes skip)
  unfolding scanned
  scan_same [] skip s s_2 = (refl, refl)
  scan_same (b ∷ bytes) (suc skip) s s_2 = scan_same bytes skip (suffix_drop line (b ∷ bytes) 1 (omega arith) s) (suffix_drop line_2 (b ∷ bytes) 1 (omega arith) s_2)
  scan_same (b ∷ bytes) zero s s_2 =
      table_same b bytes s s_2 (scanned false Len bytes) (scanned false Len_2 bytes)
      (λ k. scan_same bytes k (suffix_drop line (b ∷ bytes) 1 (omega arith) s) (suffix_drop line_2 (b ∷ bytes) 1 (omega arith) s_2))
      (b == space) (b == backslash) (is_quote b)

-- ---- a text without the spaces in front

-- what is left of the text has its tokens
record IsUnled (line text : List ℕ) : Type 0 where
  suffix : IsSuffix line (text_of text)
  characters : has_characters (text_of text) ≡ true
  same : scanned false (length line) text 0 ≡ scanned false (length line) (text_of text) 0

module _ (line : List ℕ) (b : ℕ) (bytes : List ℕ) where
  -- what is left of a byte and others, where it is left out or not
  abbrev left : Bool → List ℕ
  left out = if out then text_of bytes else b ∷ bytes

  abbrev IsLeft : List ℕ → Type 0
  IsLeft rest = IsSuffix line rest × (has_characters rest ≡ true) × (scanned false (length line) (b ∷ bytes) 0 ≡ scanned false (length line) rest 0)

  closed : (out : Bool) → ((b == space) || (b == tab)) ≡ out → IsLeft (left out) → IsUnled line (b ∷ bytes)
  closed out e l = let m : IsLeft (left ((b == space) || (b == tab))) = subst (λ x. IsLeft (left x)) (sym e) l in record { suffix = m.0; characters = m.1; same = m.2 }

  at_space : (b == space) ≡ true → scanned false (length line) (b ∷ bytes) 0 ≡ scanned false (length line) bytes 0
  unfolding scanned
  at_space e = ap (λ x. cond x (scanned false (length line) bytes 0) (cond (b == backslash) (Some ([], []))
      (cond (is_quote b) (with_text false (length line) (scanned false (length line) bytes) (b ∷ bytes) (text_ending (b ∷ bytes)))
      (with_word false (length line) (scanned false (length line) bytes) (b ∷ bytes) (word_in_front (b ∷ bytes)))))) e

  by_byte : IsSuffix line (b ∷ bytes) → has_characters (b ∷ bytes) ≡ true → IsUnled line bytes → (x y : Bool) → (b == space) ≡ x → (b == tab) ≡ y → IsUnled line (b ∷ bytes)
  by_byte s c later true y e f = closed true (ap (λ x. x || (b == tab)) e) (later.suffix, later.characters, at_space e ∙ later.same)
  by_byte s c later false true e f =
      let no_character : is_character b ≡ false = ap is_character (eqb-true b tab f) in
      let character = (and_parts (is_character b) (list_all is_character bytes) c).0 in cc
  by_byte s c later false false e f = closed false (ap (λ x. x || (b == tab)) e ∙ f) (s, c, refl)

unled : (line text : List ℕ) → IsSuffix line text → has_characters text ≡ true → IsUnled line text
unled line [] s c = record { suffix = s; characters = c; same = refl }
unled line (b ∷ bytes) s c =
    by_byte line b bytes s c (unled line bytes (suffix_drop line (b ∷ bytes) 1 (omega arith) s) (and_parts (is_character b) (list_all is_character bytes) c).1) (b == space) (b == tab) refl refl

-- a text has tokens where its end has the same
pub record IsReadUnled (text : List ℕ) (ts : List Token) : Type 0 where
  pub tokens : List Token
  pub read : ◌≡◌ {A = Result (List Token) TokenFault} (read_line (text_of text)) (Ok tokens)
  pub same : map (seen (text_of text)) tokens ≡ map (seen text) ts

module _ (text : List ℕ) (ts : List Token) where
  judged_unled : IsUnled text text → (x y : Found) → scanned false (length (text_of text)) (text_of text) 0 ≡ y → SameSeen text (text_of text) x y
      → judged x ≡ Ok ts → IsReadUnled text ts
  unfolding read_line
  judged_unled u None y f same h = cc
  judged_unled u (Some x) None f same h = absurd same
  judged_unled u (Some x) (Some y) f same h = by_values (list_all has_value x.1) refl h
    where
      by_values : (v : Bool) → list_all has_value x.1 ≡ v → (if v then Ok x.0 else Err BadNumber) ≡ Ok ts → IsReadUnled text ts
      by_values false e_2 h_2 = cc
      by_values true e_2 h_2 = record {
        tokens = y.0;
        read = ap (λ c. if c then judged (scanned false (length (text_of text)) (text_of text) 0) else Err BadByte) u.characters ∙ ap judged f
            ∙ ap (λ c. if c then Ok y.0 else Err BadNumber) (ap (list_all has_value) (sym same.1) ∙ e_2);
        same = sym same.0 ∙ ap (map (seen text)) (let p : x.0 ≡ ts = cc in p);
      }

  pub read_unled : read_line text ≡ Ok ts → IsReadUnled text ts
  unfolding read_line
  read_unled h = by_characters (has_characters text) refl h
    where
      by_characters : (c : Bool) → has_characters text ≡ c → (if c then judged (scanned false (length text) text 0) else Err BadByte) ≡ Ok ts → IsReadUnled text ts
      by_characters false e h_2 = cc
      by_characters true e h_2 =
          let u = unled text text (whole_suffix text) e in
          judged_unled u (scanned false (length text) (text_of text) 0) (scanned false (length (text_of text)) (text_of text) 0) refl
          (scan_same text (text_of text) (text_of text) 0 u.suffix (whole_suffix (text_of text))) (subst (λ x. judged x ≡ Ok ts) u.same h_2)
