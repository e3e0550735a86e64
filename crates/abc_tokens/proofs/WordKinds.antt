-- The bytes of a token are those of its kind.
use Rattle.std.proofs.Common.{◌≡◌, ℕ, zero, suc, ◌+◌, ◌-◌, true, false, ◌&&◌, List, [], ◌∷◌, length, take, drop, Option, Some, None, refl, sym, ap, ◌∙◌, subst, arith, length-drop, eqb-true}
use Rattle.std.specs.Prelude.{All, ◌==◌, slice_range}
use Rattle.std.specs.List.{list_all}
use Rattle.std.proofs.lemmas.Bool.{and_parts, eq-eqb}
use Rattle.std.proofs.lemmas.List.{take_all}
use Rattle.std.proofs.lemmas.List.Elements.{All-nil, All-cons}
use Rattle.abc_tokens.specs.declared.kinds.Token.{Token}
use Rattle.abc_tokens.specs.declared.kinds.TokenKind.{TokenKind}
use Rattle.abc_tokens.specs.declared.kinds.TokenKind.TheVariants.{Name, Keyword, Number, Text, Sign, Other}
use Rattle.abc_tokens.specs.Bytes.{is_character, is_small, is_capital}
use Rattle.abc_tokens.specs.Words.{IsWord, IsLongest, Spells}
use Rattle.abc_tokens.specs.Texts.{IsText}
use Rattle.abc_tokens.specs.Scanned.{word_in_front}
use Rattle.abc_tokens.specs.Shape.{spelling}
use Rattle.abc_tokens.specs.Kinds.{IsOfKind, IsSpelledSo, is_token, is_name_kind, is_keyword_kind, is_name, is_keyword}
use Rattle.abc_tokens.specs.Tokens.{place, token, Tokens, none, comment, blank, word, text, other, open_text, AreTokens, has_characters}
use Rattle.abc_tokens.proofs.InFront.{in_front, longest_in_front}
use Rattle.abc_tokens.proofs.LongestTexts.{longest_text}
use Rattle.abc_tokens.proofs.Placed.{IsSuffix, suffix_drop, taken, whole_suffix}
use Rattle.abc_tokens.proofs.TextLaws.{closes_ends}

-- ---- names and keywords that are computed

-- all bytes spell this, so they are the longest in front
whole_longest : (k : TokenKind) (bytes : List ℕ) → Spells k bytes → IsLongest k (length bytes) bytes
whole_longest k bytes h = record { within = omega arith; spelled = subst (Spells k) (sym (take_all (length bytes) bytes (omega arith))) h; longest = λ other m l s. l }

whole_word : (k : TokenKind) (bytes : List ℕ) → Spells k bytes → word_in_front bytes ≡ Some (k, length bytes)
whole_word k bytes h = in_front k (length bytes) bytes (whole_longest k bytes h)

pub name_found : (bytes : List ℕ) → IsWord is_small bytes → is_name bytes ≡ true
name_found bytes h = ap (λ x. is_token x is_name_kind (length bytes)) (whole_word Name bytes h) ∙ eq-eqb (length bytes) (length bytes) refl

pub keyword_found : (bytes : List ℕ) → IsWord is_capital bytes → is_keyword bytes ≡ true
keyword_found bytes h = ap (λ x. is_token x is_keyword_kind (length bytes)) (whole_word Keyword bytes h) ∙ eq-eqb (length bytes) (length bytes) refl

-- the word in front, which takes all bytes, is spelled by them
word_told : (bytes : List ℕ) (k : TokenKind) (n : ℕ) → word_in_front bytes ≡ Some (k, n) → (n == length bytes) ≡ true → Spells k bytes
word_told bytes k n e l =
    let q : IsLongest k n bytes = (longest_in_front bytes (k, n) e).0 in
    subst (Spells k) (take_all n bytes (let m = eqb-true n (length bytes) l in omega arith)) q.spelled

pub name_told : (bytes : List ℕ) → is_name bytes ≡ true → IsWord is_small bytes
name_told bytes h = by_found (word_in_front bytes) refl h
  where
    by_found : (x : Option (TokenKind × ℕ)) → word_in_front bytes ≡ x → is_token x is_name_kind (length bytes) ≡ true → IsWord is_small bytes
    by_found None e t = cc
    by_found (Some (Name, n)) e t = word_told bytes Name n e t
    by_found (Some (Keyword, n)) e t = cc
    by_found (Some (Number, n)) e t = cc
    by_found (Some (Text, n)) e t = cc
    by_found (Some (Sign, n)) e t = cc
    by_found (Some (Other, n)) e t = cc

pub keyword_told : (bytes : List ℕ) → is_keyword bytes ≡ true → IsWord is_capital bytes
keyword_told bytes h = by_found (word_in_front bytes) refl h
  where
    by_found : (x : Option (TokenKind × ℕ)) → word_in_front bytes ≡ x → is_token x is_keyword_kind (length bytes) ≡ true → IsWord is_capital bytes
    by_found None e t = cc
    by_found (Some (Keyword, n)) e t = word_told bytes Keyword n e t
    by_found (Some (Name, n)) e t = cc
    by_found (Some (Number, n)) e t = cc
    by_found (Some (Text, n)) e t = cc
    by_found (Some (Sign, n)) e t = cc
    by_found (Some (Other, n)) e t = cc

-- ---- the tokens of a line

-- what spells a kind is of that kind
of_kind : (k : TokenKind) (bytes : List ℕ) → Spells k bytes → IsOfKind k bytes
of_kind Name bytes h = h
of_kind Keyword bytes h = h
of_kind Number bytes h = h
of_kind Sign bytes h = h
of_kind Text bytes h = absurd h
of_kind Other bytes h = absurd h

-- a part of characters is characters
drop_characters : (n : ℕ) (bytes : List ℕ) → list_all is_character bytes ≡ true → list_all is_character (drop n bytes) ≡ true
drop_characters zero bytes h = h
drop_characters (suc n) [] h = refl
drop_characters (suc n) (b ∷ bytes) h = drop_characters n bytes (and_parts (is_character b) (list_all is_character bytes) h).1

take_characters : (n : ℕ) (bytes : List ℕ) → list_all is_character bytes ≡ true → list_all is_character (take n bytes) ≡ true
take_characters zero bytes h = refl
take_characters (suc n) [] h = refl
take_characters (suc n) (b ∷ bytes) h =
    let p = and_parts (is_character b) (list_all is_character bytes) h in
    ap (λ x. x && list_all is_character (take n bytes)) p.0 ∙ take_characters n bytes p.1

module _ (line : List ℕ) (c : has_characters line ≡ true) where
  said : (t : Token) → IsOfKind t.kind (spelling line t) → IsSpelledSo line t
  said t k = record { kind = k; characters = take_characters (t.end - t.start) (drop t.start line) (drop_characters t.start line c) }

  spelled : {bytes : List ℕ} {ts : List Token} {ns : List (List ℕ)} → Tokens false (length line) bytes ts ns → IsSuffix line bytes → All (IsSpelledSo line) ts
  spelled none s = All-nil (IsSpelledSo line)
  spelled comment s = All-nil (IsSpelledSo line)
  spelled (blank {bytes = bytes} h) s = spelled h (suffix_drop line (_ ∷ bytes) 1 (omega arith) s)
  spelled (word {k = k} {n = n} {bytes = bytes} {ts = ts} l h) s =
      let t : Token = token k (place (length line) bytes) (place (length line) bytes + n) in
      All-cons (IsSpelledSo line) t ts (said t (of_kind k (spelling line t) (subst (Spells k) (sym (taken line bytes n s)) l.spelled)))
      (spelled h (suffix_drop line bytes n l.within s))
  spelled (text {q = q} {bytes = bytes} {rest = rest} {ts = ts} {ms = ms} e d h) s =
      let ends = closes_ends d in
      let size : length rest ≡ length bytes - ends.0 = ap length (sym ends.2) ∙ length-drop ends.0 bytes in
      let more : IsSuffix line rest = subst (IsSuffix line) ends.2 (suffix_drop line (q ∷ bytes) (suc ends.0) (omega (arith, ends.1)) s) in
      let n : ℕ = length (q ∷ bytes) - length rest in
      let end : place (length line) (q ∷ bytes) + n ≡ place (length line) rest = omega (arith, size, ends.1, s.short, more.short) in
      let t : Token = token Text (place (length line) (q ∷ bytes)) (place (length line) rest) in
      let here : spelling line t ≡ take n (q ∷ bytes) = ap (λ k. slice_range line (place (length line) (q ∷ bytes)) k) (sym end) ∙ taken line (q ∷ bytes) n s in
      All-cons (IsSpelledSo line) t ts (said t (subst IsText (sym here) (longest_text q bytes rest ms e d).spelled)) (spelled h more)
  spelled (other {b = b} {bytes = bytes} {ts = ts} n m u w h) s =
      let t : Token = token Other (place (length line) (b ∷ bytes)) (place (length line) (b ∷ bytes) + 1) in
      All-cons (IsSpelledSo line) t ts (said t (ap length (taken line (b ∷ bytes) 1 s))) (spelled h (suffix_drop line (b ∷ bytes) 1 (omega arith) s))
  spelled (open_text e u w) s = cc

pub spelled_line : (line : List ℕ) (ts : List Token) → AreTokens line ts → All (IsSpelledSo line) ts
spelled_line line ts are = spelled line are.characters are.found.1 (whole_suffix line)
