-- What is seen of a token is how it is spelled.
use Rattle.std.proofs.Common.{◌≡◌, ◌≢◌, ℕ, suc, ◌+◌, Bool, true, false, List, [], ◌∷◌, length, take, Some, refl, ap, sym, ◌∙◌, subst, arith, eqb-true, inl, inr, rules}
use Rattle.std.specs.Prelude.{◌==◌, All, bytes_eq, codes, slice_index_or, if◌then◌else◌}
use Rattle.std.proofs.lemmas.Bool.{ne_eqb, eqb-false}
use Rattle.std.proofs.lemmas.Bool.Decides.{same_from_decides}
use Rattle.std.proofs.lemmas.List.Elements.{All-nil, All-cons, All-head}
use Rattle.std.proofs.lemmas.Slice.Eq.{bytes_eq-Decides}
use Rattle.abc_num.specs.Literal.{IsDigit, IsNumberToken}
use Rattle.abc_num.specs.Text.{text_eq}
use Rattle.abc_num.proofs.Texts.{text_eq-Decides}
use Rattle.abc_tokens.specs.declared.kinds.Token.{Token}
use Rattle.abc_tokens.specs.declared.kinds.TokenKind.{TokenKind}
use Rattle.abc_tokens.specs.declared.kinds.TokenKind.TheVariants as kind
use Rattle.abc_tokens.specs.Bytes.{is_small, is_capital}
use Rattle.abc_tokens.specs.Kinds.{IsOfKind, IsSpelledSo}
use Rattle.abc_tokens.specs.Shape as shape
use Rattle.abc_tokens.specs.Shape.{spelling, is_spelled}
use Rattle.abc_tokens.specs.Texts.{IsText}
use Rattle.abc_tokens.specs.Tokens.{place, token, Tokens, none, comment, blank, word, text, other, open_text, AreTokens}
use Rattle.abc_tokens.specs.Words.{IsWord, IsSign, Spells}
use Rattle.abc_tokens.proofs.Placed.{IsSuffix, suffix_drop, taken, whole_suffix}
use Rattle.abc_tokens.proofs.TextLaws.{closes_ends}
use Rattle.abc_expressions.specs.declared.signs.Sign.{Sign}
use Rattle.abc_expressions.specs.declared.signs.Sign.TheVariants as s
use Rattle.abc_expressions.specs.Lexemes.{seen, lexeme_of}
use Rattle.abc_expressions.specs.Signs.{single_sign, double_sign, sign_by}
use Rattle.abc_formula.specs.TestGrammar.{is_keyword}
use Rattle.abc_outline.specs.ByTokens.{names_refinement}
use Rattle.abc_outline.specs.Parts.{is_colon, is_colon_sign}

-- ---- words that a token of no other kind spells

never : (x w : List ℕ) → (x ≡ w → ⊥) → bytes_eq x w ≡ false
never x w differ = by_test (bytes_eq x w) refl
  where
    by_test : (b : Bool) → bytes_eq x w ≡ b → bytes_eq x w ≡ false
    by_test false e = e
    by_test true e = absurd (differ ((bytes_eq-Decides x w).0 e))

-- a number begins with a digit or a point
no_number : (b : ℕ) (bytes : List ℕ) → (IsDigit b → ⊥) → b ≢ 46 → IsNumberToken (b ∷ bytes) → ⊥
no_number b bytes d p (inl (some, all)) = d (All-head IsDigit b bytes all)
no_number b bytes d p (inr ([], decimals, e, all, more)) = p (cc)
no_number b bytes d p (inr (c ∷ whole, decimals, e, all, more)) = d (subst IsDigit (let f : c ≡ b = cc in f) (All-head IsDigit c whole all))

-- no token of another kind than a keyword is spelled so
record IsKeywordAlone (w : List ℕ) : Type 0 where
  no_name : IsWord is_small w → ⊥
  no_number : IsNumberToken w → ⊥
  no_text : IsText w → ⊥
  no_sign : IsSign w → ⊥
  long : length w ≢ 1

module _ (w : List ℕ) (is : IsKeywordAlone w) where
  keyword_seen : (k : TokenKind) (x : List ℕ) → IsOfKind k x → bytes_eq x w ≡ is_keyword w (lexeme_of k x)
  keyword_seen kind.Name x h = never x w (λ e. is.no_name (subst (IsWord is_small) e h))
  keyword_seen kind.Keyword x h = same_from_decides (bytes_eq x w) (text_eq x w) (bytes_eq-Decides x w) (text_eq-Decides x w)
  keyword_seen kind.Number x h = never x w (λ e. is.no_number (subst IsNumberToken e h))
  keyword_seen kind.Text x h = never x w (λ e. is.no_text (subst IsText e h))
  keyword_seen kind.Sign x h = never x w (λ e. is.no_sign (subst IsSign e h))
  keyword_seen kind.Other x h = never x w (λ e. is.long (ap length (sym e) ∙ h))

select_alone : IsKeywordAlone (codes "SELECT")
select_alone = record {
  no_name = λ h. let e = h.0 in cc;
  no_number = no_number 83 _ (λ d. omega (arith, d.1)) (λ e. omega (arith, e));
  no_text = λ h. let e = h.0 in cc;
  no_sign = λ h. h;
  long = λ e. omega (arith, e);
}

how_alone : IsKeywordAlone (codes "HOW")
how_alone = record {
  no_name = λ h. let e = h.0 in cc;
  no_number = no_number 72 _ (λ d. omega (arith, d.1)) (λ e. omega (arith, e));
  no_text = λ h. let e = h.0 in cc;
  no_sign = λ h. h;
  long = λ e. omega (arith, e);
}

to_alone : IsKeywordAlone (codes "TO")
to_alone = record {
  no_name = λ h. let e = h.0 in cc;
  no_number = no_number 84 _ (λ d. omega (arith, d.1)) (λ e. omega (arith, e));
  no_text = λ h. let e = h.0 in cc;
  no_sign = λ h. cc;
  long = λ e. omega (arith, e);
}

-- ---- the colon

-- a sign that is no colon before others
other_sign : (c : Bool) (sign rest : Sign) → is_colon_sign sign ≡ false → is_colon_sign rest ≡ false → is_colon_sign (if c then sign else rest) ≡ false
other_sign true sign rest e f = e
other_sign false sign rest e f = f

-- so is no double sign
double_other : (b c : ℕ) → is_colon_sign (double_sign b c) ≡ false
double_other b c = search (rules, other_sign)

-- a byte that is no colon before others
other_byte : (b n : ℕ) (sign rest : Sign) → is_colon_sign sign ≡ false → n ≢ 58 → is_colon_sign rest ≡ (b == 58) → is_colon_sign (if b == n then sign else rest) ≡ (b == 58)
other_byte b n sign rest e differ f = by_test (b == n) refl
  where
    by_test : (c : Bool) → (b == n) ≡ c → is_colon_sign (if c then sign else rest) ≡ (b == 58)
    by_test true h = e ∙ sym (ne_eqb b 58 (λ p. differ (sym (eqb-true b n h) ∙ p)))
    by_test false h = f

last_byte : (c : Bool) → is_colon_sign (if c then s.Colon else s.Other) ≡ c
last_byte true = refl
last_byte false = refl

single_colon : (b : ℕ) → is_colon_sign (single_sign b) ≡ (b == 58)
single_colon b = search (rules, other_byte, last_byte)

one_byte : (b : ℕ) → bytes_eq (b ∷ []) (codes ":") ≡ (b == 58)
one_byte b = by_test (b == 58) refl
  where
    by_test : (c : Bool) → (b == 58) ≡ c → bytes_eq (b ∷ []) (codes ":") ≡ (b == 58)
    by_test true e = subst (λ x. bytes_eq (x ∷ []) (codes ":") ≡ (x == 58)) (sym (eqb-true b 58 e)) refl
    by_test false e = never (b ∷ []) (codes ":") (λ h. let f : b ≡ 58 = cc in eqb-false b 58 e f) ∙ sym e

sign_colon : (x : List ℕ) → IsSign x → bytes_eq x (codes ":") ≡ is_colon_sign (sign_by x)
sign_colon [] h = absurd h
sign_colon (b ∷ []) h = one_byte b ∙ sym (single_colon b)
sign_colon (b ∷ c ∷ []) h = never (b ∷ c ∷ []) (codes ":") (λ e. cc) ∙ sym (double_other b c)
sign_colon (b ∷ c ∷ d ∷ bytes) h = absurd h

colon_seen : (k : TokenKind) (x : List ℕ) → IsOfKind k x → (k ≡ kind.Other → x ≢ codes ":") → bytes_eq x (codes ":") ≡ is_colon (lexeme_of k x)
colon_seen kind.Name x h o = never x (codes ":") (λ e. let p : IsWord is_small (codes ":") = subst (IsWord is_small) e h in let f = p.0 in cc)
colon_seen kind.Keyword x h o = never x (codes ":") (λ e. let p : IsWord is_capital (codes ":") = subst (IsWord is_capital) e h in let f = p.0 in cc)
colon_seen kind.Number x h o = never x (codes ":") (λ e. no_number 58 [] (λ d. omega (arith, d.1)) (λ f. omega (arith, f)) (subst IsNumberToken e h))
colon_seen kind.Text x h o = never x (codes ":") (λ e. let p : IsText (codes ":") = subst IsText e h in let f = p.0 in cc)
colon_seen kind.Sign x h o = sign_colon x h
colon_seen kind.Other x h o = never x (codes ":") (o refl)

-- a byte that begins no token is no colon
abbrev IsNoColon : List ℕ → Token → Type 0
IsNoColon line t = t.kind ≡ kind.Other → spelling line t ≢ codes ":"

others : (line : List ℕ) {bytes : List ℕ} {ts : List Token} {ns : List (List ℕ)} → Tokens false (length line) bytes ts ns → IsSuffix line bytes → All (IsNoColon line) ts
others line none s = All-nil (IsNoColon line)
others line comment s = All-nil (IsNoColon line)
others line (blank {bytes = bytes} h) s = others line h (suffix_drop line (_ ∷ bytes) 1 (omega arith) s)
others line (word {k = k} {n = n} {bytes = bytes} {ts = ts} l h) s =
    All-cons (IsNoColon line) (token k (place (length line) bytes) (place (length line) bytes + n)) ts
    (λ e. absurd (let P : TokenKind → Type 0 = λ z. Spells z (take n bytes) in subst P e l.spelled)) (others line h (suffix_drop line bytes n l.within s))
others line (text {q = q} {bytes = bytes} {rest = rest} {ts = ts} e c h) s =
    let ends = closes_ends c in
    let more : IsSuffix line rest = subst (IsSuffix line) ends.2 (suffix_drop line (q ∷ bytes) (suc ends.0) (omega (arith, ends.1)) s) in
    All-cons (IsNoColon line) (token kind.Text (place (length line) (q ∷ bytes)) (place (length line) rest)) ts (λ k. cc) (others line h more)
others line (other {b = b} {bytes = bytes} {ts = ts} n m u w h) s =
    All-cons (IsNoColon line) (token kind.Other (place (length line) (b ∷ bytes)) (place (length line) (b ∷ bytes) + 1)) ts
    (λ k e. let one : take 1 (b ∷ bytes) ≡ codes ":" = sym (taken line (b ∷ bytes) 1 s) ∙ e in
    let colon : IsSign (codes ":") = refl in
    w kind.Sign 1 (omega arith) (subst IsSign (sym one) colon))
    (others line h (suffix_drop line (b ∷ bytes) 1 (omega arith) s))
others line (open_text e u w) s = cc

-- ---- the tokens of a line

-- what is seen of a token is how it is spelled
pub record IsSeenSo (line : List ℕ) (t : Token) : Type 0 where
  pub colon : is_spelled line (Some t) (codes ":") ≡ is_colon (seen line t)
  pub select : is_spelled line (Some t) (codes "SELECT") ≡ is_keyword (codes "SELECT") (seen line t)
  pub how : is_spelled line (Some t) (codes "HOW") ≡ is_keyword (codes "HOW") (seen line t)
  pub to : is_spelled line (Some t) (codes "TO") ≡ is_keyword (codes "TO") (seen line t)

seen_so : (line : List ℕ) (t : Token) → IsSpelledSo line t → IsNoColon line t → IsSeenSo line t
seen_so line t is o = record {
  colon = colon_seen t.kind (spelling line t) is.kind o;
  select = keyword_seen (codes "SELECT") select_alone t.kind (spelling line t) is.kind;
  how = keyword_seen (codes "HOW") how_alone t.kind (spelling line t) is.kind;
  to = keyword_seen (codes "TO") to_alone t.kind (spelling line t) is.kind;
}

pub seen_line : (line : List ℕ) (ts : List Token) → All (IsSpelledSo line) ts → AreTokens line ts → All (IsSeenSo line) ts
seen_line line ts are h = λ k d l. seen_so line (slice_index_or ts k d) (are k d l) (others line h.found.1 (whole_suffix line) k d l)

name_kind : (k : TokenKind) (x : List ℕ) → shape.names_refinement x k ≡ names_refinement (lexeme_of k x)
name_kind kind.Name x = refl
name_kind kind.Keyword x = refl
name_kind kind.Number x = refl
name_kind kind.Text x = refl
name_kind kind.Sign x = refl
name_kind kind.Other x = refl

pub name_seen : (line : List ℕ) (t : Token) → shape.is_refinement line (Some t) ≡ names_refinement (seen line t)
name_seen line t = name_kind t.kind (spelling line t)
