-- Tokens are cut where they were put together, and what is cut was put together so.
use Rattle.std.proofs.Common.{◌≡◌, ℕ, suc, Bool, true, false, List, [], ◌∷◌, ◌++◌, length, take, drop, Option, Some, None, refl, ap, ◌∙◌}
use Rattle.std.specs.Prelude.{◌&&◌, option_map, if◌then◌else◌}
use Rattle.std.proofs.lemmas.Option.{same_Some}
use Rattle.abc_num.specs.Text.{text_eq}
use Rattle.abc_num.proofs.Texts.{text_eq-Decides}
use Rattle.abc_expressions.specs.declared.lexemes.Lexeme.{Lexeme}
use Rattle.abc_expressions.specs.declared.lexemes.Lexeme.TheVariants as t
use Rattle.abc_expressions.specs.declared.signs.Sign.{Sign}
use Rattle.abc_expressions.specs.declared.signs.Sign.TheVariants as s
use Rattle.abc_formula.specs.TestGrammar.{is_keyword}
use Rattle.abc_clauses.specs.Cuts.{Cut, cut_by, word_place, cut_at, cut_at_colon, is_colon, is_outside, open_behind, colon_place}
use Rattle.abc_clauses.proofs.Levels.{scan, IsLevel}
use Rattle.abc_clauses.proofs.Spans.{NoWords, is_word}

-- the token at the place behind the front is cut out
cut_behind : (front : List Lexeme) (token : Lexeme) (behind : List Lexeme) → cut_by (front ++ token ∷ behind) (Some (length front)) ≡ Some (front, behind)
cut_behind [] token behind = refl
cut_behind (first ∷ front) token behind =
    ap (option_map (λ (cut : Cut). (first ∷ cut.0, cut.1))) (cut_behind front token behind)

-- ---- keywords

no_word : (word : List ℕ) (token : Lexeme) → is_word token ≡ false → is_keyword word token ≡ false
no_word word (t.Keyword x) h = cc
no_word word (t.Name x) h = refl
no_word word (t.Sign sign) h = refl
no_word word (t.Number bytes) h = refl
no_word word (t.Text bytes) h = refl
no_word word t.Other h = refl

word_at : (word : List ℕ) (front : List Lexeme) (token : Lexeme) (behind : List Lexeme) → NoWords front → is_keyword word token ≡ true
    → word_place word (front ++ token ∷ behind) ≡ Some (length front)
word_at word [] token behind plain is = ap (λ b. if b then Some 0 else option_map suc (word_place word behind)) is
word_at word (first ∷ front) token behind plain is =
    ap (λ b. if b then Some 0 else option_map suc (word_place word (front ++ token ∷ behind))) (no_word word first plain.0)
    ∙ ap (option_map suc) (word_at word front token behind plain.1 is)

-- tokens without keywords before a keyword are cut there
pub cut_found : (word : List ℕ) (front : List Lexeme) (behind : List Lexeme) → NoWords front → text_eq word word ≡ true
    → cut_at word (front ++ t.Keyword word ∷ behind) ≡ Some (front, behind)
cut_found word front behind plain is =
    ap (cut_by (front ++ t.Keyword word ∷ behind)) (word_at word front (t.Keyword word) behind plain is) ∙ cut_behind front (t.Keyword word) behind

none_at : (word : List ℕ) (front : List Lexeme) (token : Lexeme) → NoWords front → is_keyword word token ≡ false → word_place word (front ++ token ∷ []) ≡ None
none_at word [] token plain is = ap (λ b. if b then Some 0 else None) is
none_at word (first ∷ front) token plain is =
    ap (λ b. if b then Some 0 else option_map suc (word_place word (front ++ token ∷ []))) (no_word word first plain.0)
    ∙ ap (option_map suc) (none_at word front token plain.1 is)

-- tokens without keywords before another token aren't cut
pub cut_none : (word : List ℕ) (front : List Lexeme) (token : Lexeme) → NoWords front → is_keyword word token ≡ false → cut_at word (front ++ token ∷ []) ≡ None
cut_none word front token plain is = ap (cut_by (front ++ token ∷ [])) (none_at word front token plain is)

keyword_told : (word : List ℕ) (token : Lexeme) → is_keyword word token ≡ true → token ≡ t.Keyword word
keyword_told word (t.Keyword x) h = ap t.Keyword ((text_eq-Decides x word).0 h)
keyword_told word (t.Name x) h = cc
keyword_told word (t.Sign sign) h = cc
keyword_told word (t.Number bytes) h = cc
keyword_told word (t.Text bytes) h = cc
keyword_told word t.Other h = cc

-- ---- a cut by a place that is found token by token: what is cut out is a mark

module _ (mark : Lexeme) (token : Lexeme) (ts : List Lexeme) (cut : Cut) where
  abbrev pub IsCutOut : Type 0
  IsCutOut = (token ∷ ts) ≡ cut.0 ++ mark ∷ cut.1

  cut_here : token ≡ mark → ([], ts) ≡ cut → IsCutOut
  cut_here is same = ap (λ x. x ∷ ts) is ∙ ap (λ (c : Cut). c.0 ++ mark ∷ c.1) same

  cut_later : (front behind : List Lexeme) → ts ≡ front ++ mark ∷ behind → (token ∷ front, behind) ≡ cut → IsCutOut
  cut_later front behind inner same = ap (λ us. token ∷ us) inner ∙ ap (λ (c : Cut). c.0 ++ mark ∷ c.1) same

  -- the mark is this token, or the first behind it
  pub step : (b : Bool) (q : Option ℕ) → (b ≡ true → token ≡ mark) → ((c : Cut) → cut_by ts q ≡ Some c → ts ≡ c.0 ++ mark ∷ c.1)
      → cut_by (token ∷ ts) (if b then Some 0 else option_map suc q) ≡ Some cut → IsCutOut
  step true q is later h = cut_here (is refl) (same_Some ([], ts) cut h)
  step false None is later h = cc
  step false (Some j) is later h = cut_later (take j ts) (drop (suc j) ts) (later (take j ts, drop (suc j) ts) refl) (same_Some (token ∷ take j ts, drop (suc j) ts) cut h)

-- what is cut at a keyword has it there
pub cut_told : (word : List ℕ) (ts : List Lexeme) (cut : Cut) → cut_at word ts ≡ Some cut → ts ≡ cut.0 ++ t.Keyword word ∷ cut.1
cut_told word [] cut h = cc
cut_told word (token ∷ ts) cut h =
    step (t.Keyword word) token ts cut (is_keyword word token) (word_place word ts) (keyword_told word token) (cut_told word ts) h

-- ---- colons

colon_later : (first : Lexeme) (us : List Lexeme) (n m : ℕ) (front : List Lexeme) (b : Bool) → (is_colon first && is_outside n) ≡ b
    → (scan (open_behind n first) front ≡ Some 0 → colon_place (open_behind n first) us ≡ Some m) → (if b then None else scan (open_behind n first) front) ≡ Some 0
    → colon_place n (first ∷ us) ≡ Some (suc m)
colon_later first us n m front true e later k = cc
colon_later first us n m front false e later k =
    ap (λ b. if b then Some 0 else option_map suc (colon_place (open_behind n first) us)) e ∙ ap (option_map suc) (later k)

colon_at : (front : List Lexeme) (behind : List Lexeme) (n : ℕ) → scan n front ≡ Some 0 → colon_place n (front ++ t.Sign s.Colon ∷ behind) ≡ Some (length front)
colon_at [] behind n h = ap (λ m. colon_place m (t.Sign s.Colon ∷ behind)) (same_Some n 0 h)
colon_at (first ∷ front) behind n h =
    colon_later first (front ++ t.Sign s.Colon ∷ behind) n (length front) front (is_colon first && is_outside n) refl (colon_at front behind (open_behind n first)) h

-- level tokens before a colon are cut there
pub colon_found : (front : List Lexeme) (behind : List Lexeme) → IsLevel front → cut_at_colon (front ++ t.Sign s.Colon ∷ behind) ≡ Some (front, behind)
colon_found front behind h =
    ap (cut_by (front ++ t.Sign s.Colon ∷ behind)) (colon_at front behind 0 h) ∙ cut_behind front (t.Sign s.Colon) behind

colon_is : (token : Lexeme) (n : ℕ) → (is_colon token && is_outside n) ≡ true → token ≡ t.Sign s.Colon
colon_is (t.Sign s.Colon) n h = refl
colon_is (t.Sign _) n h = cc
colon_is (t.Keyword x) n h = cc
colon_is (t.Name x) n h = cc
colon_is (t.Number bytes) n h = cc
colon_is (t.Text bytes) n h = cc
colon_is t.Other n h = cc

colon_cut : (n : ℕ) (ts : List Lexeme) (cut : Cut) → cut_by ts (colon_place n ts) ≡ Some cut → ts ≡ cut.0 ++ t.Sign s.Colon ∷ cut.1
colon_cut n [] cut h = cc
colon_cut n (token ∷ ts) cut h =
    step (t.Sign s.Colon) token ts cut (is_colon token && is_outside n) (colon_place (open_behind n token) ts) (colon_is token n) (colon_cut (open_behind n token) ts) h

-- what is cut at a colon has it there
pub colon_told : (ts : List Lexeme) (cut : Cut) → cut_at_colon ts ≡ Some cut → ts ≡ cut.0 ++ t.Sign s.Colon ∷ cut.1
colon_told ts cut h = colon_cut 0 ts cut h
