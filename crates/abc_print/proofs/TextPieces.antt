-- A text in quotes.
use Rattle.std.proofs.Common.{◌≡◌, ◌≢◌, ℕ, Bool, true, false, ◌||◌, cond, List, [], ◌∷◌, ◌++◌, length, Some, refl, sym, ap, ◌∙◌, subst, arith, eqb-true, length-append}
use Rattle.std.specs.Prelude.{◌==◌, ◌&&◌}
use Rattle.std.specs.List.{list_all, flat_map}
use Rattle.std.proofs.lemmas.List.{append_assoc}
use Rattle.std.proofs.lemmas.Bool.Decides.{nat_tests}
use Rattle.abc_value.specs.Regular.{IsCharacter, AreCharacters}
use Rattle.abc_value.specs.Printed.{doubled, quoted}
use Rattle.abc_value.specs.Tree.{text}
use Rattle.abc_value.proofs.printed.Characters.{characters-doubled}
use Rattle.abc_tokens.specs.declared.kinds.TokenKind.TheVariants as kind
use Rattle.abc_tokens.specs.Bytes.{is_character, is_digit, point, begins}
use Rattle.abc_tokens.specs.Scanned.{behind_text, ending}
use Rattle.abc_print.specs.declared.frames.Lexeme.TheVariants as lexeme
use Rattle.abc_print.specs.declared.lexing.Class.TheVariants as class
use Rattle.abc_print.specs.Lexemes.{IsClass, class_of, before, content}
use Rattle.abc_print.specs.Lexemes as lexemes
use Rattle.abc_print.proofs.Pieces.{Fits, IsPiece, text_seen, characters-append}

-- a quote and a backquote stand twice, any other character once
doubled_by : (c : ℕ) (x y : Bool) → (c == 34) ≡ x → (c == 96) ≡ y → doubled c ≡ cond (x || y) (c ∷ c ∷ []) (c ∷ [])
doubled_by c x y ex ey = ap (λ z. cond (z || (c == 96)) (c ∷ c ∷ []) (c ∷ [])) ex ∙ ap (λ z. cond (x || z) (c ∷ c ∷ []) (c ∷ [])) ey

-- the characters between the quotes, and the last quote
abbrev spelled : List ℕ → List ℕ
spelled b = flat_map doubled b ++ 34 ∷ []

-- ---- the reading ends behind the last quote

no_quote : (rest : List ℕ) → Fits rest → begins (λ c. c == 34) rest ≡ false
no_quote [] h = refl
no_quote (c ∷ rest) h = by_tests (is_digit c) (c == point) (c == 34) h
  where
    by_tests : (x y z : Bool) → (x || (y || z)) ≡ false → z ≡ false
    by_tests true y z h = cc
    by_tests false true z h = cc
    by_tests false false z h = h

at_end : (rest : List ℕ) → begins (λ c. c == 34) rest ≡ false → ending (34 ∷ rest) 0 true (34 ∷ []) [] ≡ Some (rest, [])
unfolding ending
at_end rest h = ap (λ z. cond z (ending rest 1 true (34 ∷ []) []) (behind_text (ending rest) rest [] [])) h

one_further : (c : ℕ) (rest : List ℕ) → (c == 34) ≡ false → (c == 96) ≡ false → ending (c ∷ rest) 0 true (34 ∷ []) [] ≡ ending rest 0 true (34 ∷ []) []
unfolding ending
one_further c rest x y = rw (x, y) refl

two_quotes : (rest : List ℕ) → ending (34 ∷ 34 ∷ rest) 0 true (34 ∷ []) [] ≡ ending rest 0 true (34 ∷ []) []
unfolding ending
two_quotes rest = refl

two_backquotes : (rest : List ℕ) → ending (96 ∷ 96 ∷ rest) 0 true (34 ∷ []) [] ≡ ending rest 0 true (34 ∷ []) []
unfolding ending
two_backquotes rest = refl

past_doubled : (c : ℕ) (rest : List ℕ) (x y : Bool) → (c == 34) ≡ x → (c == 96) ≡ y
    → ending (doubled c ++ rest) 0 true (34 ∷ []) [] ≡ ending rest 0 true (34 ∷ []) []
past_doubled c rest true y ex ey = subst (λ d. ending (doubled d ++ rest) 0 true (34 ∷ []) [] ≡ ending rest 0 true (34 ∷ []) []) (sym (eqb-true c 34 ex)) (two_quotes rest)
past_doubled c rest false true ex ey = subst (λ d. ending (doubled d ++ rest) 0 true (34 ∷ []) [] ≡ ending rest 0 true (34 ∷ []) []) (sym (eqb-true c 96 ey)) (two_backquotes rest)
past_doubled c rest false false ex ey = ap (λ z. ending (z ++ rest) 0 true (34 ∷ []) []) (doubled_by c false false ex ey) ∙ one_further c rest ex ey

ends : (b rest : List ℕ) → begins (λ c. c == 34) rest ≡ false → ending (spelled b ++ rest) 0 true (34 ∷ []) [] ≡ Some (rest, [])
ends [] rest h = at_end rest h
ends (c ∷ b) rest h =
    let split : spelled (c ∷ b) ++ rest ≡ doubled c ++ (spelled b ++ rest) =
    ap (λ z. z ++ rest) (append_assoc (doubled c) (flat_map doubled b) (34 ∷ [])) ∙ append_assoc (doubled c) (spelled b) rest in
    ap (λ z. ending z 0 true (34 ∷ []) []) split ∙ past_doubled c (spelled b ++ rest) (c == 34) (c == 96) refl refl ∙ ends b rest h

-- ---- the characters that are read

some_left : (b : List ℕ) → spelled b ≢ []
some_left b e = let none : length (spelled b) ≡ 0 = ap length e in absurd (omega (arith, length-append (flat_map doubled b) (34 ∷ [])))

once : (c : ℕ) (bytes : List ℕ) → bytes ≢ [] → (c == 34) ≡ false → (c == 96) ≡ false → content 34 (c ∷ bytes) ≡ before c (content 34 bytes)
once c [] h x y = absurd (h refl)
once c (d ∷ bytes) h x y = rw (x, y) refl

content_doubled : (c : ℕ) (bytes : List ℕ) (x y : Bool) → bytes ≢ [] → (c == 34) ≡ x → (c == 96) ≡ y → content 34 (doubled c ++ bytes) ≡ before c (content 34 bytes)
content_doubled c bytes true y h ex ey = subst (λ d. content 34 (doubled d ++ bytes) ≡ before d (content 34 bytes)) (sym (eqb-true c 34 ex)) refl
content_doubled c bytes false true h ex ey = subst (λ d. content 34 (doubled d ++ bytes) ≡ before d (content 34 bytes)) (sym (eqb-true c 96 ey)) refl
content_doubled c bytes false false h ex ey = ap (λ z. content 34 (z ++ bytes)) (doubled_by c false false ex ey) ∙ once c bytes h ex ey

content_is : (b : List ℕ) → content 34 (spelled b) ≡ Some b
content_is [] = refl
content_is (c ∷ b) =
    ap (content 34) (append_assoc (doubled c) (flat_map doubled b) (34 ∷ [])) ∙ content_doubled c (spelled b) (c == 34) (c == 96) (some_left b) refl refl
    ∙ ap (before c) (content_is b)

-- ---- its bytes are characters

one_character : (c : ℕ) → IsCharacter c → is_character c ≡ true
one_character c h = grind (arith, nat_tests)

tests : (b : List ℕ) → AreCharacters b → list_all is_character b ≡ true
tests [] h = refl
tests (c ∷ b) h = ap (λ z. z && list_all is_character b) (one_character c h.0) ∙ tests b h.1

text_class : (b : List ℕ) → IsClass (kind.Text, b) class.Text
unfolding class_of
text_class b = refl

pub text_piece : (b : List ℕ) → AreCharacters b → IsPiece (quoted b) (lexeme.Value (text b) ∷ [])
text_piece b h rest ms fits r = record {
  tokens = (kind.Text, 34 ∷ spelled b) ∷ r.tokens;
  are_seen = text_seen 34 (spelled b) rest r.tokens (characters-append (34 ∷ flat_map doubled b) (34 ∷ []) (tests (flat_map doubled b) (characters-doubled b h)) refl) r.are_seen refl refl refl (ends b rest (no_quote rest fits));
  lexemes = lexemes.quoted (text_class (34 ∷ spelled b)) refl (content_is b) r.lexemes;
}
