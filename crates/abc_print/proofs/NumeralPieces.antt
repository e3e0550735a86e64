-- A number as it is printed: a sign, a number token, or two with a slash between them.
use Rattle.std.proofs.Common.{◌≡◌, ℕ, suc, ◌<◌, ◌^◌, Bool, true, false, List, [], ◌∷◌, ◌++◌, Option, Some, None, Ok, refl, sym, ap, ◌∙◌, subst, arith, ℤ, pos, ◌*ℤ◌}
use Rattle.std.specs.Prelude.{negsuc, unsigned_abs, codes, decimal}
use Rattle.std.proofs.lemmas.List.{append_assoc}
use Rattle.std.proofs.lemmas.List.Elements.{All-nil}
use Rattle.abc_num.specs.Number.{Fraction, fraction, IsNumber}
use Rattle.abc_num.specs.Operations.{IsQuotient}
use Rattle.abc_num.proofs.Integers.{*ℤ_assoc, right_comm}
use Rattle.abc_num.proofs.LowestTerms.{number_parts, number-from_parts, number_lowest, bounds, whole_is_number}
use Rattle.abc_num.proofs.Ratios.{IsRatio-ok, pos_ne}
use Rattle.abc_value.specs.Printed.{places, by_places, number_text}
use Rattle.abc_value.specs.Printed as printed
use Rattle.abc_value.specs.Tree.{number}
use Rattle.abc_value.proofs.printed.FiniteDecimals.{decimals_are_exact}
use Rattle.abc_tokens.specs.declared.kinds.TokenKind.TheVariants as kind
use Rattle.abc_tokens.specs.Tokens.{IsSound}
use Rattle.abc_tokens.specs.Scanned.{word_in_front}
use Rattle.abc_print.specs.declared.frames.Lexeme.TheVariants as lexeme
use Rattle.abc_print.specs.declared.lexing.Class.TheVariants as class
use Rattle.abc_print.specs.Lexemes.{Seen, IsClass, class_of, IsSigned, unsigned, negative, whole, divided, numeral}
use Rattle.abc_print.proofs.Pieces.{Fits, AreSeen, IsPiece, word_seen}
use Rattle.abc_print.proofs.SignPieces.{alone}
use Rattle.abc_print.proofs.NumberPieces.{IsNumberOf, number_class, number_seen, slash_alone}

-- ---- the tokens of the signs

minus_class : IsClass (kind.Sign, 45 ∷ []) class.Minus
unfolding class_of
minus_class = refl

slash_class : IsClass (kind.Sign, 47 ∷ []) class.Slash
unfolding class_of
slash_class = refl

minus_seen : (rest : List ℕ) (us : List Seen) → AreSeen rest us → AreSeen (45 ∷ rest) ((kind.Sign, 45 ∷ []) ∷ us)
unfolding word_in_front
minus_seen rest us h = word_seen 45 [] rest us refl h kind.Sign refl (alone rest) (All-nil IsSound)

-- what a slash begins is a sign of one character, unless a star follows it
slash_seen : (rest : List ℕ) (us : List Seen) → word_in_front (47 ∷ rest) ≡ Some (kind.Sign, 1) → AreSeen rest us → AreSeen (47 ∷ rest) ((kind.Sign, 47 ∷ []) ∷ us)
slash_seen rest us e h = word_seen 47 [] rest us refl h kind.Sign refl e (All-nil IsSound)

-- ---- a number token with the sign before it

is_negative : ℤ → Bool
is_negative (pos n) = false
is_negative (negsuc n) = true

abbrev signed_tokens : ℤ → List ℕ → List Seen → List Seen
signed_tokens (pos n) b us = (kind.Number, b) ∷ us
signed_tokens (negsuc n) b us = (kind.Sign, 45 ∷ []) ∷ (kind.Number, b) ∷ us

signed_seen : (z : ℤ) (b rest : List ℕ) (us : List Seen) (x : Fraction) → IsNumberOf b x → Fits rest → AreSeen rest us → AreSeen ((printed.sign z ++ b) ++ rest) (signed_tokens z b us)
signed_seen (pos n) b rest us x is fits h = number_seen b rest us x is fits h
signed_seen (negsuc n) b rest us x is fits h = minus_seen (b ++ rest) ((kind.Number, b) ∷ us) (number_seen b rest us x is fits h)

-- the size of the integer over this denominator is spelled, so the integer over it is
signed_is : (z : ℤ) (d : ℕ) (b : List ℕ) (us : List Seen) → IsNumberOf b (fraction (pos (unsigned_abs z)) d) → IsSigned (fraction z d) (signed_tokens z b us) us
signed_is (pos n) d b us h = unsigned (number_class b) h.value
signed_is (negsuc n) d b us h = negative (fraction (pos (suc n)) d) minus_class (number_class b) h.value

-- ---- decimals

size_is_number : (f : Fraction) → IsNumber f → IsNumber (fraction (pos (unsigned_abs f.numerator)) f.denominator)
size_is_number f n = number-from_parts false (unsigned_abs f.numerator) f.denominator (number_parts f n)

-- the decimals of a number are a token of its size
size_of : (f : Fraction) → IsNumber f → (k : ℕ) → places f.denominator ≡ Some k
    → IsNumberOf (by_places (unsigned_abs f.numerator) f.denominator (Some k)) (fraction (pos (unsigned_abs f.numerator)) f.denominator)
size_of f n k e = let s = decimals_are_exact f n k e in record { token = s.0; value = (size_is_number f n, ap pos (sym s.1)) }

with_decimals : (f : Fraction) → IsNumber f → (k : ℕ) → places f.denominator ≡ Some k
    → IsPiece (printed.sign f.numerator ++ by_places (unsigned_abs f.numerator) f.denominator (Some k)) (lexeme.Value (number f) ∷ [])
with_decimals f n k e rest ms fits r =
    let b = by_places (unsigned_abs f.numerator) f.denominator (Some k) in
    let is = size_of f n k e in record {
      tokens = signed_tokens f.numerator b r.tokens;
      are_seen = signed_seen f.numerator b rest r.tokens (fraction (pos (unsigned_abs f.numerator)) f.denominator) is fits r.are_seen;
      lexemes = numeral (whole (signed_is f.numerator f.denominator b r.tokens is)) r.lexemes;
    }

-- ---- quotients

no_places : places 1 ≡ Some 0
unfolding places
no_places = refl

-- the digits of a whole number are a token of it
whole_digits : (n : ℕ) → n < 2 ^ 127 → IsNumberOf (decimal n) (fraction (pos n) 1)
whole_digits n h = size_of (fraction (pos n) 1) (whole_is_number false n h) 0 no_places

regrouped : (s t c b rest : List ℕ) → (s ++ ((t ++ c) ++ b)) ++ rest ≡ (s ++ t) ++ (c ++ (b ++ rest))
regrouped s t c b rest =
    append_assoc s ((t ++ c) ++ b) rest ∙ ap (λ z. s ++ z) (append_assoc (t ++ c) b rest ∙ append_assoc t c (b ++ rest)) ∙ sym (append_assoc s t (c ++ (b ++ rest)))

is_quotient : (f : Fraction) → IsNumber f → IsQuotient (fraction f.numerator 1) (fraction (pos f.denominator) 1) (Ok f)
is_quotient f n =
    let p = f.numerator in
    let q = pos f.denominator in
    IsRatio-ok (p *ℤ pos 1) (q *ℤ pos 1) f n (sym (*ℤ_assoc p q (pos 1)) ∙ right_comm p q (pos 1))

with_quotient : (f : Fraction) → IsNumber f → IsPiece (printed.sign f.numerator ++ by_places (unsigned_abs f.numerator) f.denominator None) (lexeme.Value (number f) ∷ [])
with_quotient f n rest ms fits r =
    let top = decimal (unsigned_abs f.numerator) in
    let bottom = decimal f.denominator in
    let fit = bounds f n in
    let below : f.denominator < 2 ^ 127 = omega (arith, fit.1) in
    let over : IsNumberOf top (fraction (pos (unsigned_abs f.numerator)) 1) = whole_digits (unsigned_abs f.numerator) fit.0 in
    let under : IsNumberOf bottom (fraction (pos f.denominator) 1) = whole_digits f.denominator below in
    let us = (kind.Sign, 47 ∷ []) ∷ (kind.Number, bottom) ∷ r.tokens in
    let behind = slash_seen (bottom ++ rest) ((kind.Number, bottom) ∷ r.tokens) (slash_alone bottom rest under.token)
    (number_seen bottom rest r.tokens (fraction (pos f.denominator) 1) under fits r.are_seen) in
    let all = signed_seen f.numerator top (47 ∷ (bottom ++ rest)) us (fraction (pos (unsigned_abs f.numerator)) 1) over refl behind in
    let split : (printed.sign f.numerator ++ ((top ++ codes "/") ++ bottom)) ++ rest ≡ (printed.sign f.numerator ++ top) ++ (47 ∷ (bottom ++ rest)) = regrouped (printed.sign f.numerator) top (codes "/") bottom rest in record {
      tokens = signed_tokens f.numerator top us;
      are_seen = subst (λ z. AreSeen z (signed_tokens f.numerator top us)) (sym split) all;
      lexemes = numeral (divided (fraction (pos f.denominator) 1) (signed_is f.numerator 1 top us over) slash_class (number_class bottom) under.value
          (pos_ne f.denominator (number_lowest f n).1) (is_quotient f n)) r.lexemes;
    }

by_count : (f : Fraction) → IsNumber f → (o : Option ℕ) → places f.denominator ≡ o
    → IsPiece (printed.sign f.numerator ++ by_places (unsigned_abs f.numerator) f.denominator o) (lexeme.Value (number f) ∷ [])
by_count f n (Some k) e = with_decimals f n k e
by_count f n None e = with_quotient f n

pub number_piece : (f : Fraction) → IsNumber f → IsPiece (number_text f) (lexeme.Value (number f) ∷ [])
number_piece f n = by_count f n (places f.denominator) refl
