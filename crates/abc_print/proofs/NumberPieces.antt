-- The number in front of some bytes is as long as its digits go.
use Rattle.std.proofs.Common.{◌≡◌, ℕ, suc, ◌+◌, Bool, true, false, ◌&&◌, ◌||◌, cond, List, [], ◌∷◌, ◌++◌, length, drop, Option, Some, refl, sym, ap, ◌∙◌, subst, arith, inl, inr, None, length-append}
use Rattle.std.specs.Prelude.{All, ◌==◌, ◌⊎◌}
use Rattle.std.specs.List.{list_all}
use Rattle.std.proofs.lemmas.Bool.{or_left}
use Rattle.std.proofs.lemmas.Bool.Decides.{nat_tests}
use Rattle.std.proofs.lemmas.List.{append_assoc}
use Rattle.std.proofs.lemmas.List.Elements.{All-nil, All-cons, All-head, All-tail}
use Rattle.std.proofs.Math.Seq.{drop-append_seam}
use Rattle.abc_num.specs.Literal.{IsDigit, IsDigits, IsNumberToken}
use Rattle.abc_num.specs.Number.{Fraction}
use Rattle.abc_tokens.specs.declared.kinds.TokenKind.{TokenKind}
use Rattle.abc_tokens.specs.declared.kinds.TokenKind.TheVariants as kind
use Rattle.abc_tokens.specs.Bytes.{is_character, is_digit, is_small, is_capital, point, begins}
use Rattle.abc_tokens.specs.Tokens.{IsSound}
use Rattle.abc_tokens.specs.Scanned.{digits, begins_decimals, decimals, number_length, word_in_front, tail_length, is_double, is_single}
use Rattle.abc_tokens.proofs.NumberTokens.{digit_test, digits_more, no_number}
use Rattle.abc_print.specs.declared.lexing.Class.TheVariants as class
use Rattle.abc_print.specs.Lexemes.{Seen, IsClass, class_of, IsValueOf}
use Rattle.abc_print.proofs.Pieces.{Fits, AreSeen, begins_word, word_seen}

-- ---- how many bytes a number has

digits_none : (rest : List ℕ) → begins is_digit rest ≡ false → digits rest ≡ 0
digits_none [] h = refl
digits_none (c ∷ rest) h = ap (λ x. cond x (1 + digits rest) 0) h

digits_all : (b rest : List ℕ) → All IsDigit b → begins is_digit rest ≡ false → digits (b ++ rest) ≡ length b
digits_all [] rest a h = digits_none rest h
digits_all (c ∷ b) rest a h = digits_more c (b ++ rest) (digit_test c (All-head IsDigit c b a)) ∙ ap suc (digits_all b rest (All-tail IsDigit c b a) h)

-- the digits in front, and the decimals of what stands behind them
by_digits : (b rest : List ℕ) → All IsDigit b → begins is_digit rest ≡ false → number_length (b ++ rest) ≡ length b + decimals rest
by_digits b rest a h =
    ap (λ n. n + decimals (drop n (b ++ rest))) (digits_all b rest a h) ∙ ap (λ z. length b + decimals z) (drop-append_seam b rest)

fits_tests : (x y z : Bool) → (x || (y || z)) ≡ false → (x ≡ false) × (y ≡ false)
fits_tests true y z h = cc
fits_tests false true z h = cc
fits_tests false false z h = (refl, refl)

no_digit : (rest : List ℕ) → Fits rest → begins is_digit rest ≡ false
no_digit [] h = refl
no_digit (c ∷ rest) h = (fits_tests (is_digit c) (c == point) (c == 34) h).0

no_decimals : (rest : List ℕ) → Fits rest → decimals rest ≡ 0
no_decimals [] h = refl
no_decimals (c ∷ rest) h = ap (λ z. cond (z && begins is_digit rest) (suc (digits rest)) 0) (fits_tests (is_digit c) (c == point) (c == 34) h).1

first_digit : (decs rest : List ℕ) → IsDigits decs → begins is_digit (decs ++ rest) ≡ true
first_digit [] rest h = absurd (h.0 refl)
first_digit (c ∷ decs) rest h = digit_test c (All-head IsDigit c decs h.1)

-- a point and the digits behind it
some_decimals : (decs rest : List ℕ) → IsDigits decs → Fits rest → decimals (point ∷ (decs ++ rest)) ≡ suc (length decs)
some_decimals decs rest h fits =
    ap (λ z. cond z (suc (digits (decs ++ rest))) 0) (first_digit decs rest h) ∙ ap suc (digits_all decs rest h.1 (no_digit rest fits))

whole_length : (b rest : List ℕ) → IsDigits b → Fits rest → number_length (b ++ rest) ≡ length b
whole_length b rest h fits = let e = by_digits b rest h.1 (no_digit rest fits) in let z = no_decimals rest fits in omega (arith, e, z)

pointed_length : (whole decs rest : List ℕ) → All IsDigit whole → IsDigits decs → Fits rest → number_length ((whole ++ (point ∷ decs)) ++ rest) ≡ length (whole ++ (point ∷ decs))
pointed_length whole decs rest w h fits =
    ap number_length (append_assoc whole (point ∷ decs) rest) ∙ by_digits whole (point ∷ (decs ++ rest)) w refl ∙ ap (λ z. length whole + z) (some_decimals decs rest h fits)
    ∙ sym (length-append whole (point ∷ decs))

token_length : (b rest : List ℕ) → IsNumberToken b → Fits rest → number_length (b ++ rest) ≡ length b
token_length b rest (inl h) fits = whole_length b rest h fits
token_length b rest (inr (whole, decs, e, w, h)) fits = subst (λ z. number_length (z ++ rest) ≡ length z) (sym e) (pointed_length whole decs rest w h fits)

-- ---- what a number begins with, and its bytes

-- whether a number begins here
abbrev is_number : ℕ → List ℕ → Bool
is_number c bytes = is_digit c || begins_decimals (c ∷ bytes)

by_whole : (c : ℕ) (cs rest whole decs : List ℕ) → c ∷ cs ≡ whole ++ (point ∷ decs) → All IsDigit whole → IsDigits decs → is_number c (cs ++ rest) ≡ true
by_whole c cs rest [] decs e w h =
    let one : c ≡ point = cc in
    let more : cs ≡ decs = cc in
    subst (λ z. is_number z (cs ++ rest) ≡ true) (sym one) (subst (λ z. begins is_digit (z ++ rest) ≡ true) (sym more) (first_digit decs rest h))
by_whole c cs rest (d ∷ whole) decs e w h =
    let one : c ≡ d = cc in
    or_left (is_digit c) (begins_decimals (c ∷ (cs ++ rest))) (subst (λ z. is_digit z ≡ true) (sym one) (digit_test d (All-head IsDigit d whole w)))

number_first : (c : ℕ) (cs rest : List ℕ) → IsNumberToken (c ∷ cs) → is_number c (cs ++ rest) ≡ true
number_first c cs rest (inl h) = or_left (is_digit c) (begins_decimals (c ∷ (cs ++ rest))) (digit_test c (All-head IsDigit c cs h.1))
number_first c cs rest (inr (whole, decs, e, w, h)) = by_whole c cs rest whole decs e w h

-- a digit or the point
abbrev IsNumeric : ℕ → Type 0
IsNumeric c = IsDigit c ⊎ (c ≡ point)

all_numeric : (b : List ℕ) → All IsDigit b → All IsNumeric b
all_numeric b a k d l = inl (a k d l)

numeric_point : (whole decs : List ℕ) → All IsDigit whole → All IsDigit decs → All IsNumeric (whole ++ (point ∷ decs))
numeric_point [] decs w h = All-cons IsNumeric point decs (inr refl) (all_numeric decs h)
numeric_point (c ∷ whole) decs w h =
    All-cons IsNumeric c (whole ++ (point ∷ decs)) (inl (All-head IsDigit c whole w)) (numeric_point whole decs (All-tail IsDigit c whole w) h)

numeric : (b : List ℕ) → IsNumberToken b → All IsNumeric b
numeric b (inl h) = all_numeric b h.1
numeric b (inr (whole, decs, e, w, h)) = subst (All IsNumeric) (sym e) (numeric_point whole decs w h.1)

numeric_tests : (c : ℕ) → IsNumeric c → (is_character c ≡ true) × (begins_word c ≡ true) × (is_small c ≡ false) × (is_capital c ≡ false)
numeric_tests c (inl h) = (grind (arith, nat_tests), grind (arith, nat_tests), grind (arith, nat_tests), grind (arith, nat_tests))
numeric_tests c (inr e) =
    subst (λ z. (is_character z ≡ true) × (begins_word z ≡ true) × (is_small z ≡ false) × (is_capital z ≡ false)) (sym e) (refl, refl, refl, refl)

abbrev Word : Type 0
Word = Option (TokenKind × ℕ)

no_star : (c : ℕ) → IsNumeric c → (42 == c) ≡ false
no_star c (inl h) = grind (arith, nat_tests)
no_star c (inr e) = subst (λ z. (42 == z) ≡ false) (sym e) refl

-- a slash before a number is a sign of one character
pub slash_alone : (b rest : List ℕ) → IsNumberToken b → word_in_front (47 ∷ (b ++ rest)) ≡ Some (kind.Sign, 1)
unfolding word_in_front
slash_alone [] rest h = absurd (no_number h)
slash_alone (c ∷ b) rest h =
    ap (λ z. cond {A = Word} (z || false) (Some (kind.Sign, 2)) (Some (kind.Sign, 1))) (no_star c (All-head IsNumeric c b (numeric (c ∷ b) h)))

numeric_characters : (b : List ℕ) → All IsNumeric b → list_all is_character b ≡ true
numeric_characters [] a = refl
numeric_characters (c ∷ b) a =
    ap (λ z. z && list_all is_character b) (numeric_tests c (All-head IsNumeric c b a)).0 ∙ numeric_characters b (All-tail IsNumeric c b a)

-- ---- the token

-- what stands in front by the first three tests
abbrev table : (c : ℕ) (bytes : List ℕ) (s k n : Bool) → Word
table c bytes s k n = cond s (Some (kind.Name, suc (tail_length is_small bytes))) (cond k (Some (kind.Keyword, suc (tail_length is_capital bytes)))
    (cond n (Some (kind.Number, number_length (c ∷ bytes))) (cond (is_double c bytes) (Some (kind.Sign, 2)) (cond (is_single c) (Some (kind.Sign, 1)) None))))

in_front : (c : ℕ) (bytes : List ℕ) → is_small c ≡ false → is_capital c ≡ false → is_number c bytes ≡ true → word_in_front (c ∷ bytes) ≡ Some (kind.Number, number_length (c ∷ bytes))
unfolding word_in_front
in_front c bytes s k n =
    ap (λ z. table c bytes z (is_capital c) (is_number c bytes)) s ∙ ap (λ z. table c bytes false z (is_number c bytes)) k ∙ ap (table c bytes false false) n

pub number_class : (b : List ℕ) → IsClass (kind.Number, b) class.Number
unfolding class_of
number_class b = refl

-- a number token that has a value
pub record IsNumberOf (b : List ℕ) (x : Fraction) : Type 0 where
  pub token : IsNumberToken b
  pub value : IsValueOf b x

pub number_seen : (b rest : List ℕ) (us : List Seen) (x : Fraction) → IsNumberOf b x → Fits rest → AreSeen rest us → AreSeen (b ++ rest) ((kind.Number, b) ∷ us)
number_seen [] rest us x n fits h = absurd (no_number n.token)
number_seen (c ∷ b) rest us x n fits h =
    let a = numeric (c ∷ b) n.token in
    let tests = numeric_tests c (All-head IsNumeric c b a) in
    let word = in_front c (b ++ rest) tests.2 tests.3 (number_first c b rest n.token) ∙ ap (λ z. Some (kind.Number, z)) (token_length (c ∷ b) rest n.token fits) in
    word_seen c b rest us (numeric_characters (c ∷ b) a) h kind.Number tests.1 word (All-cons IsSound (c ∷ b) [] (x, n.value) (All-nil IsSound))
