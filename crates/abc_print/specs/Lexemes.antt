-- Numbers with their signs and divisors, texts and the other signs among the tokens of a line.
use Rattle.std.specs.Prelude.{◌≡◌, ◌≢◌, ℕ, pos, neg_ℤ, Bool, true, false, ◌==◌, ◌||◌, List, [], ◌∷◌, map, Option, Some, None, Ok, if◌then◌else◌}
use Rattle.abc_num.specs.Number.{Fraction, fraction}
use Rattle.abc_num.specs.Literal.{literal_numerator, literal_denominator}
use Rattle.abc_num.specs.Ratio.{HasValue}
use Rattle.abc_num.specs.Operations.{IsQuotient}
use Rattle.abc_tokens.specs.declared.kinds.Token.{Token}
use Rattle.abc_tokens.specs.declared.kinds.TokenKind.{TokenKind}
use Rattle.abc_tokens.specs.declared.kinds.TokenKind.TheVariants as kind
use Rattle.abc_tokens.specs.Bytes.{backquote}
use Rattle.abc_tokens.specs.Shape.{spelling}
use Rattle.abc_tokens.specs.Tokens.{AreTokens}
use Rattle.abc_value.specs.Tree.{Tree, number, text}
use Rattle.abc_print.specs.declared.frames.Mark.{Mark}
use Rattle.abc_print.specs.declared.frames.Mark.TheVariants as mark
use Rattle.abc_print.specs.declared.frames.Lexeme.{Lexeme}
use Rattle.abc_print.specs.declared.frames.Lexeme.TheVariants as lexeme
use Rattle.abc_print.specs.Literals.{IsLiteral}
use Rattle.abc_print.specs.declared.lexing.Class.{Class}
use Rattle.abc_print.specs.declared.lexing.Class.TheVariants as class

-- a token as literals see it: its kind and its bytes
abbrev pub Seen : Type 0
Seen = TokenKind × List ℕ

abbrev pub seen : List ℕ → Token → Seen
seen line t = (t.kind, spelling line t)

-- what a sign of one character is to a literal
abbrev pub sign_class : ℕ → Class
sign_class b = if b == 43 then class.Plus else (if b == 45 then class.Minus else (if b == 47 then class.Slash
    else (if b == 40 then class.Mark mark.Open else (if b == 41 then class.Mark mark.Close
    else (if b == 123 then class.Mark mark.Brace else (if b == 125 then class.Mark mark.Unbrace
    else (if b == 91 then class.Mark mark.Bracket else (if b == 93 then class.Mark mark.Unbracket
    else (if b == 44 then class.Mark mark.Comma else (if b == 59 then class.Mark mark.Semicolon
    else (if b == 58 then class.Mark mark.Colon else class.Other)))))))))))

abbrev pub signs_class : List ℕ → Class
signs_class (b ∷ []) = sign_class b
signs_class _ = class.Other

-- what a token is to a literal
unfoldable pub class_of : TokenKind → List ℕ → Class
class_of kind.Number bytes = class.Number
class_of kind.Text bytes = class.Text
class_of kind.Sign bytes = signs_class bytes
class_of kind.Name bytes = class.Other
class_of kind.Keyword bytes = class.Other
class_of kind.Other bytes = class.Other

abbrev pub IsClass : Seen → Class → Type 0
IsClass t c = class_of t.0 t.1 ≡ c

-- a character before those of a text that is spelled
abbrev pub before : ℕ → Option (List ℕ) → Option (List ℕ)
before c None = None
before c (Some cs) = Some (c ∷ cs)

-- the characters of a text, from its bytes behind the first quote. A quote within it and a backquote stand there twice, and
-- nothing follows the last quote; a text with a conversion has none.
abbrev pub content : ℕ → List ℕ → Option (List ℕ)
content q [] = None
content q (c ∷ []) = if c == q then Some [] else None
content q (c ∷ d ∷ bytes) = if (c == q) || (c == backquote) then (if d == c then before c (content q bytes) else None) else before c (content q (d ∷ bytes))

-- the number that is the value of these digits
abbrev pub IsValueOf : List ℕ → Fraction → Type 0
IsValueOf b x = HasValue (pos (literal_numerator b)) (pos (literal_denominator b)) x

abbrev pub with_sign : Bool → Fraction → Fraction
with_sign false x = x
with_sign true x = fraction (neg_ℤ x.numerator) x.denominator

-- a number, perhaps with a sign before it
pub data IsSigned : Fraction → List Seen → List Seen → Type 0 where
  unsigned : {t : Seen} {x : Fraction} {rest : List Seen} → IsClass t class.Number → IsValueOf t.1 x → IsSigned x (t ∷ rest) rest
  positive : {t u : Seen} {x : Fraction} {rest : List Seen} → IsClass t class.Plus → IsClass u class.Number → IsValueOf u.1 x → IsSigned x (t ∷ u ∷ rest) rest
  negative : {t u : Seen} (x : Fraction) {rest : List Seen} → IsClass t class.Minus → IsClass u class.Number → IsValueOf u.1 x → IsSigned (with_sign true x) (t ∷ u ∷ rest) rest

-- the same, perhaps over a number that is not 0
pub data IsNumeral : Fraction → List Seen → List Seen → Type 0 where
  whole : {x : Fraction} {ts rest : List Seen} → IsSigned x ts rest → IsNumeral x ts rest
  divided : {t u : Seen} {x z : Fraction} (y : Fraction) {ts rest : List Seen} → IsSigned x ts (t ∷ u ∷ rest) → IsClass t class.Slash → IsClass u class.Number → IsValueOf u.1 y
      → y.numerator ≢ pos 0 → IsQuotient x y (Ok z) → IsNumeral z ts rest

-- the tokens are these numbers, texts and signs
pub data HasLexemes : List Seen → List Lexeme → Type 0 where
  none : HasLexemes [] []
  numeral : {x : Fraction} {ts us : List Seen} {ls : List Lexeme} → IsNumeral x ts us → HasLexemes us ls → HasLexemes ts (lexeme.Value (number x) ∷ ls)
  quoted : {t : Seen} {q : ℕ} {bytes cs : List ℕ} {ts : List Seen} {ls : List Lexeme} → IsClass t class.Text → t.1 ≡ q ∷ bytes → content q bytes ≡ Some cs
      → HasLexemes ts ls → HasLexemes (t ∷ ts) (lexeme.Value (text cs) ∷ ls)
  sign : {t : Seen} {m : Mark} {ts : List Seen} {ls : List Lexeme} → IsClass t (class.Mark m) → HasLexemes ts ls → HasLexemes (t ∷ ts) (lexeme.Mark m ∷ ls)

-- a line without a fault spells this value: its tokens are numbers, texts and signs that spell it
abbrev pub IsLiteralLine : List ℕ → Tree → Type 0
IsLiteralLine line t = (ts : List Token) × AreTokens line ts × (ls : List Lexeme) × HasLexemes (map (seen line) ts) ls × IsLiteral t ls
