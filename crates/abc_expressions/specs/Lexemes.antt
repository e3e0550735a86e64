-- What the grammar sees of a token.
use Rattle.std.specs.Prelude.{◌≤◌, ℕ, List, ◌++◌, length}
use Rattle.std.specs.List.{slice_range}
use Rattle.abc_num.specs.Literal.{IsNumberToken}
use Rattle.abc_tokens.specs.declared.kinds.Token.{Token}
use Rattle.abc_tokens.specs.declared.kinds.TokenKind.{TokenKind}
use Rattle.abc_tokens.specs.declared.kinds.TokenKind.TheVariants as kind
use Rattle.abc_tokens.specs.Tokens.{AreTokens}
use Rattle.abc_expressions.specs.declared.lexemes.Lexeme.{Lexeme}
use Rattle.abc_expressions.specs.declared.lexemes.Lexeme.TheVariants as t
use Rattle.abc_expressions.specs.Signs.{sign_by}

-- a token of these bytes
abbrev pub lexeme_of : TokenKind → List ℕ → Lexeme
lexeme_of kind.Name bytes = t.Name bytes
lexeme_of kind.Keyword bytes = t.Keyword bytes
lexeme_of kind.Number bytes = t.Number bytes
lexeme_of kind.Text bytes = t.Text bytes
lexeme_of kind.Sign bytes = t.Sign (sign_by bytes)
lexeme_of kind.Other bytes = t.Other

-- a token of this line
abbrev pub seen : List ℕ → Token → Lexeme
seen line token = lexeme_of token.kind (slice_range line token.start token.end)

-- the tokens are an unbroken part of those of the line, which has no fault
abbrev pub ArePart : List ℕ → List Token → Type 0
ArePart line ts = (front : List Token) × (behind : List Token) × AreTokens line (front ++ ts ++ behind)

-- a token stands within the line
abbrev pub IsWithin : List ℕ → Token → Type 0
IsWithin line token = (token.start ≤ token.end) × (token.end ≤ length line)

-- a number is spelled as one
abbrev pub IsSpelled : Lexeme → Type 0
IsSpelled (t.Number bytes) = IsNumberToken bytes
IsSpelled (t.Name x) = Unit {0}
IsSpelled (t.Keyword x) = Unit {0}
IsSpelled (t.Text bytes) = Unit {0}
IsSpelled (t.Sign sign) = Unit {0}
IsSpelled t.Other = Unit {0}
