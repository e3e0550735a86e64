-- What of a line matters for the lines of an item.
use Rattle.std.specs.Prelude.{◌≡◌, ℕ, ◌+◌, ◌*◌, ◌/◌, ◌≤◌, Bool, true, false, not, ◌&&◌, ◌||◌, ◌==◌, List, [], ◌∷◌, length, Option, Some, None, slice_get, slice_range, codes, bytes_eq, if◌then◌else◌}
use Rattle.std.specs.List.{list_any}
use Rattle.abc_num.specs.Literal.{IsNumberToken}
use Rattle.abc_num.specs.declared.limits.TheConstants.{TAB_WIDTH}
use Rattle.abc_tokens.specs.declared.kinds.First.{First}
use Rattle.abc_tokens.specs.declared.kinds.First.TheVariants as first
use Rattle.abc_tokens.specs.declared.kinds.Shape.{Shape}
use Rattle.abc_tokens.specs.declared.kinds.Token.{Token}
use Rattle.abc_tokens.specs.declared.kinds.TokenKind.{TokenKind}
use Rattle.abc_tokens.specs.declared.kinds.TokenKind.TheVariants.{Name, Keyword, Number, Text, Sign, Other}
use Rattle.abc_tokens.specs.Bytes.{space, backslash}
use Rattle.abc_tokens.specs.Tokens.{Tokens}
use Rattle.abc_tokens.specs.Scanned.{Found, scanned}

abbrev pub tab : ℕ
tab = 9

-- the column of the text, from this column on: a tab goes to the next multiple of its width
abbrev pub text_column : ℕ → List ℕ → ℕ
text_column column [] = column
text_column column (b ∷ bytes) = if b == space then text_column (column + 1) bytes
    else (if b == tab then text_column ((column / TAB_WIDTH + 1) * TAB_WIDTH) bytes else column)

-- columns that a line is indented by
abbrev pub indentation : List ℕ → ℕ
indentation line = text_column 0 line

-- what follows the spaces and tabs at the front
abbrev pub text_of : List ℕ → List ℕ
text_of [] = []
text_of (b ∷ bytes) = if (b == space) || (b == tab) then text_of bytes else b ∷ bytes

-- no text, or a comment alone
abbrev pub is_blank : List ℕ → Bool
is_blank [] = true
is_blank (b ∷ bytes) = b == backslash

abbrev pub last : List Token → Option Token
last [] = None
last (t ∷ []) = Some t
last (t ∷ u ∷ ts) = last (u ∷ ts)

-- the bytes of a token
abbrev pub spelling : List ℕ → Token → List ℕ
spelling text t = slice_range text t.start t.end

-- a token stands in its line, and a number token is spelled as one
pub record IsPlaced (line : List ℕ) (t : Token) : Type 0 where
  pub ordered : t.start ≤ t.end
  pub within : t.end ≤ length line
  pub digits : t.kind ≡ Number → IsNumberToken (spelling line t)

-- whether there is a token, spelled so
abbrev pub is_spelled : List ℕ → Option Token → List ℕ → Bool
is_spelled text None word = false
is_spelled text (Some t) word = bytes_eq (spelling text t) word

abbrev pub reserved : List (List ℕ)
reserved = codes "WRITE" ∷ codes "READ" ∷ codes "PUT" ∷ codes "INSERT" ∷ codes "REMOVE" ∷ codes "DELETE" ∷ codes "PASS" ∷ codes "CHECK" ∷ codes "IF" ∷ codes "SELECT" ∷ codes "ELSE"
    ∷ codes "WHILE" ∷ codes "FOR" ∷ codes "HOW" ∷ codes "SHARE" ∷ codes "QUIT" ∷ codes "RETURN" ∷ codes "REPORT" ∷ codes "SUCCEED" ∷ codes "FAIL" ∷ codes "SET" ∷ []

abbrev pub is_reserved : List ℕ → Bool
is_reserved word = list_any (λ keyword. bytes_eq keyword word) reserved

-- a name, or a keyword that isn't reserved
abbrev pub names_refinement : List ℕ → TokenKind → Bool
names_refinement word Name = true
names_refinement word Keyword = not (is_reserved word)
names_refinement word Number = false
names_refinement word Text = false
names_refinement word Sign = false
names_refinement word Other = false

abbrev pub is_refinement : List ℕ → Option Token → Bool
is_refinement text None = false
is_refinement text (Some t) = names_refinement (spelling text t) t.kind

-- the text begins with `:`, `=` or `-:`
abbrev pub begins_environment : List ℕ → Bool
begins_environment [] = false
begins_environment (b ∷ []) = (b == 58) || (b == 61)
begins_environment (b ∷ c ∷ bytes) = ((b == 58) || (b == 61)) || ((b == 45) && (c == 58))

-- how a line at this indentation begins, with this text and these first tokens
abbrev pub beginning : ℕ → List ℕ → Option Token → Option Token → First
beginning indent text t u = if is_spelled text t (codes "HOW") && is_spelled text u (codes "TO") then first.HowTo
    else (if is_refinement text t && is_spelled text u (codes ":") then first.Heading
    else (if (indent == 0) && begins_environment text then first.Environment else first.Other))

-- the shape of a line with these tokens
abbrev pub shape_by : List ℕ → List Token → Shape
shape_by line ts = let text = text_of line in record {
  blank = is_blank text;
  indent = indentation line;
  ends_in_colon = is_spelled text (last ts) (codes ":");
  first = beginning (indentation line) text (slice_get ts 0) (slice_get ts 1);
}

-- the shape of a line, whose text is read loosely
abbrev pub IsShape : List ℕ → Shape → Type 0
IsShape line s = (ts : List Token) × (ns : List (List ℕ)) × Tokens true (length (text_of line)) (text_of line) ts ns × (s ≡ shape_by line ts)

-- the same computed
abbrev pub tokens_found : Found → List Token
tokens_found None = []
tokens_found (Some found) = found.0

-- the tokens of a line's text, read loosely
abbrev pub loose_tokens : List ℕ → List Token
loose_tokens line = tokens_found (scanned true (length (text_of line)) (text_of line) 0)

abbrev pub shape_of : List ℕ → Shape
shape_of line = shape_by line (loose_tokens line)

-- with these tokens, the first one of the line is spelled so
abbrev pub is_first_by : List ℕ → List Token → List ℕ → Bool
is_first_by line ts word = is_spelled (text_of line) (slice_get ts 0) word

-- the first token of the line's text, read loosely, is spelled so
abbrev pub is_first : List ℕ → List ℕ → Bool
is_first line word = is_first_by line (loose_tokens line) word
