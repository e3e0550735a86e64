-- What the bytes of a token are, by its kind.
use Rattle.std.specs.Prelude.{◌≡◌, ℕ, Bool, true, false, ◌&&◌, ◌==◌, List, length, Option, Some, None}
use Rattle.abc_num.specs.Characters.{are_characters}
use Rattle.abc_num.specs.Literal.{IsNumberToken}
use Rattle.abc_tokens.specs.declared.kinds.Token.{Token}
use Rattle.abc_tokens.specs.declared.kinds.TokenKind.{TokenKind}
use Rattle.abc_tokens.specs.declared.kinds.TokenKind.TheVariants.{Name, Keyword, Number, Text, Sign, Other}
use Rattle.abc_tokens.specs.Bytes.{is_small, is_capital}
use Rattle.abc_tokens.specs.Words.{IsWord, IsSign}
use Rattle.abc_tokens.specs.Texts.{IsText}
use Rattle.abc_tokens.specs.Shape.{spelling}
use Rattle.abc_tokens.specs.Scanned.{word_in_front}

-- the bytes that a token of this kind may have
abbrev pub IsOfKind : TokenKind → List ℕ → Type 0
IsOfKind Name bytes = IsWord is_small bytes
IsOfKind Keyword bytes = IsWord is_capital bytes
IsOfKind Number bytes = IsNumberToken bytes
IsOfKind Text bytes = IsText bytes
IsOfKind Sign bytes = IsSign bytes
IsOfKind Other bytes = length bytes ≡ 1

-- a token has bytes of its kind, each of which is a character
pub record IsSpelledSo (line : List ℕ) (t : Token) : Type 0 where
  pub kind : IsOfKind t.kind (spelling line t)
  pub characters : are_characters (spelling line t) ≡ true

-- the word in front is of a kind and has this length
abbrev pub is_token : Option (TokenKind × ℕ) → (TokenKind → Bool) → ℕ → Bool
is_token None is long = false
is_token (Some found) is long = is found.0 && (found.1 == long)

abbrev pub is_name_kind : TokenKind → Bool
is_name_kind Name = true
is_name_kind _ = false

abbrev pub is_keyword_kind : TokenKind → Bool
is_keyword_kind Keyword = true
is_keyword_kind _ = false

-- the bytes are a name, computed
abbrev pub is_name : List ℕ → Bool
is_name bytes = is_token (word_in_front bytes) is_name_kind (length bytes)

-- the bytes are a keyword, computed
abbrev pub is_keyword : List ℕ → Bool
is_keyword bytes = is_token (word_in_front bytes) is_keyword_kind (length bytes)
