-- Where the tokens of a line are cut.
use Rattle.std.specs.Prelude.{ℕ, zero, suc, Bool, true, false, ◌&&◌, List, [], ◌∷◌, take, drop, reverse, Option, Some, None, option_map, slice_get, Result, Ok, Err, if◌then◌else◌}
use Rattle.std.specs.List.{prefix_len}
use Rattle.abc_tokens.specs.declared.kinds.Token.{Token}
use Rattle.abc_tokens.specs.declared.kinds.TokenFault.{TokenFault}
use Rattle.abc_tokens.specs.ReadLine.{read_line}
use Rattle.abc_expressions.specs.declared.lexemes.Lexeme.{Lexeme}
use Rattle.abc_expressions.specs.declared.lexemes.Lexeme.TheVariants as t
use Rattle.abc_expressions.specs.declared.signs.Sign.TheVariants as s
use Rattle.abc_formula.specs.TestGrammar.{is_keyword, opens_bracket, closes_bracket}

-- the tokens before a cut, and those behind it
abbrev pub Cut : Type 0
Cut = List Lexeme × List Lexeme

-- the token at this place is cut out
abbrev pub cut_by : List Lexeme → Option ℕ → Option Cut
cut_by ts None = None
cut_by ts (Some i) = Some (take i ts, drop (suc i) ts)

-- the place of the first keyword that is this word
abbrev pub word_place : List ℕ → List Lexeme → Option ℕ
word_place word [] = None
word_place word (token ∷ ts) = if is_keyword word token then Some 0 else option_map suc (word_place word ts)

-- cut at the first keyword that is this word
abbrev pub cut_at : List ℕ → List Lexeme → Option Cut
cut_at word ts = cut_by ts (word_place word ts)

abbrev pub is_colon : Lexeme → Bool
is_colon (t.Sign s.Colon) = true
is_colon _ = false

abbrev pub one_less : ℕ → ℕ
one_less zero = zero
one_less (suc n) = n

-- how many brackets are open behind a token; those of all kinds count alike, and a closing one closes none where none is open
abbrev pub open_behind : ℕ → Lexeme → ℕ
open_behind n token = if opens_bracket token then suc n else (if closes_bracket token then one_less n else n)

abbrev pub is_outside : ℕ → Bool
is_outside zero = true
is_outside (suc n) = false

-- the place of the first colon outside brackets, where so many are open in front
abbrev pub colon_place : ℕ → List Lexeme → Option ℕ
colon_place n [] = None
colon_place n (token ∷ ts) = if is_colon token && is_outside n then Some 0 else option_map suc (colon_place (open_behind n token) ts)

-- cut at the first colon outside brackets
abbrev pub cut_at_colon : List Lexeme → Option Cut
cut_at_colon ts = cut_by ts (colon_place 0 ts)

abbrev pub is_slash : Lexeme → Bool
is_slash (t.Sign s.Slash) = true
is_slash _ = false

-- how many slashes stand in front
abbrev pub count_slashes : List Lexeme → ℕ
count_slashes = prefix_len is_slash

-- a stretch of tokens between keywords, or a keyword
pub data Chunk : Type 0 where
  key : List ℕ → Chunk
  stretch : List Lexeme → Chunk

-- a token before chunks: it begins the stretch that is the first of them, or is one by itself
abbrev pub before_chunks : Lexeme → List Chunk → List Chunk
before_chunks token [] = stretch (token ∷ []) ∷ []
before_chunks token (key x ∷ chunks) = stretch (token ∷ []) ∷ key x ∷ chunks
before_chunks token (stretch ts ∷ chunks) = stretch (token ∷ ts) ∷ chunks

-- the keywords, and what stands between them
abbrev pub chunks_of : List Lexeme → List Chunk
chunks_of [] = []
chunks_of (t.Keyword x ∷ ts) = key x ∷ chunks_of ts
chunks_of (t.Number bytes ∷ ts) = before_chunks (t.Number bytes) (chunks_of ts)
chunks_of (t.Name x ∷ ts) = before_chunks (t.Name x) (chunks_of ts)
chunks_of (t.Text bytes ∷ ts) = before_chunks (t.Text bytes) (chunks_of ts)
chunks_of (t.Sign sign ∷ ts) = before_chunks (t.Sign sign) (chunks_of ts)
chunks_of (t.Other ∷ ts) = before_chunks t.Other (chunks_of ts)

-- where a token ends, if there is one
abbrev pub end_of : Option Token → ℕ
end_of None = 0
end_of (Some token) = token.end

abbrev pub bytes_by : List ℕ → ℕ → Result (List Token) TokenFault → List ℕ
bytes_by text n (Ok ts) = drop (end_of (slice_get (reverse ts) n)) text
bytes_by text n (Err fault) = []

-- the bytes of a line behind the token that has so many others behind it
abbrev pub bytes_behind : List ℕ → ℕ → List ℕ
bytes_behind text n = bytes_by text n (read_line text)
