-- The parts of a line: its tokens are cut at each colon that stands outside brackets.
use Rattle.std.specs.Prelude.{ℕ, suc, ◌-◌, Bool, true, false, ◌&&◌, ◌==◌, List, [], ◌∷◌, if◌then◌else◌}
use Rattle.abc_expressions.specs.declared.lexemes.Lexeme.{Lexeme}
use Rattle.abc_expressions.specs.declared.lexemes.Lexeme.TheVariants as t
use Rattle.abc_expressions.specs.declared.signs.Sign.{Sign}
use Rattle.abc_expressions.specs.declared.signs.Sign.TheVariants as s

-- The brackets that are open behind a sign. Those of all kinds count alike, and a closing one closes the last open one, if there
-- is one.
abbrev pub open_by : Sign → ℕ → ℕ
open_by s.Open d = suc d
open_by s.Bracket d = suc d
open_by s.Brace d = suc d
open_by s.Close d = d - 1
open_by s.Unbracket d = d - 1
open_by s.Unbrace d = d - 1
open_by _ d = d

-- the brackets that are open behind a token
abbrev pub open_behind : Lexeme → ℕ → ℕ
open_behind (t.Sign sign) d = open_by sign d
open_behind (t.Number bytes) d = d
open_behind (t.Name x) d = d
open_behind (t.Keyword x) d = d
open_behind (t.Text bytes) d = d
open_behind t.Other d = d

abbrev pub is_colon_sign : Sign → Bool
is_colon_sign s.Colon = true
is_colon_sign _ = false

abbrev pub is_colon : Lexeme → Bool
is_colon (t.Sign sign) = is_colon_sign sign
is_colon (t.Number bytes) = false
is_colon (t.Name x) = false
is_colon (t.Keyword x) = false
is_colon (t.Text bytes) = false
is_colon t.Other = false

-- a token in front of parts belongs to the first of them
abbrev pub onto : Lexeme → List (List Lexeme) → List (List Lexeme)
onto token [] = (token ∷ []) ∷ []
onto token (part ∷ parts) = (token ∷ part) ∷ parts

-- the parts of tokens in front of which so many brackets are open
abbrev pub parts_from : ℕ → List Lexeme → List (List Lexeme)
parts_from d [] = [] ∷ []
parts_from d (token ∷ ts) = if is_colon token && (d == 0) then [] ∷ parts_from 0 ts else onto token (parts_from (open_behind token d) ts)

abbrev pub parts_of : List Lexeme → List (List Lexeme)
parts_of ts = parts_from 0 ts
