-- Where a line is cut.
use Rattle.std.specs.Prelude.{ℕ, ◌+◌, Bool, true, false, ◌&&◌, ◌==◌, List, [], ◌∷◌, Option, Some, None, if◌then◌else◌}
use Rattle.abc_expressions.specs.declared.lexemes.Lexeme.{Lexeme}
use Rattle.abc_outline.specs.Parts.{is_colon, open_behind, parts_of}

abbrev pub ends_part : ℕ → Lexeme → Bool
ends_part d token = is_colon token && (d == 0)

-- the place of the first colon outside brackets, where the tokens begin at a place and so many brackets are open in front
abbrev pub colon_from : ℕ → ℕ → List Lexeme → Option ℕ
colon_from at d [] = None
colon_from at d (token ∷ ts) = if ends_part d token then Some at else colon_from (at + 1) (open_behind token d) ts

-- the parts of the tokens behind a colon, if there is one
abbrev pub parts_behind : Bool → List Lexeme → List (List Lexeme)
parts_behind true ts = parts_of ts
parts_behind false ts = []

-- the place of the first of these tokens, where they begin at a place
abbrev pub first_from : (Lexeme → Bool) → ℕ → List Lexeme → Option ℕ
first_from is at [] = None
first_from is at (token ∷ ts) = if is token then Some at else first_from is (at + 1) ts
