-- Worked rows: outlines, parts, names and refinements, by computing.
use Rattle.std.proofs.Common.{◌≡◌, ℕ, Bool, true, false, List, [], ◌∷◌, ◌++◌, Some, None, refl}
use Rattle.std.specs.Prelude.{codes, Ok, Err}
use Rattle.abc_tokens.specs.declared.kinds.First.{First}
use Rattle.abc_tokens.specs.declared.kinds.First.TheVariants as first
use Rattle.abc_tokens.specs.declared.kinds.TokenFault.TheVariants as fault
use Rattle.abc_tree.specs.declared.commands.RefinementKind.TheVariants as refines
use Rattle.abc_expressions.specs.declared.lexemes.Lexeme.{Lexeme}
use Rattle.abc_expressions.specs.declared.lexemes.Lexeme.TheVariants as t
use Rattle.abc_expressions.specs.declared.signs.Sign.TheVariants as s
use Rattle.abc_outline.specs.declared.edges.Edges.{Edges}
use Rattle.abc_outline.specs.declared.edges.Role.{Role}
use Rattle.abc_outline.specs.declared.edges.Role.TheVariants as role
use Rattle.abc_outline.specs.declared.edges.Setting.{Setting}
use Rattle.abc_outline.specs.declared.rows.Row.{Row}
use Rattle.abc_outline.specs.LineNames.{no_names, names_of}
use Rattle.abc_outline.specs.Outline.{role_of, place_of}
use Rattle.abc_outline.specs.OwnNames.{own_names, refinements, name_kinds, commands_of}
use Rattle.abc_outline.specs.Parts.{parts_of}

-- ---- lines by their edges

abbrev edges : ℕ → First → Bool → Bool → Edges
edges n f selects colon = record { indent = n; first = f; selects = selects; ends_in_colon = colon }

abbrev how_to : Edges
how_to = edges 0 first.HowTo false true

-- a command that ends in no colon, one that does, SELECT with its colon, a name or keyword and a colon
abbrev plain : ℕ → Edges
plain n = edges n first.Other false false

abbrev opening : ℕ → Edges
opening n = edges n first.Other false true

abbrev select : ℕ → Edges
select n = edges n first.Other true true

abbrev heading : ℕ → Edges
heading n = edges n first.Heading false true

abbrev unit : ℕ → Setting
unit b = record { unit = true; body = b }

abbrev single : ℕ → Setting
single b = record { unit = false; body = b }

-- what each line is, and how many suites are open at it
abbrev roles : Setting → List Edges → List Edges → List (ℕ × Role)
roles setting above [] = []
roles setting above (line ∷ lines) = ((place_of setting above line).suites, role_of setting above line) ∷ roles setting (line ∷ above) lines

-- HOW TO F:
--   SELECT:
--     x: PASS
--     ELSE:
--       PASS
-- r: RETURN 1
--   s:
--     RETURN 2
a_unit : roles (unit 2) [] (how_to ∷ select 2 ∷ heading 4 ∷ opening 4 ∷ plain 6 ∷ edges 0 first.Heading false false ∷ heading 2 ∷ plain 4 ∷ [])
    ≡ (0, role.UnitHeading) ∷ (1, role.Command) ∷ (1, role.Alternative) ∷ (1, role.Alternative) ∷ (2, role.Command) ∷ (0, role.RefinementHeading) ∷ (1, role.Command) ∷ (2, role.Command) ∷ []
a_unit = refl

-- the heading of a second refinement at the body's indentation, which is not deeper than the line before: no suite is open at it
two_refinements : roles (unit 2) [] (how_to ∷ plain 2 ∷ heading 2 ∷ plain 4 ∷ heading 2 ∷ plain 4 ∷ [])
    ≡ (0, role.UnitHeading) ∷ (1, role.Command) ∷ (0, role.RefinementHeading) ∷ (1, role.Command) ∷ (0, role.RefinementHeading) ∷ (1, role.Command) ∷ []
two_refinements = refl

-- in an immediate item no line is a heading, and line 1 is a command
immediate : roles (single 2) [] (select 0 ∷ heading 2 ∷ heading 4 ∷ heading 0 ∷ [])
    ≡ (0, role.Command) ∷ (0, role.Alternative) ∷ (1, role.Command) ∷ (0, role.Command) ∷ []
immediate = refl

-- a SELECT that is itself an alternative has none: the line below it is a command
select_as_alternative : roles (single 2) [] (select 0 ∷ select 2 ∷ heading 4 ∷ [])
    ≡ (0, role.Command) ∷ (0, role.Alternative) ∷ (1, role.Command) ∷ []
select_as_alternative = refl

-- an alternative at the indentation of the body, below a SELECT that stands less deep than the body
alternative_at_body : roles (unit 4) [] (how_to ∷ plain 4 ∷ select 2 ∷ plain 4 ∷ heading 4 ∷ [])
    ≡ (0, role.UnitHeading) ∷ (1, role.Command) ∷ (1, role.Command) ∷ (1, role.Alternative) ∷ (1, role.Alternative) ∷ []
alternative_at_body = refl

-- SELECT without its colon opens nothing
select_alone : roles (single 2) [] (edges 0 first.Other true false ∷ heading 2 ∷ []) ≡ (0, role.Command) ∷ (1, role.Command) ∷ []
select_alone = refl

-- between two indentations of the lines round it, and at one of them
level_between : ((place_of (unit 2) (plain 8 ∷ opening 4 ∷ how_to ∷ []) (plain 6)).level ≡ false) × ((place_of (unit 2) (plain 8 ∷ opening 4 ∷ how_to ∷ []) (plain 4)).level ≡ true)
level_between = (refl, refl)

-- what the suites of the refinement before stand at is no level behind a heading
level_behind_heading : ((place_of (unit 4) (heading 4 ∷ plain 4 ∷ opening 2 ∷ heading 0 ∷ plain 4 ∷ how_to ∷ []) (plain 2)).level ≡ false)
    × ((place_of (unit 4) (plain 4 ∷ opening 2 ∷ heading 0 ∷ plain 4 ∷ how_to ∷ []) (plain 2)).level ≡ true)
level_behind_heading = (refl, refl)

sections : (place_of (unit 2) (plain 4 ∷ heading 2 ∷ plain 2 ∷ how_to ∷ []) (heading 0)).section ≡ Some (record { number = 1; indent = 0 })
sections = refl

-- ---- lines by their tokens

abbrev n : List ℕ → Lexeme
n x = t.Name x

abbrev k : List ℕ → Lexeme
k x = t.Keyword x

abbrev one : Lexeme
one = t.Number (codes "1")

abbrev colon : Lexeme
colon = t.Sign s.Colon

abbrev open_bracket : Lexeme
open_bracket = t.Sign s.Open

abbrev close_bracket : Lexeme
close_bracket = t.Sign s.Close

abbrev x : List ℕ
x = codes "x"

abbrev y : List ℕ
y = codes "y"

abbrev z : List ℕ
z = codes "z"

-- a b ( : ) : c, and a bracket that closes nothing
parts_rows : (parts_of (n x ∷ open_bracket ∷ colon ∷ close_bracket ∷ colon ∷ n y ∷ []) ≡ (n x ∷ open_bracket ∷ colon ∷ close_bracket ∷ []) ∷ (n y ∷ []) ∷ [])
    × (parts_of (close_bracket ∷ colon ∷ []) ≡ (close_bracket ∷ []) ∷ [] ∷ []) × (parts_of [] ≡ [] ∷ [])
parts_rows = (refl, refl, refl)

abbrev gives : List Lexeme → Role → List (List ℕ) × List (List ℕ) × List (List ℕ)
gives ts r = let names = names_of true r (Ok ts) in (names.named ++ names.refined, names.bound, names.put)

-- faulty lines give names: PUT ) IN y, INSERT IN y, REMOVE 1 1 FROM y, DELETE y ) (, READ y RAW 1, READ y EG, FOR y IN, SHARE y y
faulty_lines : (gives (k (codes "PUT") ∷ close_bracket ∷ k (codes "IN") ∷ n y ∷ []) role.Command ≡ ([], [], y ∷ []))
    × (gives (k (codes "INSERT") ∷ k (codes "IN") ∷ n y ∷ []) role.Command ≡ ([], [], y ∷ []))
    × (gives (k (codes "REMOVE") ∷ one ∷ one ∷ k (codes "FROM") ∷ n y ∷ []) role.Command ≡ ([], [], y ∷ []))
    × (gives (k (codes "DELETE") ∷ n y ∷ close_bracket ∷ open_bracket ∷ []) role.Command ≡ ([], [], y ∷ []))
    × (gives (k (codes "READ") ∷ n y ∷ k (codes "RAW") ∷ one ∷ []) role.Command ≡ ([], [], y ∷ []))
    × (gives (k (codes "READ") ∷ n y ∷ k (codes "EG") ∷ []) role.Command ≡ ([], [], y ∷ []))
    × (gives (k (codes "FOR") ∷ n y ∷ k (codes "IN") ∷ []) role.Command ≡ ([], y ∷ [], []))
    × (gives (k (codes "SHARE") ∷ n y ∷ n y ∷ []) role.Command ≡ (y ∷ y ∷ [], [], []))
faulty_lines = (refl, refl, refl, refl, refl, refl, refl, refl)

-- without its keyword a command gives none: PUT y, INSERT 1 FROM y, REMOVE 1 IN y, READ y, FOR y: PASS, WRITE PUT 1 IN y
no_keyword : (gives (k (codes "PUT") ∷ n y ∷ []) role.Command ≡ ([], [], []))
    × (gives (k (codes "INSERT") ∷ one ∷ k (codes "FROM") ∷ n y ∷ []) role.Command ≡ ([], [], []))
    × (gives (k (codes "REMOVE") ∷ one ∷ k (codes "IN") ∷ n y ∷ []) role.Command ≡ ([], [], []))
    × (gives (k (codes "READ") ∷ n y ∷ []) role.Command ≡ ([], [], []))
    × (gives (k (codes "FOR") ∷ n y ∷ colon ∷ k (codes "PASS") ∷ []) role.Command ≡ ([], [], []))
    × (gives (k (codes "WRITE") ∷ k (codes "PUT") ∷ one ∷ k (codes "IN") ∷ n y ∷ []) role.Command ≡ ([], [], []))
no_keyword = (refl, refl, refl, refl, refl, refl)

-- a key's names are no addresses: PUT 1 IN x[y], (z)
keys : gives (k (codes "PUT") ∷ one ∷ k (codes "IN") ∷ n x ∷ t.Sign s.Bracket ∷ n y ∷ t.Sign s.Unbracket ∷ t.Sign s.Comma ∷ open_bracket ∷ n z ∷ close_bracket ∷ []) role.Command
    ≡ ([], [], x ∷ z ∷ [])
keys = refl

-- CHECK 1 = SOME y IN x; FOO: no quantifier outside tests; IF SOME x HAS NO y IN z: both are bound; IF SOME y HAS 1 = 1
quantifiers : (gives (k (codes "CHECK") ∷ one ∷ t.Sign s.Equal ∷ k (codes "SOME") ∷ n y ∷ k (codes "IN") ∷ n x ∷ []) role.Command ≡ ([], y ∷ [], []))
    × (gives (k (codes "WRITE") ∷ k (codes "SOME") ∷ n y ∷ k (codes "IN") ∷ n x ∷ []) role.Command ≡ ([], [], []))
    × (gives (k (codes "IF") ∷ k (codes "SOME") ∷ n x ∷ k (codes "HAS") ∷ k (codes "NO") ∷ n y ∷ k (codes "IN") ∷ n z ∷ []) role.Command ≡ ([], x ∷ y ∷ [], []))
    × (gives (k (codes "IF") ∷ k (codes "SOME") ∷ n y ∷ k (codes "HAS") ∷ one ∷ []) role.Command ≡ ([], [], []))
    × (gives (one ∷ t.Sign s.Equal ∷ k (codes "EACH") ∷ n y ∷ k (codes "IN") ∷ n x ∷ colon ∷ k (codes "DELETE") ∷ n z ∷ []) role.Alternative ≡ ([], y ∷ [], z ∷ []))
quantifiers = (refl, refl, refl, refl, refl)

-- the front of an alternative is no command: PUT 1 IN y: PASS
alternative_front : gives (k (codes "PUT") ∷ one ∷ k (codes "IN") ∷ n y ∷ colon ∷ k (codes "PASS") ∷ []) role.Alternative ≡ ([], [], [])
alternative_front = refl

-- HOW TO F x G y:, HOW TO RETURN x:, HOW TO RETURN x y:, HOW TO REPORT x y z:, HOW TO RETURN (x, y) z x:, HOW TO RETURN z (x, y):
formals_rows : (gives (k (codes "HOW") ∷ k (codes "TO") ∷ k (codes "F") ∷ n x ∷ k (codes "G") ∷ n y ∷ colon ∷ []) role.UnitHeading ≡ (x ∷ y ∷ [], [], []))
    × (gives (k (codes "HOW") ∷ k (codes "TO") ∷ k (codes "RETURN") ∷ n x ∷ colon ∷ []) role.UnitHeading ≡ ([], [], []))
    × (gives (k (codes "HOW") ∷ k (codes "TO") ∷ k (codes "RETURN") ∷ n x ∷ n y ∷ colon ∷ []) role.UnitHeading ≡ (y ∷ [], [], []))
    × (gives (k (codes "HOW") ∷ k (codes "TO") ∷ k (codes "REPORT") ∷ n x ∷ n y ∷ n z ∷ colon ∷ []) role.UnitHeading ≡ (x ∷ z ∷ [], [], []))
    × (gives (k (codes "HOW") ∷ k (codes "TO") ∷ k (codes "RETURN") ∷ open_bracket ∷ n x ∷ t.Sign s.Comma ∷ n y ∷ close_bracket ∷ n z ∷ n x ∷ colon ∷ []) role.UnitHeading ≡ (x ∷ y ∷ x ∷ [], [], []))
    × (gives (k (codes "HOW") ∷ k (codes "TO") ∷ k (codes "RETURN") ∷ n z ∷ open_bracket ∷ n x ∷ t.Sign s.Comma ∷ n y ∷ close_bracket ∷ colon ∷ []) role.UnitHeading ≡ (x ∷ y ∷ [], [], []))
formals_rows = (refl, refl, refl, refl, refl, refl)

-- SHARE gives none where the item is no unit, and no line with a fault of its tokens gives any
no_unit : (names_of false role.Command (Ok (k (codes "SHARE") ∷ n y ∷ [])) ≡ no_names) × (names_of true role.Command (Err fault.BadByte) ≡ no_names)
no_unit = (refl, refl)

-- ---- items

abbrev row : Edges → List Lexeme → Row
row e ts = record { line = record { indent = e.indent; text = []; long = false }; edges = e; read = Ok ts }

-- HOW TO F:
--   WRITE x
-- x: RETURN y
-- y:
--   IF 1: FAIL
-- x: SUCCEED
-- G: PUT 1 IN z
abbrev refining : List Row
refining = row how_to (k (codes "HOW") ∷ k (codes "TO") ∷ k (codes "F") ∷ colon ∷ [])
    ∷ row (plain 2) (k (codes "WRITE") ∷ n x ∷ [])
    ∷ row (edges 0 first.Heading false false) (n x ∷ colon ∷ k (codes "RETURN") ∷ n y ∷ [])
    ∷ row (heading 0) (n y ∷ colon ∷ [])
    ∷ row (plain 2) (k (codes "IF") ∷ one ∷ colon ∷ k (codes "FAIL") ∷ [])
    ∷ row (edges 0 first.Heading false false) (n x ∷ colon ∷ k (codes "SUCCEED") ∷ [])
    ∷ row (edges 0 first.Heading false false) (k (codes "G") ∷ colon ∷ k (codes "PUT") ∷ one ∷ k (codes "IN") ∷ n z ∷ []) ∷ []

kinds_rows : (refinements refining ≡ record { name = x; kind = refines.Expression } ∷ record { name = y; kind = refines.Test } ∷ record { name = x; kind = refines.Test }
    ∷ record { name = codes "G"; kind = refines.Command } ∷ [])
    × (name_kinds (x ∷ y ∷ z ∷ []) (refinements refining) ≡ Some refines.Expression ∷ Some refines.Test ∷ None ∷ [])
    × (commands_of (refinements refining) ≡ codes "G" ∷ [])
unfolding refinements
kinds_rows = (refl, refl, refl)

-- the targets are no own names of a unit; those of later lines are own from the first line on
own_rows : (own_names (codes "t" ∷ []) refining ≡ x ∷ y ∷ codes "G" ∷ z ∷ [])
    × (own_names (codes "t" ∷ []) (row (plain 0) (k (codes "WRITE") ∷ n (codes "t") ∷ []) ∷ []) ≡ codes "t" ∷ [])
unfolding own_names
own_rows = (refl, refl)
