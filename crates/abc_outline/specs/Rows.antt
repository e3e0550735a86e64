-- What is read of each line of an item by itself.
use Rattle.std.specs.Prelude.{◌≤◌, ℕ, All, List, length, map, codes, Result, Ok, Err}
use Rattle.abc_num.specs.declared.limits.TheConstants.{MOST_LINE_BYTES}
use Rattle.abc_num.specs.declared.lines.Line.{Line}
use Rattle.abc_tokens.specs.declared.kinds.Token.{Token}
use Rattle.abc_tokens.specs.declared.kinds.TokenFault.{TokenFault}
use Rattle.abc_tokens.specs.ReadLine.{read_line}
use Rattle.abc_tokens.specs.Shape.{shape_of, is_first}
use Rattle.abc_expressions.specs.declared.lexemes.Lexeme.{Lexeme}
use Rattle.abc_expressions.specs.Lexemes.{seen, IsSpelled}
use Rattle.abc_outline.specs.declared.edges.Edges.{Edges}
use Rattle.abc_outline.specs.declared.rows.Row.{Row}

abbrev pub all_seen : List ℕ → Result (List Token) TokenFault → Result (List Lexeme) TokenFault
all_seen text (Ok ts) = Ok (map (seen text) ts)
all_seen text (Err fault) = Err fault

-- the tokens of a text as the grammar sees them, or their fault
unfoldable pub read_of : List ℕ → Result (List Lexeme) TokenFault
read_of text = all_seen text (read_line text)

-- How a line begins and ends, also where it has a fault: a text that isn't closed is one token up to the end of the line.
unfoldable pub edges_of : Line → Edges
edges_of line = record {
  indent = line.indent;
  first = (shape_of line.text).first;
  selects = is_first line.text (codes "SELECT");
  ends_in_colon = (shape_of line.text).ends_in_colon;
}

-- a line and what is read of it by itself
abbrev pub row_of : Line → Row
row_of line = record { line = line; edges = edges_of line; read = read_of line.text }

-- the lines of an item
abbrev pub rows_of : List Line → List Row
rows_of lines = map row_of lines

-- the text of a line has no more bytes than a line may have
abbrev pub IsShort : Line → Type 0
IsShort line = length line.text ≤ MOST_LINE_BYTES

-- the tokens are spelled as the readings of formulas want them
abbrev pub AreSpelled : Result (List Lexeme) TokenFault → Type 0
AreSpelled (Ok ts) = All IsSpelled ts
AreSpelled (Err fault) = Unit {0}

abbrev pub IsRead : Row → Type 0
IsRead row = AreSpelled row.read
