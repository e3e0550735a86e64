-- What is wrong with a line, kind by kind.
use Rattle.std.specs.Prelude.{ℕ, ◌+◌, Bool, true, false, not, ◌&&◌, ◌||◌, ◌==◌, nat_lt, nat_le, List, [], ◌∷◌, length, Option, Some, None, is_none, Result, Ok, Err, codes, if◌then◌else◌}
use Rattle.abc_num.specs.declared.limits.TheConstants.{MOST_LINES, MOST_NAMES, MOST_FORMALS, MOST_SUITES}
use Rattle.abc_tokens.specs.declared.kinds.TokenFault.{TokenFault}
use Rattle.abc_tokens.specs.declared.kinds.TokenFault.TheVariants as token
use Rattle.abc_tree.specs.declared.commands.ActionNode.{ActionNode}
use Rattle.abc_expressions.specs.declared.lexemes.Lexeme.{Lexeme}
use Rattle.abc_formula.specs.TestGrammar.{is_keyword}
use Rattle.abc_outline.specs.declared.edges.Edges.{Edges}
use Rattle.abc_outline.specs.declared.edges.Place.{Place}
use Rattle.abc_outline.specs.declared.edges.Role.{Role}
use Rattle.abc_outline.specs.declared.edges.Role.TheVariants as role
use Rattle.abc_outline.specs.declared.edges.Section.{Section}
use Rattle.abc_outline.specs.declared.rows.Row.{Row}
use Rattle.abc_outline.specs.Outline.{is_refinement}
use Rattle.abc_clauses.specs.declared.clause.Clause.{Clause}
use Rattle.abc_clauses.specs.declared.clause.Head.{Head}
use Rattle.abc_clauses.specs.declared.clause.Head.TheVariants as head
use Rattle.abc_faults.specs.declared.facts.Facts.{Facts}
use Rattle.abc_faults.specs.declared.fault.FaultKind.{FaultKind}
use Rattle.abc_faults.specs.declared.fault.FaultKind.TheVariants as fault
use Rattle.abc_faults.specs.declared.sight.Sight.{Sight}
use Rattle.abc_clauses.specs.Formulas.{is_misplaced, is_too_high}
use Rattle.abc_faults.specs.Given.{is_given_name}
use Rattle.abc_faults.specs.declared.exits.Exits.{Exits}
use Rattle.abc_faults.specs.Exits.{exits_at, leaves_badly}
use Rattle.abc_faults.specs.Facts.{place_below, clause_of}
use Rattle.abc_faults.specs.Names.{taken, names_here, twice, names_so_far}

-- ---- tokens

abbrev pub is_bad_byte : Result (List Lexeme) TokenFault → Bool
is_bad_byte (Err token.BadByte) = true
is_bad_byte _ = false

abbrev pub is_open_text : Result (List Lexeme) TokenFault → Bool
is_open_text (Err token.OpenText) = true
is_open_text _ = false

abbrev pub is_bad_number : Result (List Lexeme) TokenFault → Bool
is_bad_number (Err token.BadNumber) = true
is_bad_number _ = false

-- ---- indentation

-- The first line is indented; or a line is deeper than the one before, which doesn't end in a colon; or it isn't deeper, no
-- refinement heading, and at indentation 0 or at that of no suite round it.
abbrev pub bad_indent : Option Edges → Bool → Role → ℕ → Bool
bad_indent None level role indent = nat_lt 0 indent
bad_indent (Some before) level role indent =
    if nat_lt before.indent indent then not before.ends_in_colon else not (is_refinement role) && ((indent == 0) || not level)

-- the next line is deeper
abbrev pub is_deeper_next : ℕ → List Row → Bool
is_deeper_next indent [] = false
is_deeper_next indent (row ∷ rows) = nat_lt indent row.edges.indent

-- ---- places

-- another line of the same suite follows
abbrev pub goes_on : ℕ → List Row → Bool
goes_on indent [] = false
goes_on indent (row ∷ rows) = if nat_lt indent row.edges.indent then goes_on indent rows else row.edges.indent == indent

abbrev pub beside_leaves_badly : Exits → Option ActionNode → Bool
beside_leaves_badly exits None = false
beside_leaves_badly exits (Some node) = leaves_badly exits node

abbrev pub is_alternative : Role → Bool
is_alternative role.Alternative = true
is_alternative _ = false

-- SHARE stands directly in the body of a unit, before all else
abbrev pub may_share : Facts → Sight → Bool
may_share facts sight = facts.setting.unit && (is_none sight.place.section && ((sight.place.suites == 1) && sight.shares))

-- ELSE is the last alternative of a SELECT
abbrev pub head_misplaced : Facts → Sight → ℕ → List Row → Head → Bool
head_misplaced facts sight indent below (head.Simple node) = leaves_badly (exits_at facts sight.place) node
head_misplaced facts sight indent below (head.Share names) = not (may_share facts sight)
head_misplaced facts sight indent below head.Otherwise = not (is_alternative sight.place.role) || goes_on indent below
head_misplaced facts sight indent below _ = false

-- a command of the unit behind a refinement: no heading, and no deeper than the last one
abbrev pub behind_refinement : Role → ℕ → Option Section → Bool
behind_refinement role indent None = false
behind_refinement role indent (Some section) = not (is_refinement role) && nat_le indent section.indent

abbrev pub bad_place : Facts → Sight → Row → List Row → Clause → Bool
bad_place facts sight row below clause =
    head_misplaced facts sight row.edges.indent below clause.head || (beside_leaves_badly (exits_at facts sight.place) clause.beside
    || (behind_refinement sight.place.role row.edges.indent sight.place.section || is_misplaced facts.names facts.kinds clause))

-- ---- counts

abbrev pub count_beside : Option ActionNode → ℕ
count_beside None = 0
count_beside (Some node) = 1

abbrev pub places_in : Head → ℕ
places_in (head.Unit f formals) = length formals
places_in _ = 0

-- more suites are open, a formula is higher, more names were used, or a unit has more formals than may be
abbrev pub too_many : Sight → Clause → Bool
too_many sight clause =
    nat_lt MOST_SUITES (sight.place.suites + count_beside clause.beside) || (is_too_high clause
    || (nat_lt MOST_NAMES sight.names || nat_lt MOST_FORMALS (places_in clause.head)))

-- ---- the table

-- what a test says of what is there
abbrev pub where_said : Option Clause → (Clause → Bool) → Bool
where_said None test = false
where_said (Some clause) test = test clause

-- whether a fault of this kind stands in a line with these lines below it, which says this
abbrev pub stands : Facts → Sight → Row → List Row → Option Clause → FaultKind → Bool
stands facts sight row below clause fault.LineTooLong = row.line.long
stands facts sight row below clause fault.TooManyLines = nat_lt MOST_LINES sight.place.number
stands facts sight row below clause fault.BadByte = is_bad_byte row.read
stands facts sight row below clause fault.OpenText = is_open_text row.read
stands facts sight row below clause fault.BadNumber = is_bad_number row.read
stands facts sight row below clause fault.BadIndent = bad_indent sight.place.before sight.place.level sight.place.role row.edges.indent
stands facts sight row below clause fault.BadCommand = is_none clause
stands facts sight row below clause fault.EmptySuite = row.edges.ends_in_colon && not (is_deeper_next row.edges.indent below)
stands facts sight row below clause fault.BadPlace = where_said clause (bad_place facts sight row below)
stands facts sight row below clause fault.NameTwice = sight.twice || where_said clause is_given_name
stands facts sight row below clause fault.TooMany = where_said clause (too_many sight)

-- the kinds, in the order in which they count on one line
abbrev pub KINDS : List FaultKind
KINDS = fault.LineTooLong ∷ fault.TooManyLines ∷ fault.BadByte ∷ fault.OpenText ∷ fault.BadNumber ∷ fault.BadIndent ∷ fault.BadCommand ∷ fault.EmptySuite
    ∷ fault.BadPlace ∷ fault.NameTwice ∷ fault.TooMany ∷ []

-- the first of these kinds of which a test is true
abbrev pub first_of : (FaultKind → Bool) → List FaultKind → Option FaultKind
first_of test [] = None
first_of test (kind ∷ kinds) = if test kind then Some kind else first_of test kinds

-- ---- a line in its item

-- a line that begins with SHARE
abbrev pub begins_share : List Lexeme → Bool
begins_share [] = false
begins_share (token ∷ ts) = is_keyword (codes "SHARE") token

abbrev pub is_share : Result (List Lexeme) TokenFault → Bool
is_share (Ok ts) = begins_share ts
is_share (Err fault) = false

-- all lines above, the last of which is first, but the first of the item share names
abbrev pub all_share : List Row → Bool
all_share [] = true
all_share (row ∷ []) = true
all_share (row ∷ row_2 ∷ above) = is_share row.read && all_share (row_2 ∷ above)

-- what the lines above decide of a line
abbrev pub sight_of : Facts → List Row → Row → Sight
sight_of facts above row = record {
  place = place_below facts above row;
  shares = all_share above;
  twice = twice (taken facts above) (names_here facts above row);
  names = length (names_so_far facts.names (row ∷ above));
}

-- whether a fault of this kind stands in a line between these
abbrev pub stands_between : Facts → List Row → Row → List Row → FaultKind → Bool
stands_between facts above row below = stands facts (sight_of facts above row) row below (clause_of facts (place_below facts above row) row)

-- the first fault of a line
abbrev pub cause : Facts → List Row → Row → List Row → Option FaultKind
cause facts above row below = first_of (stands_between facts above row below) KINDS
