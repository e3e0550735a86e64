-- What is found of one line, step by step.
use Rattle.std.specs.Prelude.{◌≡◌, ◌≤◌, ◌⊎◌, ℕ, true, false, not, ◌&&◌, ◌||◌, nat_lt, List, [], ◌∷◌, ◌++◌, Option, Some, None, if◌then◌else◌}
use Rattle.abc_num.specs.declared.limits.TheConstants.{MOST_LINES}
use Rattle.abc_outline.specs.declared.edges.Place.{Place}
use Rattle.abc_outline.specs.declared.rows.Row.{Row}
use Rattle.abc_outline.specs.Outline.{outline_of}
use Rattle.abc_clauses.specs.declared.clause.Clause.{Clause}
use Rattle.abc_faults.specs.declared.above.Above.{Above}
use Rattle.abc_faults.specs.declared.facts.Facts.{Facts}
use Rattle.abc_faults.specs.declared.fault.FaultKind.{FaultKind}
use Rattle.abc_faults.specs.declared.fault.FaultKind.TheVariants as fault
use Rattle.abc_faults.specs.declared.verdict.Verdict.{Verdict}
use Rattle.abc_faults.specs.declared.verdict.Verdict.TheVariants as verdict
use Rattle.abc_faults.specs.declared.sayings.Saying.{Saying}
use Rattle.abc_faults.specs.declared.sight.Sight.{Sight}
use Rattle.abc_faults.specs.Causes.{KINDS, all_share, bad_indent, bad_place, first_of, is_bad_byte, is_bad_number, is_deeper_next, is_open_text, stands, too_many}
use Rattle.abc_faults.specs.Given.{is_given_name}
use Rattle.abc_faults.specs.Facts.{agrees, clause_of, edges}
use Rattle.abc_faults.specs.Names.{names_so_far, taken}
use Rattle.abc_faults.specs.Sayings.{saying}

-- the first fault of those that are seen before it is known what the line says
abbrev pub early_fault : Place → Row → Option FaultKind
early_fault place row = if row.line.long then Some fault.LineTooLong else (if nat_lt MOST_LINES place.number then Some fault.TooManyLines
    else (if is_bad_byte row.read then Some fault.BadByte else (if is_open_text row.read then Some fault.OpenText
    else (if is_bad_number row.read then Some fault.BadNumber else (if bad_indent place.before place.level place.role row.edges.indent then Some fault.BadIndent else None)))))

-- the first fault of the others
abbrev pub late_fault : Facts → Sight → Row → List Row → Clause → Option FaultKind
late_fault facts sight row below clause = if row.edges.ends_in_colon && not (is_deeper_next row.edges.indent below) then Some fault.EmptySuite
    else (if bad_place facts sight row below clause then Some fault.BadPlace else (if sight.twice || is_given_name clause then Some fault.NameTwice
    else (if too_many sight clause then Some fault.TooMany else None)))

-- what a line is found to be: it says this, and no fault stands, or this is its first fault
abbrev pub Judges : Verdict → Facts → Sight → Row → List Row → Type 0
Judges (verdict.Says clause) facts sight row below =
    (first_of (stands facts sight row below (clause_of facts sight.place row)) KINDS ≡ None) × (clause_of facts sight.place row ≡ Some clause) × (sight.place.number ≤ MOST_LINES)
Judges (verdict.Fault kind) facts sight row below = first_of (stands facts sight row below (clause_of facts sight.place row)) KINDS ≡ Some kind

-- what comes of it: its fault, or one line more that says this
abbrev pub Settles : Verdict → ℕ → Option FaultKind → List Saying → List Saying → Type 0
Settles (verdict.Fault kind) indent found old new = found ≡ Some kind
Settles (verdict.Says clause) indent found old new = (found ≡ None) × (new ≡ old ++ record { indent = indent; clause = clause } ∷ [])

-- what is found of a line: its fault, or what it says, which stands behind what the lines above say
abbrev pub Takes : Option FaultKind → Facts → Sight → Row → List Row → List Saying → List Saying → Type 0
Takes (Some kind) facts sight row below old new = first_of (stands facts sight row below (clause_of facts sight.place row)) KINDS ≡ Some kind
Takes None facts sight row below old new = (first_of (stands facts sight row below (clause_of facts sight.place row)) KINDS ≡ None)
    × (sight.place.number ≤ MOST_LINES) × (clause : Clause) × (clause_of facts sight.place row ≡ Some clause) × (new ≡ old ++ saying row clause ∷ [])

-- what a line is found to be whose tokens say this
abbrev pub JudgesClause : Verdict → Facts → Sight → Row → List Row → Clause → Type 0
JudgesClause (verdict.Says said) facts sight row below clause =
    (agrees row.edges sight.place.role clause ≡ true) × (said ≡ clause) × (late_fault facts sight row below clause ≡ None)
JudgesClause (verdict.Fault kind) facts sight row below clause =
    ((agrees row.edges sight.place.role clause ≡ false) × (kind ≡ fault.BadCommand)) ⊎ ((agrees row.edges sight.place.role clause ≡ true) × (late_fault facts sight row below clause ≡ Some kind))

-- what is kept of the lines above, the last of which is first
abbrev pub above_of : Facts → List Row → Above
above_of facts above = record {
  outline = outline_of facts.setting (edges above);
  taken = taken facts above;
  used = names_so_far facts.names above;
  shares = all_share above;
}
