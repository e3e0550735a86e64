-- What the lines of an item say.
use Rattle.std.specs.Prelude.{◌≡◌, List, [], ◌∷◌, Some}
use Rattle.abc_clauses.specs.declared.clause.Clause.{Clause}
use Rattle.abc_outline.specs.declared.rows.Row.{Row}
use Rattle.abc_faults.specs.declared.facts.Facts.{Facts}
use Rattle.abc_faults.specs.declared.sayings.Saying.{Saying}
use Rattle.abc_faults.specs.Facts.{place_below, clause_of}

-- what a line says, with its indentation
abbrev pub saying : Row → Clause → Saying
saying row clause = record { indent = row.edges.indent; clause = clause }

-- what the lines from here on say, with these above, the last of which is first
pub data AllSay (facts : Facts) : List Row → List Row → List Saying → Type 0 where
  stop : {above : List Row} → AllSay facts above [] []
  next_line : {above rows : List Row} {row : Row} {clause : Clause} {lines : List Saying} → clause_of facts (place_below facts above row) row ≡ Some clause
      → AllSay facts (row ∷ above) rows lines → AllSay facts above (row ∷ rows) (saying row clause ∷ lines)
