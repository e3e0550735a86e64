-- The fault of an item: the first faulty line, with the first fault there.
use Rattle.std.specs.Prelude.{◌≡◌, ℕ, ◌+◌, ◌<◌, ◌≤◌, ◌⊎◌, true, List, [], ◌∷◌, length, Option, Some, None, option_map, if◌then◌else◌}
use Rattle.abc_num.specs.declared.lines.Line.{Line}
use Rattle.abc_outline.specs.declared.rows.Row.{Row}
use Rattle.abc_faults.specs.declared.facts.Facts.{Facts}
use Rattle.abc_faults.specs.declared.fault.Fault.{Fault}
use Rattle.abc_faults.specs.declared.fault.FaultKind.{FaultKind}
use Rattle.abc_faults.specs.declared.fault.FaultKind.TheVariants as fault
use Rattle.abc_faults.specs.Causes.{cause, stands_between}
use Rattle.abc_faults.specs.Environments.{is_environment, environment_fault}
use Rattle.abc_faults.specs.Facts.{facts_of}
use Rattle.abc_outline.specs.Rows.{rows_of}

abbrev pub or_else : Option FaultKind → ℕ → Option Fault → Option Fault
or_else (Some kind) n more = Some (record { line = n; kind = kind })
or_else None n more = more

-- the fault of the lines from here on, with these above, the last of which is first
abbrev pub fault_from : Facts → List Row → List Row → Option Fault
fault_from facts above [] = None
fault_from facts above (row ∷ below) = or_else (cause facts above row below) (length above + 1) (fault_from facts (row ∷ above) below)

-- a fault of this kind stands in the line of this number
pub data StandsAt (facts : Facts) : List Row → List Row → ℕ → FaultKind → Type 0 where
  here : {above below : List Row} {row : Row} {kind : FaultKind} → stands_between facts above row below kind ≡ true
      → StandsAt facts above (row ∷ below) (length above + 1) kind
  there : {above below : List Row} {row : Row} {n : ℕ} {kind : FaultKind} → StandsAt facts (row ∷ above) below n kind
      → StandsAt facts above (row ∷ below) n kind

-- the place of a kind in the order of faults on one line
abbrev pub rank : FaultKind → ℕ
rank fault.LineTooLong = 0
rank fault.TooManyLines = 1
rank fault.BadByte = 2
rank fault.OpenText = 3
rank fault.BadNumber = 4
rank fault.BadIndent = 5
rank fault.BadCommand = 6
rank fault.EmptySuite = 7
rank fault.BadPlace = 8
rank fault.NameTwice = 9
rank fault.TooMany = 10

-- earlier, or in the same line and no later in the order of the kinds
abbrev pub NoLater : Fault → ℕ → FaultKind → Type 0
NoLater at n kind = (at.line < n) ⊎ ((at.line ≡ n) × (rank at.kind ≤ rank kind))

-- a fault that stands and none that stands earlier
abbrev pub IsFirst : Facts → List Row → Fault → Type 0
IsFirst facts rows at = StandsAt facts [] rows at.line at.kind × ((n : ℕ) (kind : FaultKind) → StandsAt facts [] rows n kind → NoLater at n kind)

-- the fault of an item
abbrev pub fault_of_rows : List (List ℕ) → List Row → Option Fault
fault_of_rows targets [] = None
fault_of_rows targets (row ∷ rows) = if is_environment (row ∷ rows) then option_map (λ kind. record { line = 1; kind = kind }) (environment_fault row)
    else fault_from (facts_of targets (row ∷ rows)) [] (row ∷ rows)

abbrev pub item_fault : List Line → List (List ℕ) → Option Fault
item_fault lines targets = fault_of_rows targets (rows_of lines)
