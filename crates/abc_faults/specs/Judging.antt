-- What is found of an item: its fault, or what its lines say.
use Rattle.std.specs.Prelude.{◌≡◌, List, [], ◌∷◌, Some, None}
use Rattle.abc_outline.specs.declared.rows.Row.{Row}
use Rattle.abc_outline.specs.Rows.{IsShort, IsRead}
use Rattle.abc_faults.specs.declared.facts.Facts.{Facts}
use Rattle.abc_faults.specs.declared.judging.Judged.{Judged}
use Rattle.abc_faults.specs.declared.judging.Judged.TheVariants as judged
use Rattle.abc_faults.specs.Faults.{fault_from}
use Rattle.abc_faults.specs.Sayings.{AllSay}

-- a line that can be read: it is no longer than a line may be, and its tokens are spelled
abbrev pub IsFit : Row → Type 0
IsFit row = IsShort row.line × IsRead row

abbrev pub AreFit : List Row → Type 0
AreFit [] = Unit {0}
AreFit (row ∷ rows) = IsFit row × AreFit rows

-- the fault of these lines, or what they say, where they have none
abbrev pub IsJudged : Judged → Facts → List Row → Type 0
IsJudged (judged.Fault at) facts rows = fault_from facts [] rows ≡ Some at
IsJudged (judged.Says lines) facts rows = (fault_from facts [] rows ≡ None) × AllSay facts [] rows lines
