use Rattle.std.proofs.Common.{◌≡◌, ◌≤◌, List, [], ◌++◌, length}
use Rattle.abc_num.specs.declared.limits.TheConstants.{MOST_LINES}
use Rattle.abc_outline.specs.declared.rows.Row.{Row}
use Rattle.abc_faults.specs.declared.sayings.Saying.{Saying}
use Rattle.abc_faults.specs.Faults.{fault_from}
use Rattle.abc_faults.specs.Judging.{AreFit}
use Rattle.abc_faults.specs.Sayings.{AllSay}
use Rattle.abc_faults.specs.inner.Verdicts.{above_of}
use Rattle.abc_faults.proofs.judging.judge.Given as goal

-- some lines stand above, of which no fault is known, and these say what is kept
abbrev pub invariant-loop-row : goal.invariant-loop-row
invariant-loop-row l = AreFit l.ahead × (rows : List Row) × (l.above ≡ above_of l.fn.facts rows) × (length rows ≤ MOST_LINES)
    × (fault_from l.fn.facts rows l.ahead ≡ fault_from l.fn.facts [] l.fn.rows)
    × ((more : List Saying) → AllSay l.fn.facts rows l.ahead more → AllSay l.fn.facts [] l.fn.rows (l.lines ++ more))

abbrev pub decreases-loop-row : goal.decreases-loop-row
decreases-loop-row l = length l.ahead
