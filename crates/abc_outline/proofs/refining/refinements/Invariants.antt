use Rattle.std.proofs.Common.{◌≡◌, ◌+◌, ◌++◌, List, [], length}
use Rattle.abc_outline.specs.declared.edges.Edges.{Edges}
use Rattle.abc_outline.specs.Outline.{outline_of, setting_of}
use Rattle.abc_outline.specs.Refinements.{refined_from, reports_up_to_heading}
use Rattle.abc_outline.specs.inner.Scanning.{with_told}
use Rattle.abc_outline.proofs.refining.refinements.Given as goal

abbrev pub invariant-loop-row : goal.invariant-loop-row
invariant-loop-row l = (above : List Edges) × (l.outline ≡ outline_of (setting_of l.fn.rows) above) × (length above + length l.ahead ≡ length l.fn.rows)
    × (with_told (reports_up_to_heading (setting_of l.fn.rows) above l.ahead) l.found.items ++ refined_from (setting_of l.fn.rows) above l.ahead ≡ refined_from (setting_of l.fn.rows) [] l.fn.rows)

abbrev pub decreases-loop-row : goal.decreases-loop-row
decreases-loop-row l = length l.ahead
