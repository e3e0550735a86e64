use Rattle.std.proofs.Common.{◌≡◌, ◌≤◌, ◌-◌, length, Bool}
use Rattle.abc_tokens.specs.inner.Reads.{found_from}
use Rattle.abc_tokens.proofs.scan.token_start.Given as goal

abbrev pub invariant-loop-start : goal.invariant-loop-start
invariant-loop-start l = (l.at ≤ l.start) × (l.start ≤ length l.line) × ((loose : Bool) → found_from loose l.line l.at ≡ found_from loose l.line l.start)

abbrev pub decreases-loop-start : goal.decreases-loop-start
decreases-loop-start l = length l.line - l.start
