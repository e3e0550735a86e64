use Rattle.std.proofs.Common.{◌≡◌, ◌-◌, ◌≤◌, ◌++◌, codes}
use Rattle.abc_make.specs.Input.{line, put_lines}
use Rattle.abc_make.proofs.input.input_of.Given as goal

abbrev pub invariant-puts : goal.invariant-puts
invariant-puts l = (l.bytes.items ≡ (line (codes "PUT {} IN t") ++ line (codes "HOW TO RETURN half n: RETURN floor (n/2)")) ++ put_lines l.count) × (l.count ≤ l.n)

abbrev pub decreases-puts : goal.decreases-puts
decreases-puts l = l.n - l.count
