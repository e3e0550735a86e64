use Rattle.std.proofs.Common.{◌≡◌, ◌+◌, ◌≤◌, length}
use Rattle.abc_formula.specs.TestGrammar.{behind_bracket}
use Rattle.abc_formula.proofs.brackets.closes_part.Given as goal

abbrev pub invariant-loop-token : goal.invariant-loop-token
invariant-loop-token l = (l.open + length l.ahead ≤ length l.tokens) × (behind_bracket l.open l.ahead ≡ behind_bracket 0 l.tokens)

abbrev pub decreases-loop-token : goal.decreases-loop-token
decreases-loop-token l = length l.ahead
