use Rattle.std.proofs.Common.{ℕ, ◌+◌, ◌*◌, ◌≤◌, length, All}
use Rattle.abc_expressions.specs.Lexemes.{IsSpelled}
use Rattle.abc_expressions.specs.inner.Machine.{reader}
use Rattle.abc_formula.proofs.TestTurns.{TestIs}
use Rattle.abc_formula.proofs.testing.+testing.Given as goal

abbrev pub decreases-round : goal.decreases-round
decreases-round l = 4 * l.left

abbrev pub decreases-part_in_front : goal.decreases-part_in_front
decreases-part_in_front l = 4 * l.left + 1

abbrev pub decreases-read_part : goal.decreases-read_part
decreases-read_part l = 4 * l.left + 2

abbrev pub decreases-test_in_front : goal.decreases-test_in_front
decreases-test_in_front l = 4 * l.left + 3

abbrev pub invariant-test_in_front-loop-frames : goal.invariant-test_in_front-loop-frames
invariant-test_in_front-loop-frames l = (length l.ahead ≤ length l.tokens) × All IsSpelled l.ahead
    × ((c n : ℕ) → l.left ≤ c → length l.tokens ≤ n → TestIs (reader l.own c) l.own l.left n l.tokens l.frames l.place l.ahead)

abbrev pub decreases-test_in_front-loop-frames : goal.decreases-test_in_front-loop-frames
decreases-test_in_front-loop-frames l = length l.ahead
