use Rattle.std.proofs.Common.{ℕ, ◌≤◌, length, All}
use Rattle.abc_expressions.specs.Lexemes.{IsSpelled}
use Rattle.abc_expressions.specs.inner.Machine.{reader}
use Rattle.abc_formula.proofs.TestTurns.{LinksAre}
use Rattle.abc_formula.proofs.testing.links_in.Given as goal

abbrev pub invariant-loop-token : goal.invariant-loop-token
invariant-loop-token l = (length l.ahead ≤ length l.tokens) × All IsSpelled l.ahead
    × ((c n : ℕ) → l.left ≤ c → length l.tokens ≤ n → LinksAre (reader l.own c) l.own l.left n l.tokens l.links l.ahead)

abbrev pub decreases-loop-token : goal.decreases-loop-token
decreases-loop-token l = length l.ahead
