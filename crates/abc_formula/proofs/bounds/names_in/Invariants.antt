use Rattle.std.proofs.Common.{◌≡◌, ◌+◌, ◌≤◌, ◌∷◌, [], true, length, All}
use Rattle.abc_expressions.specs.Lexemes.{IsSpelled}
use Rattle.abc_formula.specs.inner.TestMachine.{names_in}
use Rattle.abc_formula.proofs.bounds.names_in.Given as goal

abbrev pub invariant-loop-token : goal.invariant-loop-token
invariant-loop-token l = (length l.ahead ≤ length l.tokens) × All IsSpelled l.ahead × (l.naming.left + length l.naming.groups ≤ l.fn.left + 1) × (l.naming.fewest ≡ l.fn.fewest)
    × (names_in l.own l.fn.fewest l.fn.how l.ahead l.naming.left l.naming.groups l.wants ≡ names_in l.own l.fn.fewest l.fn.how l.tokens l.fn.left ([] ∷ []) true)

abbrev pub decreases-loop-token : goal.decreases-loop-token
decreases-loop-token l = length l.ahead
