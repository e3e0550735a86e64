use Rattle.std.proofs.Common.{◌≡◌, ℕ, ◌+◌, ◌*◌, ◌≤◌, All, length, drop}
use Rattle.abc_expressions.specs.Lexemes.{IsSpelled}
use Rattle.abc_expressions.specs.inner.Machine.{converter, reader, run, tree_at, pieces_of}
use Rattle.abc_expressions.specs.inner.Steps.{opens, held}
use Rattle.abc_expressions.proofs.TreeSteps.{after_pieces}
use Rattle.abc_expressions.proofs.tree.+reading.Given as goal

abbrev pub decreases-conversion : goal.decreases-conversion
decreases-conversion l = 8 * l.left

abbrev pub decreases-piece : goal.decreases-piece
decreases-piece l = 8 * l.left + 1

abbrev pub decreases-pieces : goal.decreases-pieces
decreases-pieces l = 8 * l.left + 2

abbrev pub decreases-text : goal.decreases-text
decreases-text l = 8 * l.left + 3

abbrev pub decreases-leaf : goal.decreases-leaf
decreases-leaf l = 8 * l.left + 4

abbrev pub decreases-operand_at : goal.decreases-operand_at
decreases-operand_at l = 8 * l.left + 5

abbrev pub decreases-advance : goal.decreases-advance
decreases-advance l = 8 * l.state.now.left + 6

abbrev pub decreases-read_tree : goal.decreases-read_tree
decreases-read_tree l = 8 * l.left + 7

abbrev pub invariant-pieces-loop-part : goal.invariant-pieces-loop-part
invariant-pieces-loop-part l = (c : ℕ) → l.left ≤ c
    → after_pieces l.pieces (pieces_of (converter l.own c) l.left (drop l.part-index l.parts)) ≡ pieces_of (converter l.own c) l.left l.parts

abbrev pub invariant-read_tree-loop-token : goal.invariant-read_tree-loop-token
invariant-read_tree-loop-token l = (l.state.most ≡ l.left) × (l.state.left + (opens l.state.stack + held l.turn) ≤ l.state.most) × All IsSpelled l.ahead
    × ((c : ℕ) → l.left ≤ c → run (reader l.own c) l.own l.ahead l.state.left l.state.stack l.turn ≡ tree_at l.fn.least l.fn.whole (reader l.own c) l.own l.left l.tokens)

abbrev pub decreases-read_tree-loop-token : goal.decreases-read_tree-loop-token
decreases-read_tree-loop-token l = length l.ahead
