use Rattle.std.proofs.Common.{◌≡◌, length}
use Rattle.abc_print.specs.inner.Machine.{run, value_of}
use Rattle.abc_print.proofs.reading.value.Given as goal

abbrev pub invariant-loop-lexeme : goal.invariant-loop-lexeme
invariant-loop-lexeme l = run l.ahead.items l.stack l.turn ≡ value_of l.fn.lexemes.items

abbrev pub decreases-loop-lexeme : goal.decreases-loop-lexeme
decreases-loop-lexeme l = length l.ahead.items
