use Rattle.std.proofs.Common.{◌≡◌, length, All}
use Rattle.abc_expressions.specs.Lexemes.{IsSpelled}
use Rattle.abc_clauses.specs.Readings.{words_of}
use Rattle.abc_clauses.specs.inner.Views.{seen_call, with_rest}
use Rattle.abc_clauses.proofs.calls.words.Given as goal

abbrev pub invariant-loop-first : goal.invariant-loop-first
invariant-loop-first l = All IsSpelled l.ahead × (with_rest (seen_call l.calling) (words_of l.own l.ahead) ≡ words_of l.own l.tokens)

abbrev pub decreases-loop-first : goal.decreases-loop-first
decreases-loop-first l = length l.ahead
