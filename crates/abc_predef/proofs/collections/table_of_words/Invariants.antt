use Rattle.std.proofs.Common.{length}
use Rattle.abc_predef.proofs.WordTables.{HasWords}
use Rattle.abc_predef.proofs.collections.table_of_words.Given as goal

abbrev pub invariant-loop-rest : goal.invariant-loop-rest
invariant-loop-rest l = HasWords l.b l.words l.rest

abbrev pub decreases-loop-rest : goal.decreases-loop-rest
decreases-loop-rest l = length l.rest
