use Rattle.std.proofs.Common.{map, drop}
use Rattle.abc_print.specs.Lexemes.{seen}
use Rattle.abc_print.proofs.Lining.{IsAt}
use Rattle.abc_print.proofs.lexing.lexemes.Given as goal

abbrev pub invariant-loop-token : goal.invariant-loop-token
invariant-loop-token l = IsAt (map (seen l.line) l.tokens) l.all.items (drop l.token-index (map (seen l.line) l.tokens)) l.state
