use Rattle.std.proofs.Common.{◌≡◌, map, take}
use Rattle.abc_expressions.specs.Lexemes.{seen}
use Rattle.abc_expressions.proofs.lexemes.lexemes_of.Given as goal

abbrev pub invariant-loop-token : goal.invariant-loop-token
invariant-loop-token l = l.lexemes ≡ map (seen l.line) (take l.token-index l.tokens)
