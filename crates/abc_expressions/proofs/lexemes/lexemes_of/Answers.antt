use Rattle.std.proofs.Common.{◌≤◌, ◌∙◌, All, length, map, ap, sym, subst, arith}
use Rattle.std.proofs.lemmas.List.{take_all}
use Rattle.abc_expressions.specs.Lexemes.{seen, IsSpelled}
use Rattle.abc_expressions.proofs.TokenParts.{spelled_part}
use Rattle.abc_expressions.proofs.lexemes.lexemes_of.Goals as goal

pub returns-clause-spelled : goal.returns-clause-spelled
returns-clause-spelled c part =
    let over : length c.args.tokens.now ≤ c.loop-token.token-index = grind (arith, c.loop-token-test.false) in
    subst (All IsSpelled) (sym (c.loop-token.invariant ∙ ap (map (seen c.args.line.now)) (take_all c.loop-token.token-index c.args.tokens.now over))) (spelled_part c.args.line.now c.args.tokens.now part)
