use Rattle.abc_tokens.proofs.EndsSteps.{shape_found, behind_front}
use Rattle.abc_tokens.proofs.TokenLaws.{are_tokens}
use Rattle.abc_tokens.proofs.shaping.shape.Goals as goal

pub returns-clause-by_tokens : goal.returns-clause-by_tokens
returns-clause-by_tokens c =
    let p = shape_found c.args.line.now _ c.ends_of-ends.result _ (behind_front c.args.line.now c.front_of-front.result.bytes c.front_of-front.ensures.text)
    c.ends_of-ends.ensures c.is_blank.ensures c.front_of-front.ensures.columns c.is_spelled.ensures c.beginning.ensures in
    (p.0, p.1, are_tokens _ _ _ _ _ p.2, p.3)
