use Rattle.std.proofs.Common.{subst, sym, ◌∙◌}
use Rattle.std.specs.Prelude.{All}
use Rattle.abc_num.specs.Literal.{IsDigit}
use Rattle.abc_num.proofs.Ratios.{IsRatio-number, IsRatio-no_number}
use Rattle.abc_num.proofs.Spelling.{front_digits, behind_digits}
use Rattle.abc_num.proofs.literal.read_literal.Goals as goal

pub read_parts-requires-clause-front : goal.read_parts-requires-clause-front
read_parts-requires-clause-front c = subst (All IsDigit) (sym c.point_of-point.ensures.front) (front_digits c.args.b.now c.requires)

pub read_parts-requires-clause-decimals : goal.read_parts-requires-clause-decimals
read_parts-requires-clause-decimals c = subst (All IsDigit) (sym (c.behind_point.ensures ∙ c.point_of-point.ensures.behind)) (behind_digits c.args.b.now c.requires)

pub returns-in-Ok-clause-ok : goal.returns-in-Ok-clause-ok
returns-in-Ok-clause-ok c =
    let back = c.behind_point.ensures ∙ c.point_of-point.ensures.behind in
    let value = rw (c.point_of-point.ensures.front, back) at c.in-Ok.ensures in
    IsRatio-number _ _ _ value

pub returns-in-Err-clause-bad : goal.returns-in-Err-clause-bad
returns-in-Err-clause-bad c =
    let back = c.behind_point.ensures ∙ c.point_of-point.ensures.behind in
    let value = rw (c.point_of-point.ensures.front, back) at c.in-Err.ensures in
    IsRatio-no_number _ _ _ value
