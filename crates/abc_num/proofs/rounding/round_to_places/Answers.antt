use Rattle.std.proofs.Common.{sym, subst, pos, ◌≤◌, ◌^◌, ◌*◌, ◌+◌, ◌≡◌, ap, ◌∙◌, ◌%◌, arith}
use mir.Val.{bool_byte}
use Rattle.abc_num.specs.Ratio.{IsRatio}
use Rattle.abc_num.specs.Rounding.{away_of}
use Rattle.abc_num.proofs.Digits.{power-positive}
use Rattle.abc_num.proofs.Places.{few_places, all_places, no_places}
use Rattle.abc_num.proofs.Decimal.{tens-at_most}
use Rattle.abc_num.proofs.Ratios.{IsRatio-none}
use Rattle.abc_num.proofs.rounding.round_to_places.Goals as goal

pub returns-then-divides_power : goal.returns-then-divides_power
returns-then-divides_power c =
    all_places c.args.x.negative c.args.x.top c.args.x.bottom _ c.bounded.result (omega (arith, c.requires.bottom.0)) (power-positive 10 c.args.places (omega arith)) c.if-divides_power.ensures.divides c.bounded.ensures

pub returns : goal.returns
returns c =
    let x = c.args.x in
    let d = c.decimals_of-decimals in
    let value : x.top % x.bottom * 10 ^ c.args.places ≡ d.result.digits * x.bottom + d.result.rest = ap (λ p. x.top % x.bottom * p) (sym d.ensures.power) ∙ d.ensures.value in
    let near = few_places x.negative x.top x.bottom (10 ^ c.args.places) d.result.digits d.result.rest value d.ensures.rest in
    let away : c.from.result ≡ bool_byte (away_of x.negative d.result.rest x.bottom) = c.from.ensures ∙ ap bool_byte c.is_away-away.ensures in
    let whole = rw (away, d.ensures.power) at c.with_whole.ensures in
    subst (λ z. IsRatio z (pos (10 ^ c.args.places)) c.with_whole.result) (sym near) whole

pub returns-else-divides_power : goal.returns-else-divides_power
returns-else-divides_power c =
    let x = c.args.x in
    let many : 10 ^ 38 ≤ 10 ^ c.args.places = tens-at_most 38 c.args.places (omega (arith, c.if-places-gt37.true)) in
    IsRatio-none _ _ (no_places x.negative x.top x.bottom (10 ^ c.args.places) c.requires.lowest c.requires.bottom.0 c.requires.bottom.1 many c.if-divides_power.ensures.divides_not)
