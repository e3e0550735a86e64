use Rattle.std.proofs.Common.{◌≡◌, ◌<◌, ◌≤◌, ◌*◌, ◌+◌, ◌/◌, ◌%◌, ◌^◌, ◌*ℤ◌, ℕ, pos, sym, ◌∙◌, subst, arith}
use Rattle.std.proofs.Math.Nat.{mod-lt}
use Rattle.abc_num.specs.Number.{signed}
use Rattle.abc_num.specs.Ratio.{IsRatio}
use Rattle.abc_num.specs.Rounding.{nearest_of, away_of}
use Rattle.abc_num.proofs.Decimal.{tens-at_most}
use Rattle.abc_num.proofs.Digits.{power-positive}
use Rattle.abc_num.proofs.Divisors.{coprime_one}
use Rattle.abc_num.proofs.Tens.{round_tens, round_away, even_power, away_negative, away_otherwise}
use Rattle.abc_num.proofs.rounding.round_to_power.Goals as goal
use Rattle.abc_num.proofs.rounding.round_to_power.Goals.{then-x, else-x}

pub returns-then-places-gt38 : goal.returns-then-places-gt38
returns-then-places-gt38 c =
    let x = c.args.x in
    let many : 10 ^ 39 ≤ 10 ^ c.args.places = tens-at_most 39 c.args.places (omega (arith, c.if-places-gt38.true)) in
    let none = round_away x.negative x.top x.bottom (10 ^ c.args.places) c.requires.positive (omega (arith, c.requires.top)) in
    subst (λ z. IsRatio z (pos 1) c.bounded.result) (sym none) c.bounded.ensures

pub nonzero_rem-whole : goal.nonzero_rem-whole
nonzero_rem-whole c = omega (arith, power-positive 10 c.args.places (omega arith), c.power_of_ten-power.ensures.power)

pub nonzero_div-whole-2 : goal.nonzero_div-whole-2
nonzero_div-whole-2 c = omega (arith, power-positive 10 c.args.places (omega arith), c.power_of_ten-power.ensures.power)

pub is_away-away-requires : goal.is_away-away-requires
is_away-away-requires c =
    let positive : 0 < c.power_of_ten-power.result = omega (arith, power-positive 10 c.args.places (omega arith), c.power_of_ten-power.ensures.power) in
    (mod-lt _ positive, omega (arith, c.power_of_ten-power.ensures.small))

pub bounded-requires-2-clause-lowest : goal.bounded-requires-2-clause-lowest
bounded-requires-2-clause-lowest c = coprime_one _

pub returns : goal.returns
returns c =
    let x = c.args.x in
    let t = c.power_of_ten-power.result in
    let u = c.is_away-away.result in
    let power = c.power_of_ten-power.ensures.power in
    let positive : 0 < t = omega (arith, power-positive 10 c.args.places (omega arith), power) in
    let half = power ∙ even_power c.args.places c.requires.places in
    let rest = mod-lt x.top c.requires.positive in
    let away : away_of x.negative (x.top / x.bottom % t * x.bottom + x.top % x.bottom) (x.bottom * t) ≡ u = elim c.if-x.branch [
      | then-x w ↦ away_negative x.negative c.if-x.is_away x.bottom t _ (x.top / x.bottom % t) (x.top % x.bottom) half rest w.if-x.true w.is_away-is
      | else-x w ↦ away_otherwise x.negative c.if-x.is_away x.bottom t _ (x.top / x.bottom % t) (x.top % x.bottom) half rest w.if-x.false w.is_away-is
    ] ∙ sym c.is_away-away.ensures in
    let value = round_tens x.negative u x.top x.bottom t c.requires.positive positive away in
    let P : ℕ → Type 0 = λ p. IsRatio (nearest_of (signed x.negative x.top) (x.bottom * p) *ℤ pos p) (pos 1) c.bounded-2.result in
    subst P power (subst (λ z. IsRatio z (pos 1) c.bounded-2.result) (sym value) (rw c.from.ensures at c.bounded-2.ensures))
