use Rattle.std.proofs.Common.{◌≡◌, ap, sym, ◌∙◌, ◌/◌, ◌+◌}
use Rattle.std.specs.Prelude.{if◌then◌else◌}
use Rattle.abc_num.specs.Number.{whole_number, signed}
use Rattle.abc_num.specs.Rounding.{floor_of}
use Rattle.abc_num.proofs.Nearest.{floor-negative, floor-positive}
use Rattle.abc_num.proofs.number.Num.floor.Goals as goal
use Rattle.abc_num.proofs.number.Num.floor.Goals.{then-x, else-x}

pub returns : goal.returns
returns c =
    let x = c.parts-x.result in
    let value : floor_of (signed x.negative x.top) x.bottom ≡ signed x.negative (x.top / x.bottom + (if c.if-x.away then 1 else 0)) = elim c.if-x.branch [
      | then-x w ↦ floor-negative x.negative c.if-x.away x.top x.bottom c.parts-x.ensures.parts.positive w.if-x.true w.away-is
      | else-x w ↦ floor-positive x.negative c.if-x.away x.top x.bottom w.if-x.false w.away-is
    ] in
    c.whole_near.ensures
    ∙ ap whole_number (sym value)
    ∙ ap (λ z. whole_number (floor_of z x.bottom)) c.parts-x.ensures.numerator
    ∙ ap (λ d. whole_number (floor_of c.args.self.now.numerator d)) c.parts-x.ensures.denominator
