use Rattle.std.proofs.Common.{ap, sym, ◌∙◌, ◌/◌, ◌+◌}
use Rattle.std.specs.Prelude.{if◌then◌else◌}
use Rattle.abc_num.specs.Number.{whole_number, signed}
use Rattle.abc_num.specs.Rounding.{nearest_of}
use Rattle.abc_num.proofs.Nearest.{nearest-signed}
use Rattle.abc_num.proofs.number.Num.round.Goals as goal

pub returns : goal.returns
returns c =
    let x = c.parts-x.result in
    c.whole_near.ensures
    ∙ ap (λ u. whole_number (signed x.negative (x.top / x.bottom + (if u then 1 else 0)))) c.is_away-away.ensures
    ∙ ap whole_number (sym (nearest-signed x.negative x.top x.bottom c.parts-x.ensures.parts.positive))
    ∙ ap (λ z. whole_number (nearest_of z x.bottom)) c.parts-x.ensures.numerator
    ∙ ap (λ d. whole_number (nearest_of c.args.self.now.numerator d)) c.parts-x.ensures.denominator
