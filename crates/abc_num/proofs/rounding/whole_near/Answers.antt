use Rattle.std.proofs.Common.{◌+◌, ◌/◌, ◌<◌, ◌^◌, arith}
use Rattle.abc_num.proofs.LowestTerms.{whole_is_number}
use Rattle.abc_num.proofs.Nearest.{rounded_size}
use Rattle.abc_num.proofs.rounding.whole_near.Goals as goal

pub of_parts-requires-clause-number : goal.of_parts-requires-clause-number
of_parts-requires-clause-number c =
    let most = rounded_size c.args.x.top c.args.x.bottom c.args.away c.requires.positive c.requires.top c.requires.narrow in
    let size : c.args.x.top / c.args.x.bottom + c.from.result < 2 ^ 127 = omega (arith, most, c.from.ensures) in
    whole_is_number c.args.x.negative (c.args.x.top / c.args.x.bottom + c.from.result) size
