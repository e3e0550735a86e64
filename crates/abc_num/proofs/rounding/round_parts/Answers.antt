use Rattle.std.proofs.Common.{arith, pos, ◌≤ℤ◌}
use Rattle.std.proofs.lemmas.Int.{ints}
use Rattle.abc_num.proofs.Places.{round_whole}
use Rattle.abc_num.proofs.rounding.round_parts.Goals as goal

pub returns-then-x-eq1 : goal.returns-then-x-eq1
returns-then-x-eq1 c =
    let least : pos 0 ≤ℤ c.args.places = grind (arith, ints) in
    round_whole c.args.x.negative c.args.x.top c.args.x.bottom c.args.places c.bounded.result least c.if-x-eq1.true c.bounded.ensures
