use Rattle.std.proofs.Common.{arith, pos, ◌<ℤ◌}
use Rattle.std.proofs.lemmas.Int.{ints, to_z-of_z}
use Rattle.abc_num.proofs.Powers.{power_turned}
use Rattle.abc_num.proofs.power.power_of_parts.Goals as goal

pub returns-then-exponent-lt0 : goal.returns-then-exponent-lt0
returns-then-exponent-lt0 c =
    let f = c.ranges.exponent in
    let size = simp to_z-of_z at c.unsigned_abs-size.ensures.value in
    let below : c.args.exponent <ℤ pos 0 = grind (arith, ints) in
    power_turned c.args.x.negative c.args.x.top c.args.x.bottom c.args.exponent c.power_of_ratio.result below (c.requires.divisor below) (rw size at c.power_of_ratio.ensures)
