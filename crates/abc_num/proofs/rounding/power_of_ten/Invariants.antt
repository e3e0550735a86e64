use Rattle.std.proofs.Common.{◌≡◌, ◌^◌}
use Rattle.abc_num.proofs.rounding.power_of_ten.Given as goal

abbrev pub invariant-loop : goal.invariant-loop
invariant-loop l = l.power ≡ 10 ^ l.counter
