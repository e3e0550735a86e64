use Rattle.std.proofs.Common.{◌≡◌, ◌^◌}
use Rattle.abc_num.proofs.power.power.Given as goal

abbrev pub invariant-loop : goal.invariant-loop
invariant-loop l = l.product ≡ l.base ^ l.counter
