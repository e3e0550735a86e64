use Rattle.std.proofs.Common.{◌≡◌, ◌≤◌, ◌-◌, ◌++◌, length, take, drop}
use Rattle.abc_num.specs.Literal.{in_front, behind}
use Rattle.abc_num.proofs.literal.point_of.Given as goal

abbrev pub invariant-loop-at : goal.invariant-loop-at
invariant-loop-at l = record {
  within : l.at ≤ length l.b;
  front : in_front l.b ≡ take l.at l.b ++ in_front (drop l.at l.b);
  back : behind l.b ≡ behind (drop l.at l.b);
}

abbrev pub decreases-loop-at : goal.decreases-loop-at
decreases-loop-at l = length l.b - l.at
