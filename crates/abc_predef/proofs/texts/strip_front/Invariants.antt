use Rattle.std.proofs.Common.{◌≡◌, ◌-◌, ◌≤◌, length, drop}
use Rattle.abc_predef.specs.Texts.{without_leading}
use Rattle.abc_predef.proofs.texts.strip_front.Given as goal

abbrev pub invariant-loop-start : goal.invariant-loop-start
invariant-loop-start l = (l.start ≤ length l.b) × (without_leading l.b ≡ without_leading (drop l.start l.b))

abbrev pub decreases-loop-start : goal.decreases-loop-start
decreases-loop-start l = length l.b - l.start
