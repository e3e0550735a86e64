use Rattle.std.proofs.Common.{◌≡◌, ◌≤◌, length, take}
use Rattle.abc_predef.specs.Texts.{without_trailing}
use Rattle.abc_predef.proofs.texts.strip_end.Given as goal

abbrev pub invariant-loop-end : goal.invariant-loop-end
invariant-loop-end l = (l.end ≤ length l.b) × (without_trailing l.b ≡ without_trailing (take l.end l.b))

abbrev pub decreases-loop-end : goal.decreases-loop-end
decreases-loop-end l = l.end
