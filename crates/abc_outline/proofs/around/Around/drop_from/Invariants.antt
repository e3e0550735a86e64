use Rattle.std.proofs.Common.{◌≡◌, length}
use Rattle.abc_outline.specs.Outline.{left}
use Rattle.abc_outline.proofs.around.Around.drop_from.Given as goal

abbrev pub invariant-loop-line : goal.invariant-loop-line
invariant-loop-line l = left l.fn.indent l.fn.self ≡ left l.fn.indent l.self

abbrev pub decreases-loop-line : goal.decreases-loop-line
decreases-loop-line l = length l.self
