use Rattle.std.proofs.Common.{◌≡◌, length}
use Rattle.abc_outline.specs.Outline.{not_deeper}
use Rattle.abc_outline.proofs.around.Around.drop_deeper.Given as goal

abbrev pub invariant-loop-line : goal.invariant-loop-line
invariant-loop-line l = not_deeper l.fn.indent l.fn.self ≡ not_deeper l.fn.indent l.self

abbrev pub decreases-loop-line : goal.decreases-loop-line
decreases-loop-line l = length l.self
