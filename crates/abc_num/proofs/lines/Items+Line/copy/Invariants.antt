use Rattle.std.proofs.Common.{◌≡◌, take}
use Rattle.abc_num.proofs.lines.Items+Line.copy.Given as goal

abbrev pub invariant-loop-line : goal.invariant-loop-line
invariant-loop-line l = l.copies.items ≡ take l.line-index l.line-items
