use Rattle.std.specs.Prelude.{take}
use Rattle.abc_num.specs.Lines.{HasNoLf}
use Rattle.abc_outside.proofs.memory_lines.line_length.Given as goal

abbrev pub invariant-loop-place : goal.invariant-loop-place
invariant-loop-place l = HasNoLf (take l.place l.bytes)
