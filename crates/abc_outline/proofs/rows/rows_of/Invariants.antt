use Rattle.std.proofs.Common.{◌≡◌, All, take}
use Rattle.abc_outline.specs.Rows.{IsRead, rows_of}
use Rattle.abc_outline.proofs.rows.rows_of.Given as goal

abbrev pub invariant-loop-line : goal.invariant-loop-line
invariant-loop-line l = (l.rows ≡ rows_of (take l.line-index l.lines)) × All IsRead l.rows
