use Rattle.std.proofs.Common.{drop}
use Rattle.std.specs.List.{flat_map}
use Rattle.abc_value.proofs.printed.Appending.{IsGoing}
use Rattle.abc_inquiry.specs.Inquiry.{shown_line}
use Rattle.abc_inquiry.proofs.writing.add_unit_lines.Given as goal

abbrev pub invariant-loop-i : goal.invariant-loop-i
invariant-loop-i l = IsGoing l.fn.bytes.items (flat_map shown_line l.lines) l.bytes.items (flat_map shown_line (drop l.i l.lines)) l.most
