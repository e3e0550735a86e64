use Rattle.std.proofs.Common.{drop}
use Rattle.std.specs.List.{flat_map}
use Rattle.abc_value.specs.Printed.{doubled}
use Rattle.abc_value.proofs.printed.Appending.{IsGoing}
use Rattle.abc_value.proofs.printing.add_doubled.Given as goal

abbrev pub invariant-loop-c : goal.invariant-loop-c
invariant-loop-c l = IsGoing l.fn.bytes.items (flat_map doubled l.text) l.bytes.items (flat_map doubled (drop l.c-index l.text)) l.most
