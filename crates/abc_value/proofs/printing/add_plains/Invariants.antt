use Rattle.std.proofs.Common.{drop}
use Rattle.std.specs.Prelude.{codes}
use Rattle.abc_value.specs.Tree.{trees}
use Rattle.abc_value.specs.Printed.{joined, plains}
use Rattle.abc_value.proofs.printed.Appending.{IsGoing, left}
use Rattle.abc_value.proofs.printing.add_plains.Given as goal

abbrev pub invariant-loop-i : goal.invariant-loop-i
invariant-loop-i l =
    let texts = plains (trees l.fields) in
    IsGoing l.fn.bytes.items (joined (codes " ") texts) l.bytes.items (left (codes " ") l.i (drop l.i texts)) l.most
