use Rattle.std.proofs.Common.{◌+◌, ◌*◌, max, map, drop}
use Rattle.std.specs.Prelude.{codes}
use Rattle.abc_value.specs.Tree.{trees, pairs}
use Rattle.abc_value.specs.Sizes.{height_of, trees_height, pairs_height}
use Rattle.abc_value.specs.View.{as_pair}
use Rattle.abc_value.specs.Printed.{joined, displays, pair_displays}
use Rattle.abc_value.proofs.printed.Appending.{IsGoing, left}
use Rattle.abc_value.proofs.printing.+print.Given as goal

abbrev pub decreases-add_display : goal.decreases-add_display
decreases-add_display l = 3 * height_of l.v.now + 2

abbrev pub decreases-add_displays : goal.decreases-add_displays
decreases-add_displays l = 3 * trees_height (trees l.parts.now) + 1

abbrev pub decreases-add_pairs : goal.decreases-add_pairs
decreases-add_pairs l = 3 * pairs_height (pairs (map as_pair l.entries.now)) + 1

abbrev pub decreases-add_pair : goal.decreases-add_pair
decreases-add_pair l = 3 * max (height_of l.entry.now.key) (height_of l.entry.now.associate) + 3

abbrev pub invariant-add_displays-loop-i : goal.invariant-add_displays-loop-i
invariant-add_displays-loop-i l =
    let texts = displays (trees l.parts) in
    IsGoing l.fn.bytes.items (joined l.separator texts) l.bytes.items (left l.separator l.i (drop l.i texts)) l.most

abbrev pub invariant-add_pairs-loop-i : goal.invariant-add_pairs-loop-i
invariant-add_pairs-loop-i l =
    let texts = pair_displays (pairs (map as_pair l.entries)) in
    IsGoing l.fn.bytes.items (joined (codes "; ") texts) l.bytes.items (left (codes "; ") l.i (drop l.i texts)) l.most
