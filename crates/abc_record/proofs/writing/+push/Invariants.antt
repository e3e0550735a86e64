use Rattle.std.proofs.Common.{◌≡◌, ◌++◌, ◌+◌, ◌*◌, length, take}
use Rattle.std.specs.List.{flat_map}
use Rattle.abc_value.specs.Parts.{parts_of, pairs_of}
use Rattle.abc_value.specs.Sizes.{height_of}
use Rattle.abc_record.specs.Bytes.{in_four}
use Rattle.abc_record.specs.Spelling.{spelled_value}
use Rattle.abc_record.specs.inner.Writing.{spelled_pair}
use Rattle.abc_record.proofs.writing.+push.Given as goal

abbrev pub decreases-push_value : goal.decreases-push_value
decreases-push_value l = 2 * height_of l.value.now + 1

abbrev pub decreases-push_parts : goal.decreases-push_parts
decreases-push_parts l = 2 * height_of l.value.now

abbrev pub decreases-push_pairs : goal.decreases-push_pairs
decreases-push_pairs l = 2 * height_of l.value.now

abbrev pub invariant-push_parts-loop-i : goal.invariant-push_parts-loop-i
invariant-push_parts-loop-i l = l.bytes.items ≡ l.fn.bytes.items ++ in_four (length (parts_of l.value)) ++ flat_map spelled_value (take l.i (parts_of l.value))

abbrev pub invariant-push_pairs-loop-i : goal.invariant-push_pairs-loop-i
invariant-push_pairs-loop-i l = l.bytes.items ≡ l.fn.bytes.items ++ in_four (length (pairs_of l.value)) ++ flat_map spelled_pair (take l.i (pairs_of l.value))
