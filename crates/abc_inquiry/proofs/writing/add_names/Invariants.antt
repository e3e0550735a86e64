use Rattle.std.proofs.Common.{◌-◌, length, drop}
use Rattle.std.specs.List.{flat_map}
use Rattle.abc_value.proofs.printed.Appending.{IsGoing}
use Rattle.abc_inquiry.specs.Inquiry.{with_lf}
use Rattle.abc_inquiry.proofs.writing.add_names.Given as goal

abbrev pub invariant-names : goal.invariant-names
invariant-names l = IsGoing l.fn.bytes.items (flat_map with_lf l.names) l.bytes.items (flat_map with_lf (drop l.place l.names)) l.most

abbrev pub decreases-names : goal.decreases-names
decreases-names l = length l.names - l.place
