use Rattle.std.proofs.Common.{◌-◌, length, drop}
use Rattle.std.specs.List.{flat_map}
use Rattle.abc_value.proofs.printed.Appending.{IsGoing}
use Rattle.abc_inquiry.specs.Inquiry.{shown_unit}
use Rattle.abc_inquiry.proofs.writing.add_templates.Given as goal

abbrev pub invariant-units : goal.invariant-units
invariant-units l = IsGoing l.fn.bytes.items (flat_map shown_unit l.units) l.bytes.items (flat_map shown_unit (drop l.place l.units)) l.most

abbrev pub decreases-units : goal.decreases-units
decreases-units l = length l.units - l.place
