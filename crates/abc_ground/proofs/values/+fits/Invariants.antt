use Rattle.std.proofs.Common.{◌+◌, ◌*◌, take, map}
use Rattle.std.specs.Prelude.{sum}
use Rattle.abc_terms.specs.Sizes.{size}
use Rattle.abc_value.specs.Parts.{parts_of, keys_of}
use Rattle.abc_value.specs.Types.{all_listed, each_listed}
use Rattle.abc_ground.proofs.values.+fits.Given as goal

abbrev pub decreases-fits_value : goal.decreases-fits_value
decreases-fits_value l = 4 * size l.t.now

abbrev pub decreases-fits_parts : goal.decreases-fits_parts
decreases-fits_parts l = 4 * size l.t.now + 1

abbrev pub decreases-fits_keys : goal.decreases-fits_keys
decreases-fits_keys l = 4 * size l.t.now + 1

abbrev pub decreases-fits_list : goal.decreases-fits_list
decreases-fits_list l = 4 * size l.t.now + 2

abbrev pub decreases-fits_table : goal.decreases-fits_table
decreases-fits_table l = 4 * (size l.k.now + size l.a.now) + 2

abbrev pub decreases-fits_each : goal.decreases-fits_each
decreases-fits_each l = 4 * sum (map size l.fields.now) + 1

abbrev pub decreases-fits_compound : goal.decreases-fits_compound
decreases-fits_compound l = 4 * sum (map size l.fields.now) + 2

abbrev pub invariant-fits_parts-loop-i : goal.invariant-fits_parts-loop-i
invariant-fits_parts-loop-i l = all_listed (take l.i (parts_of l.v)) l.t

abbrev pub invariant-fits_keys-loop-i : goal.invariant-fits_keys-loop-i
invariant-fits_keys-loop-i l = all_listed (take l.i (keys_of l.v)) l.t

abbrev pub invariant-fits_each-loop-i : goal.invariant-fits_each-loop-i
invariant-fits_each-loop-i l = each_listed (take l.i (parts_of l.v)) (take l.i l.fields)
