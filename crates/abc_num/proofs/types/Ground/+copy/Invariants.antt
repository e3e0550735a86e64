use Rattle.std.proofs.Common.{◌≡◌, take}
use Rattle.abc_num.proofs.types.Ground.+copy.Given as goal

abbrev pub invariant-loop-field : goal.invariant-loop-field
invariant-loop-field l = l.copies.items ≡ take l.field-index l.field-items
