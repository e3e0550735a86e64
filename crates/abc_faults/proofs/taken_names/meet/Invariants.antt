use Rattle.std.proofs.Common.{◌≡◌, drop}
use Rattle.abc_faults.specs.Names.{meet}
use Rattle.abc_faults.proofs.taken_names.meet.Given as goal

abbrev pub invariant-loop-name : goal.invariant-loop-name
invariant-loop-name l = meet l.names l.others ≡ meet l.names (drop l.name-index l.others)
