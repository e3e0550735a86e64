use Rattle.std.proofs.Common.{◌≡◌, length}
use Rattle.abc_expressions.specs.Addresses.{each_once}
use Rattle.abc_faults.proofs.taken_names.take_all.Given as goal

abbrev pub invariant-loop-name : goal.invariant-loop-name
invariant-loop-name l = each_once l.names l.ahead ≡ each_once l.fn.names l.fn.others

abbrev pub decreases-loop-name : goal.decreases-loop-name
decreases-loop-name l = length l.ahead
