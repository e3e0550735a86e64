use Rattle.std.proofs.Common.{◌≡◌, length}
use Rattle.std.specs.Prelude.{◌||◌}
use Rattle.abc_expressions.specs.Addresses.{each_once}
use Rattle.abc_faults.specs.Names.{again}
use Rattle.abc_faults.proofs.taken_names.take_again.Given as goal

abbrev pub invariant-loop-name : goal.invariant-loop-name
invariant-loop-name l = record {
  taken : each_once l.names l.ahead ≡ each_once l.fn.names l.fn.others;
  told : (l.found || again l.names l.ahead) ≡ again l.fn.names l.fn.others;
}

abbrev pub decreases-loop-name : goal.decreases-loop-name
decreases-loop-name l = length l.ahead
