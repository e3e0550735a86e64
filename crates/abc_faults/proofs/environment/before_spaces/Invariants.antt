use Rattle.std.proofs.Common.{◌≡◌, length}
use Rattle.abc_faults.specs.Environments.{before_spaces}
use Rattle.abc_faults.proofs.environment.before_spaces.Given as goal

abbrev pub invariant-loop-byte : goal.invariant-loop-byte
invariant-loop-byte l = before_spaces l.ahead ≡ before_spaces l.text

abbrev pub decreases-loop-byte : goal.decreases-loop-byte
decreases-loop-byte l = length l.ahead
