use Rattle.std.proofs.Common.{◌≡◌, length}
use Rattle.abc_faults.specs.Environments.{behind_spaces}
use Rattle.abc_faults.proofs.environment.behind_spaces.Given as goal

abbrev pub invariant-loop-byte : goal.invariant-loop-byte
invariant-loop-byte l = behind_spaces l.ahead ≡ behind_spaces l.text

abbrev pub decreases-loop-byte : goal.decreases-loop-byte
decreases-loop-byte l = length l.ahead
