use Rattle.std.proofs.Common.{◌-◌, length}
use Rattle.abc_tokens.proofs.TokenSteps.{HasScanned}
use Rattle.abc_tokens.proofs.scan.read_all.Given as goal

abbrev pub invariant-loop-start : goal.invariant-loop-start
invariant-loop-start l = HasScanned l.line l.tokens.items l.sound l.at

abbrev pub decreases-loop-start : goal.decreases-loop-start
decreases-loop-start l = length l.line - l.at
