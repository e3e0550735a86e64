use Rattle.std.proofs.Common.{length, ◌-◌}
use Rattle.abc_print.proofs.Contents.{IsRead}
use Rattle.abc_print.proofs.lexing.content.Given as goal

abbrev pub invariant-loop-at : goal.invariant-loop-at
invariant-loop-at l = IsRead l.quote l.bytes l.characters.items l.at

abbrev pub decreases-loop-at : goal.decreases-loop-at
decreases-loop-at l = length l.bytes - l.at
