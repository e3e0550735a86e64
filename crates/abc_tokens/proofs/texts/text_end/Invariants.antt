use Rattle.std.proofs.Common.{◌-◌, length}
use Rattle.abc_tokens.proofs.TextLoop.{HasRead}
use Rattle.abc_tokens.proofs.texts.text_end.Given as goal

abbrev pub invariant-loop-here : goal.invariant-loop-here
invariant-loop-here l = HasRead l.line l.marks l.start l.here

abbrev pub decreases-loop-here : goal.decreases-loop-here
decreases-loop-here l = length l.line - l.here.at
