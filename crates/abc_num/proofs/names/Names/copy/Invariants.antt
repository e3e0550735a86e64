use Rattle.std.proofs.Common.{◌≡◌, take}
use Rattle.abc_num.proofs.names.Names.copy.Given as goal

abbrev pub invariant-loop-text : goal.invariant-loop-text
invariant-loop-text l = l.texts.keys ≡ take l.text-index l.text-items
