use Rattle.std.proofs.Common.{◌≡◌, take}
use Rattle.abc_groups.specs.Program.{entry_texts}
use Rattle.abc_groups.proofs.indexed.Indexed.new.Given as goal

abbrev pub invariant-loop-entry : goal.invariant-loop-entry
invariant-loop-entry l = l.texts.keys ≡ take l.entry-index (entry_texts l.graph)
