use Rattle.std.proofs.Common.{◌≡◌, take}
use Rattle.abc_groups.specs.Program.{entry_texts, texts}
use Rattle.abc_groups.proofs.grouping.entry_templates.Given as goal

abbrev pub invariant-loop-entry : goal.invariant-loop-entry
invariant-loop-entry l = texts l.templates.items ≡ entry_texts (take l.entry-index l.graph)
