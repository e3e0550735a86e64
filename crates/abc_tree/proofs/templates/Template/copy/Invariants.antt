use Rattle.std.proofs.Common.{◌≡◌, take}
use Rattle.abc_tree.proofs.templates.Template.copy.Given as goal

abbrev pub invariant-loop-word : goal.invariant-loop-word
invariant-loop-word l = l.words ≡ take l.word-index l.self.words
