use Rattle.std.proofs.Common.{◌≡◌, drop}
use Rattle.std.specs.List.{list_any}
use Rattle.abc_faults.specs.Given.{is_given_word}
use Rattle.abc_faults.proofs.given.has_given_word.Given as goal

abbrev pub invariant-loop-word : goal.invariant-loop-word
invariant-loop-word l = list_any is_given_word l.words ≡ list_any is_given_word (drop l.word-index l.words)
