use Rattle.std.proofs.Common.{◌≡◌, ◌++◌, length}
use Rattle.abc_tree.specs.Templates.{template_text}
use Rattle.abc_tree.specs.inner.TemplatesView.{letters_of}
use Rattle.abc_tree.proofs.templates.Template.text.Given as goal

abbrev pub invariant-letters : goal.invariant-letters
invariant-letters l = template_text l.self ≡ l.text.items ++ letters_of l.letters

abbrev pub decreases-letters : goal.decreases-letters
decreases-letters l = length (letters_of l.letters)
