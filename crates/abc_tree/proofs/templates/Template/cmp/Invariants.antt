use Rattle.std.proofs.Common.{◌≡◌, length}
use Rattle.abc_num.specs.Text.{text_cmp}
use Rattle.abc_tree.specs.Templates.{template_cmp}
use Rattle.abc_tree.specs.inner.TemplatesView.{letters_of}
use Rattle.abc_tree.proofs.templates.Template.cmp.Given as goal

abbrev pub invariant-letters : goal.invariant-letters
invariant-letters l = template_cmp l.self l.o ≡ text_cmp (letters_of l.left) (letters_of l.right)

abbrev pub decreases-letters : goal.decreases-letters
decreases-letters l = length (letters_of l.left)
