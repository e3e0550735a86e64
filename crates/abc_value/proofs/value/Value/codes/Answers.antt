use Rattle.std.proofs.Common.{◌≡◌, ◌≤◌, List, ℕ, length, sym, ap, ◌∙◌, subst}
use Rattle.abc_num.specs.declared.limits.TheConstants.{MOST_ELEMENTS}
use Rattle.abc_value.specs.Regular.{AreCharacters}
use Rattle.abc_value.specs.View.{node_tree}
use Rattle.abc_value.proofs.trees.Short.{text_short}
use Rattle.abc_value.proofs.value.Value.codes.Goals as goal

pub returns-in-Text-clause-characters : goal.returns-in-Text-clause-characters
returns-in-Text-clause-characters c =
    let is : c.as_slice.result.now ≡ c.in-Text.codes.value.items = c.as_slice.ensures.value ∙ ap (λ v. v.items) c.deref.ensures in
    subst AreCharacters (sym is) (text_short c.in-Text.codes.value.items (node_tree c.self.inside.node) (ap node_tree c.in-Text.is) c.self.invariant.2).0

pub returns-in-Text-clause-short : goal.returns-in-Text-clause-short
returns-in-Text-clause-short c =
    let is : c.as_slice.result.now ≡ c.in-Text.codes.value.items = c.as_slice.ensures.value ∙ ap (λ v. v.items) c.deref.ensures in
    let P : List ℕ → Type 0 = λ b. length b ≤ MOST_ELEMENTS in
    subst P (sym is) (text_short c.in-Text.codes.value.items (node_tree c.self.inside.node) (ap node_tree c.in-Text.is) c.self.invariant.2).1
