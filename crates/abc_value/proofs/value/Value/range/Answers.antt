use Rattle.std.proofs.Common.{sym, ap, subst, ◌∙◌}
use Rattle.abc_value.specs.Regular.{AreCharacters}
use Rattle.abc_value.specs.View.{node_tree}
use Rattle.abc_value.proofs.trees.Itemised.{text_characters}
use Rattle.abc_value.proofs.lists.Ranges.{whole_fits, passed}
use Rattle.abc_value.proofs.value.Value.range.Goals as goal

pub range_of_numbers-requires-clause-first : goal.range_of_numbers-requires-clause-first
range_of_numbers-requires-clause-first c = passed c.in-Some-Some.first (whole_fits c.in-Number-Number.p c.in-Some-Some.first c.in-Some-Some.ensures.number c.in-Some-Some.ensures.value)

pub range_of_numbers-requires-clause-last : goal.range_of_numbers-requires-clause-last
range_of_numbers-requires-clause-last c = passed c.in-Some-Some.last (whole_fits c.in-Number-Number.q c.in-Some-Some.last c.in-Some-Some.ensures'.number c.in-Some-Some.ensures'.value)

pub range_of_characters-requires-clause-first : goal.range_of_characters-requires-clause-first
range_of_characters-requires-clause-first c =
    subst AreCharacters (sym (c.as_slice.ensures.value ∙ ap (λ v. v.items) c.deref.ensures)) (text_characters c.in-Text-Text.p.value.items (node_tree c.p.inside.node) (ap node_tree c.in-Text-Text.is-0) c.p.invariant.2)

pub range_of_characters-requires-clause-last : goal.range_of_characters-requires-clause-last
range_of_characters-requires-clause-last c =
    subst AreCharacters (sym (c.as_slice-in-Text-Text.ensures.value ∙ ap (λ v. v.items) c.deref-in-Text-Text.ensures)) (text_characters c.in-Text-Text.q.value.items (node_tree c.q.inside.node) (ap node_tree c.in-Text-Text.is-1) c.q.invariant.2)
