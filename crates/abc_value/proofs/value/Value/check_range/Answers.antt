use Rattle.std.proofs.Common.{sym, ap, subst, ◌∙◌}
use Rattle.abc_value.specs.Regular.{AreCharacters}
use Rattle.abc_value.specs.View.{node_tree}
use Rattle.abc_value.proofs.trees.Itemised.{text_characters}
use Rattle.abc_value.proofs.lists.Ranges.{whole_fits, passed}
use Rattle.abc_value.proofs.value.Value.check_range.Goals as goal

pub check_numbers-requires-clause-first : goal.check_numbers-requires-clause-first
check_numbers-requires-clause-first c = passed c.in-Some-Some.first (whole_fits c.in-Number-Number.p c.in-Some-Some.first c.in-Some-Some.ensures.number c.in-Some-Some.ensures.value)

pub check_numbers-requires-clause-last : goal.check_numbers-requires-clause-last
check_numbers-requires-clause-last c = passed c.in-Some-Some.last (whole_fits c.in-Number-Number.q c.in-Some-Some.last c.in-Some-Some.ensures'.number c.in-Some-Some.ensures'.value)

pub check_characters-requires-clause-first : goal.check_characters-requires-clause-first
check_characters-requires-clause-first c =
    subst AreCharacters (sym (c.as_slice.ensures.value ∙ ap (λ v. v.items) c.deref.ensures)) (text_characters c.in-Text-Text.p.value.items (node_tree c.p.inside.node) (ap node_tree c.in-Text-Text.is-0) c.p.invariant.2)

pub check_characters-requires-clause-last : goal.check_characters-requires-clause-last
check_characters-requires-clause-last c =
    subst AreCharacters (sym (c.as_slice-in-Text-Text.ensures.value ∙ ap (λ v. v.items) c.deref-in-Text-Text.ensures)) (text_characters c.in-Text-Text.q.value.items (node_tree c.q.inside.node) (ap node_tree c.in-Text-Text.is-1) c.q.invariant.2)
