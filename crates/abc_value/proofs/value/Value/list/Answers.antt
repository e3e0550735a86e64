use Rattle.std.proofs.Common.{List, sym, ap, ◌∙◌, ◌≡◌, subst}
use Rattle.std.proofs.lemmas.Result.{IfOk-weaker}
use Rattle.abc_value.specs.Tree.{Tree, list, trees}
use Rattle.abc_value.specs.Sizes.{IsMakingOf}
use Rattle.abc_value.specs.Regular.{IsOrdered}
use Rattle.abc_value.specs.Changes.{in_order}
use Rattle.abc_value.proofs.lists.Merging.{in_order_ordered}
use Rattle.abc_value.proofs.value.Value.list.Goals as goal

pub ordered_list-requires : goal.ordered_list-requires
ordered_list-requires c =
    let P : List Tree → Type 0 = λ xs. IsOrdered (trees xs) in
    subst P (sym (c.in_ok-from_vec.ensures ∙ c.in_ok-ordered.ensures.value)) (in_order_ordered c.args.elements.items)

pub returns-clause-value : goal.returns-clause-value
returns-clause-value c =
    let same = c.in_ok-from_vec.ensures ∙ c.in_ok-ordered.ensures.value in
    IfOk-weaker c.ordered_list.result _ (λ v. v ≡ list (trees (in_order c.args.elements.items))) (λ v e. e ∙ ap (λ xs. list (trees xs)) same) c.ordered_list.ensures.value

pub returns-clause-sizes : goal.returns-clause-sizes
returns-clause-sizes c =
    let same = c.in_ok-from_vec.ensures ∙ c.in_ok-ordered.ensures.value in
    subst (λ xs. IsMakingOf (list (trees xs)) c.ordered_list.result) same c.ordered_list.ensures.sizes
