use Rattle.std.proofs.Common.{◌≡◌, true, List, subst, rules}
use Rattle.abc_value.specs.Tree.{Tree, list, trees}
use Rattle.abc_value.specs.Changes.{in_order}
use Rattle.abc_record.specs.inner.Reading.{Gives, sized, are_ordered, list_of}
use Rattle.abc_record.proofs.Sorted.{in_order_stays}
use Rattle.abc_record.proofs.Trees.{ordered}
use Rattle.abc_record.proofs.values.list_of.Goals as goal

pub returns : goal.returns
unfolding list_of
returns c =
    let es = c.args.elements.items in
    let test : are_ordered es ≡ true = search rules in
    let stays = in_order_stays es (ordered es test) in
    let made = c.sized.ensures (list (trees (in_order es))) c.list.ensures.value c.list.ensures.sizes in
    rw test (subst (λ (xs : List Tree). Gives (λ x. (x.0, x.1.now)) c.sized.result (sized (list (trees xs)) c.args.rest.now)) stays made)
