use Rattle.std.proofs.Common.{◌≡◌, true, false, ltb, List, [], ◌∷◌, length, subst, rules, arith, refl}
use Rattle.abc_value.specs.Tree.{Tree, table, table_of as listed_table, pairs}
use Rattle.abc_value.specs.Changes.{placed}
use Rattle.abc_record.specs.inner.Reading.{Gives, sized, are_rising, table_of}
use Rattle.abc_record.proofs.Sorted.{placed_stays}
use Rattle.abc_record.proofs.Trees.{rising, some_table}
use Rattle.abc_record.proofs.values.table_of.Goals as goal

pub returns : goal.returns
unfolding table_of
returns c =
    let ps = c.args.pairs.items in
    let test : are_rising ps ≡ true = search rules in
    let some : ltb (length ps) 1 ≡ false = search rules in
    let stays = placed_stays ps c.requires (rising ps test) in
    let made = c.sized.ensures (listed_table (placed ps)) c.table.ensures.value c.table.ensures.sizes in
    let whole = subst (λ (xs : List (Tree × Tree)). Gives (λ x. (x.0, x.1.now)) c.sized.result (sized (listed_table xs) c.args.rest.now)) stays made in
    rw (some, test) (subst (λ (t : Tree). Gives (λ x. (x.0, x.1.now)) c.sized.result (sized t c.args.rest.now)) (some_table ps some) whole)
