use Rattle.std.proofs.Common.{List, sym, subst, arith}
use mir.Val.{to_z, of_z}
use mir.Syntax.{w128}
use Rattle.abc_value.specs.Tree.{Tree, trees}
use Rattle.abc_value.specs.Regular.{AllRegular, IsOrdered}
use Rattle.abc_value.specs.inner.Alike.{AreAlike}
use Rattle.abc_value.proofs.lists.Ranges.{push_number, numbers_end, numbers_ordered, passed}
use Rattle.abc_value.proofs.lists.Checking.{told_few, range_regular, numbers_alike}
use Rattle.abc_value.proofs.items.range_of_numbers.Goals as goal

pub overflow_cast-k-end : goal.overflow_cast-k-end
overflow_cast-k-end c =
    let few = told_few (to_z w128 (of_z w128 c.args.p)) (to_z w128 (of_z w128 c.args.q)) c.in_ok-check_numbers.field-0 c.in_ok-check_numbers.ensures in
    omega (arith, few, c.count_between-count.ensures)

pub insert-requires-clause-place : goal.insert-requires-clause-place
insert-requires-clause-place c = numbers_end _ c.loop-k.k c.loop-k.items c.loop-k.invariant

pub loop-k-preserved : goal.loop-k-preserved
loop-k-preserved c = push_number _ c.loop-k.k c.loop-k.items c.insert.new.self c.whole_value.result c.loop-k.invariant c.whole_value.ensures c.in_ok-insert.ensures.ok

pub alike_list-requires-clause-ordered : goal.alike_list-requires-clause-ordered
alike_list-requires-clause-ordered c =
    let P : List Tree → Type 0 = λ xs. IsOrdered (trees xs) in
    subst P (sym c.loop-k.invariant) (numbers_ordered _ c.loop-k.k)

pub alike_list-requires-clause-regular : goal.alike_list-requires-clause-regular
alike_list-requires-clause-regular c =
    let P : List Tree → Type 0 = λ xs. AllRegular (trees xs) in
    subst P (sym c.loop-k.invariant)
    (range_regular (to_z w128 (of_z w128 c.args.p)) (to_z w128 (of_z w128 c.args.q)) c.loop-k.k (passed c.args.p c.requires.first) (passed c.args.q c.requires.last) (omega (arith, c.count_between-count.ensures)))

pub alike_list-requires-clause-alike : goal.alike_list-requires-clause-alike
alike_list-requires-clause-alike c = subst AreAlike (sym c.loop-k.invariant) (numbers_alike _ c.loop-k.k)
