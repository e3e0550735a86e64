use Rattle.abc_groups.proofs.Sorting.{rise_values, same_texts}
use Rattle.abc_groups.proofs.sorted.in_order.Goals as goal

pub returns-clause-same : goal.returns-clause-same
returns-clause-same c = same_texts _ _ _ c.in_ok-named.ensures c.in_ok-all.ensures.values

pub returns-clause-rising : goal.returns-clause-rising
returns-clause-rising c = rise_values _ _ _ c.in_ok-named.ensures c.in_ok-all.ensures.values c.in_ok-all.ensures.sorted
