use Rattle.std.proofs.Common.{◌≡◌, ◌≤◌, take}
use Rattle.std.specs.List.{count_by}
use Rattle.std.specs.Ordering.{is_eq}
use Rattle.abc_value.specs.Order.{order}
use Rattle.abc_value.specs.Items.{elements_of}
use Rattle.abc_predef.proofs.trains.count_one_by_one.Given as goal

abbrev pub invariant-loop-i : goal.invariant-loop-i
invariant-loop-i l = (l.count ≡ count_by (λ x. is_eq (order x l.e)) (take l.i (elements_of l.t))) × (l.count ≤ l.i)
