use Rattle.abc_outside.proofs.Unread.{first_is_first, over_has_none, within_has_none}
use Rattle.abc_outside.proofs.laws.lines_are_in_order.Goals as goal

pub returns : goal.returns
returns c = record { first = first_is_first; over = over_has_none; within = within_has_none }
