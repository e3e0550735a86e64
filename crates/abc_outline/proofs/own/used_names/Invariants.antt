use Rattle.std.proofs.Common.{◌≡◌, [], length}
use Rattle.abc_expressions.specs.Addresses.{each_once}
use Rattle.abc_expressions.specs.NameTokens.{own_among}
use Rattle.abc_outline.specs.OwnNames.{all_name_tokens}
use Rattle.abc_outline.proofs.own.used_names.Given as goal

abbrev pub invariant-loop-row : goal.invariant-loop-row
invariant-loop-row l = each_once l.used (own_among l.fn.own (all_name_tokens l.ahead)) ≡ each_once [] (own_among l.fn.own (all_name_tokens l.fn.rows))

abbrev pub decreases-loop-row : goal.decreases-loop-row
decreases-loop-row l = length l.ahead
