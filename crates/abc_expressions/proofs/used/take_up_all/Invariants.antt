use Rattle.std.proofs.Common.{◌≡◌, take}
use Rattle.abc_expressions.specs.Addresses.{each_once}
use Rattle.abc_expressions.specs.NameTokens.{own_among}
use Rattle.abc_expressions.proofs.used.take_up_all.Given as goal

abbrev pub invariant-loop-name : goal.invariant-loop-name
invariant-loop-name l = l.used ≡ each_once l.fn.used (own_among l.own (take l.name-index l.names))
