use Rattle.std.proofs.Common.{◌≡◌, ◌++◌, map, take, drop}
use Rattle.abc_outside.specs.Failing.{one_nearer}
use Rattle.abc_outside.proofs.failing.count_call.Given as goal

abbrev pub invariant-loop-call : goal.invariant-loop-call
invariant-loop-call l = l.listed ≡ map (one_nearer l.kind) (take l.call-index l.initial.listed) ++ drop l.call-index l.initial.listed
