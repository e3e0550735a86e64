use Rattle.std.proofs.Common.{◌≡◌, take}
use Rattle.abc_unify.specs.Forms.{all_said}
use Rattle.abc_scheme.proofs.saying.say_all.Given as goal

abbrev pub invariant-loop-known : goal.invariant-loop-known
invariant-loop-known l = l.demands.items ≡ all_said (take l.known-index l.all)
