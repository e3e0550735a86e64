use Rattle.std.proofs.Common.{◌-◌, length}
use Rattle.abc_value.specs.Sizes.{length_of}
use Rattle.abc_value.specs.Parts.{keys_of}
use Rattle.abc_predef.proofs.TableKeys.{HasKeys}
use Rattle.abc_predef.proofs.collections.keys.Given as goal

abbrev pub invariant-loop-key : goal.invariant-loop-key
invariant-loop-key l = HasKeys l.t l.keys

abbrev pub decreases-loop-key : goal.decreases-loop-key
decreases-loop-key l = length (keys_of l.t) - length_of l.keys
