use Rattle.abc_predef.proofs.AllOperations.{none_of_pairs}
use Rattle.abc_predef.proofs.lookup.place_of_pair.Goals as goal

pub unreachable-requires : goal.unreachable-requires
unreachable-requires c = none_of_pairs c.args.op c.requires c.in_default.not-Add c.in_default.not-Subtract c.in_default.not-Multiply c.in_default.not-Divide c.in_default.not-Power c.in_default.not-Join c.in_default.not-Repeat c.in_default.not-Behead c.in_default.not-Curtail c.in_default.not-AlignLeft c.in_default.not-Center c.in_default.not-AlignRight c.in_default.not-Count c.in_default.not-RoundTo c.in_default.not-Modulo c.in_default.not-LeastAbove c.in_default.not-GreatestBelow c.in_default.not-Item c.in_default.not-In c.in_default.not-NotIn c.in_default.not-Less c.in_default.not-AtMost c.in_default.not-Equal c.in_default.not-Unequal c.in_default.not-AtLeast c.in_default.not-More
