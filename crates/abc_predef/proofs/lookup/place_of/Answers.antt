use Rattle.abc_predef.proofs.AllOperations.{two_places}
use Rattle.abc_predef.proofs.lookup.place_of.Goals as goal

pub place_of_pair-requires : goal.place_of_pair-requires
place_of_pair-requires c = two_places c.args.op c.in_default.not-Plus c.in_default.not-Negate c.in_default.not-Numerator c.in_default.not-Denominator c.in_default.not-Size c.in_default.not-Abs c.in_default.not-Sign c.in_default.not-Floor c.in_default.not-Ceiling c.in_default.not-Round c.in_default.not-Keys c.in_default.not-Least c.in_default.not-Greatest c.in_default.not-Lower c.in_default.not-Upper c.in_default.not-Stripped c.in_default.not-Split
