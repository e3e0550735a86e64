use Rattle.std.proofs.Common.{ap}
use Rattle.abc_predef.specs.Signatures.{operands}
use Rattle.abc_predef.proofs.AllOperations.{none_of_tests}
use Rattle.abc_predef.proofs.Operanded.{test_train, test_like}
use Rattle.abc_predef.proofs.apply.holds2.Goals as goal

pub contains-requires-clause-train : goal.contains-requires-clause-train
contains-requires-clause-train c = test_train c.args.op c.args.x.now c.args.y.now (ap operands c.in-In.is) c.requires

pub contains-requires-clause-like : goal.contains-requires-clause-like
contains-requires-clause-like c = test_like c.args.op c.args.x.now c.args.y.now (ap operands c.in-In.is) c.requires

pub contains-requires-in-NotIn-clause-train : goal.contains-requires-in-NotIn-clause-train
contains-requires-in-NotIn-clause-train c = test_train c.args.op c.args.x.now c.args.y.now (ap operands c.in-NotIn.is) c.requires

pub contains-requires-in-NotIn-clause-like : goal.contains-requires-in-NotIn-clause-like
contains-requires-in-NotIn-clause-like c = test_like c.args.op c.args.x.now c.args.y.now (ap operands c.in-NotIn.is) c.requires

pub unreachable-requires : goal.unreachable-requires
unreachable-requires c = none_of_tests c.args.op c.args.x.now c.args.y.now c.requires c.in_default.not-In c.in_default.not-NotIn c.in_default.not-Less c.in_default.not-AtMost c.in_default.not-Equal c.in_default.not-Unequal c.in_default.not-AtLeast c.in_default.not-More
