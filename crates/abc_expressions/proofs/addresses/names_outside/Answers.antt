use Rattle.std.proofs.Common.{◌≤◌, length, arith}
use Rattle.abc_expressions.proofs.AddressNames.{at_end}
use Rattle.abc_expressions.proofs.addresses.names_outside.Goals as goal

pub returns : goal.returns
returns c = let over : length c.args.tokens.now ≤ c.loop-token.token-index = grind (arith, c.loop-token-test.false) in at_end c.args.tokens.now _ _ c.loop-token.names over c.loop-token.invariant.2
