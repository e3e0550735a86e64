use Rattle.std.proofs.Common.{◌≡◌, ◌≤◌, [], drop, length}
use Rattle.abc_expressions.proofs.AddressNames.{names_from}
use Rattle.abc_expressions.proofs.addresses.names_outside.Given as goal

abbrev pub invariant-loop-token : goal.invariant-loop-token
invariant-loop-token l = (length l.names ≤ l.token-index) × (l.depth ≤ l.token-index) × (names_from l.depth l.names (drop l.token-index l.tokens) ≡ names_from 0 [] l.tokens)
