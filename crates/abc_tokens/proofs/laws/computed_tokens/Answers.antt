use Rattle.std.proofs.Common.{refl}
use Rattle.abc_tokens.specs.declared.kinds.TokenFault.TheVariants.{Memory}
use Rattle.abc_tokens.proofs.ReadLines.{tokens_found, tokens_told, fault_found, fault_told}
use Rattle.abc_tokens.proofs.laws.computed_tokens.Goals as goal

pub returns-clause-tokens : goal.returns-clause-tokens
returns-clause-tokens c line ts = (tokens_found line ts, tokens_told line ts)

pub returns-clause-fault : goal.returns-clause-fault
returns-clause-fault c line fault m = (fault_found line fault m, λ e. (fault_told line fault e).0)

pub returns-clause-no_other : goal.returns-clause-no_other
returns-clause-no_other c line e = (fault_told line Memory e).1 refl
