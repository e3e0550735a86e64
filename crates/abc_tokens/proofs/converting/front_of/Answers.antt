use Rattle.std.proofs.Common.{arith}
use Rattle.abc_tokens.proofs.ConversionSteps.{space_first, comment_first}
use Rattle.abc_tokens.proofs.converting.front_of.Goals as goal

pub returns-then-b-eq32 : goal.returns-then-b-eq32
returns-then-b-eq32 c = (omega arith, space_first c.args.bytes.now c.requires.some c.if-b-eq32.true)

pub returns-then-b-eq92 : goal.returns-then-b-eq92
returns-then-b-eq92 c = comment_first c.args.bytes.now c.requires.some c.if-b-eq92.true
