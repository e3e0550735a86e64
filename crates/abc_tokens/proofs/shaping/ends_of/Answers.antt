use Rattle.std.proofs.Common.{refl}
use Rattle.abc_tokens.proofs.EndsSteps.{ends_begun, ends_on, ends_open}
use Rattle.abc_tokens.proofs.shaping.ends_of.Goals as goal

pub loop-start-init : goal.loop-start-init
loop-start-init c = ends_begun _ _ refl refl refl

pub returns-in_default-token_at : goal.returns-in_default-token_at
returns-in_default-token_at c = ends_open _ c.loop-start.ends _ _ _ _ c.loop-start.invariant c.in-Some.ensures.some c.in_default-token_at.ensures.none refl c.with.ensures

pub loop-start-preserved : goal.loop-start-preserved
loop-start-preserved c = ends_on _ c.loop-start.ends _ _ _ _ c.loop-start.invariant c.in-Some.ensures.some c.in-Some-token_at.ensures.some c.with-ends.ensures
