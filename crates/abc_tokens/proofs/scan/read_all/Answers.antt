use Rattle.abc_tokens.proofs.TokenSteps.{scan_on}
use Rattle.abc_tokens.proofs.scan.read_all.Goals as goal

pub loop-start-preserved : goal.loop-start-preserved
loop-start-preserved c = scan_on _ _ _ _ _ _ _ c.loop-start.invariant c.in-Some.ensures.some c.in-Some-token_at.ensures.some c.in_ok-push.ensures.items
