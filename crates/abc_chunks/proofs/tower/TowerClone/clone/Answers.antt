use Rattle.abc_chunks.proofs.Clones.{pieces-clones}
use Rattle.abc_chunks.proofs.tower.TowerClone.clone.Goals as goal

pub returns : goal.returns
returns g c = record { cases = (pieces-clones _ _ c.in_ok-clone.ensures.cases.0, c.in_ok-copy.ensures) }
