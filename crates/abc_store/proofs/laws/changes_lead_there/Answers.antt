use Rattle.abc_store.proofs.Targets.{lead_there}
use Rattle.abc_store.proofs.Wholes.{checkpoint_leads}
use Rattle.abc_store.proofs.laws.changes_lead_there.Goals as goal

pub returns-clause-checkpoints : goal.returns-clause-checkpoints
returns-clause-checkpoints c ws rising regular named in_order units limits = checkpoint_leads ws (record { named = named; regular = regular; units = units; limits = limits }) rising regular in_order

pub returns-clause-between : goal.returns-clause-between
returns-clause-between c before after = lead_there before after
