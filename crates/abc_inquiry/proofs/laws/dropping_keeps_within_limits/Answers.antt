use Rattle.abc_inquiry.proofs.Dropping.{keep_within_limits}
use Rattle.abc_inquiry.proofs.laws.dropping_keeps_within_limits.Goals as goal

pub returns : goal.returns
returns c = keep_within_limits
