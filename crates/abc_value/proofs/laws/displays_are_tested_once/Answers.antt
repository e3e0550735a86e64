use Rattle.abc_value.proofs.printed.Displayed.{depth_first, nothing_counts}
use Rattle.abc_value.proofs.laws.displays_are_tested_once.Goals as goal

pub returns : goal.returns
returns c = record { deep = depth_first; replaced = nothing_counts }
