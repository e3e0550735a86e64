use Rattle.std.proofs.Common.{[], append-nil}
use Rattle.abc_outline.proofs.kinds.name_kinds.Goals as goal

pub loop-refinement-init : goal.loop-refinement-init
loop-refinement-init c = ([], append-nil c.args.refined.now, c.in_ok-kinds.ensures)
