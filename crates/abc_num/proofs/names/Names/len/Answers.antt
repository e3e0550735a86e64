use Rattle.std.proofs.Common.{subst}
use Rattle.abc_num.specs.Names.{AreDifferent}
use Rattle.abc_num.proofs.Texts.{different}
use Rattle.abc_num.proofs.names.Names.len.Goals as goal

pub returns-clause-different : goal.returns-clause-different
returns-clause-different c = subst AreDifferent c.self.view_is (different _ c.self.invariant.0)
