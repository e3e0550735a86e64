use Rattle.std.proofs.Common.{subst}
use Rattle.abc_num.specs.Names.{AreDifferent}
use Rattle.abc_num.proofs.Texts.{different}
use Rattle.abc_num.proofs.names.Names.find.Goals as goal

pub returns-in_err-i-clause-different : goal.returns-in_err-i-clause-different
returns-in_err-i-clause-different c = subst AreDifferent c.self.view_is (different _ c.self.invariant.0)

pub returns-clause-different : goal.returns-clause-different
returns-clause-different c = subst AreDifferent c.self.view_is (different _ c.self.invariant.0)
