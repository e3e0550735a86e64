use Rattle.abc_num.proofs.Texts.{different}
use Rattle.abc_num.proofs.names.Names.number.Goals as goal

pub returns-in_err-i-clause-different : goal.returns-in_err-i-clause-different
returns-in_err-i-clause-different c = different _ c.insert_full.ensures.unique

pub returns-clause-different : goal.returns-clause-different
returns-clause-different c = different _ c.insert_full.ensures.unique
