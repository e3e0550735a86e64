use Rattle.abc_check.proofs.Membering.{found_there, found_nowhere}
use Rattle.abc_check.proofs.units.found.Goals as goal

pub returns-in-Ok : goal.returns-in-Ok
returns-in-Ok c = found_there c.args.members.now c.args.t.now c.requires c.in-Ok.at c.index-members-at.result c.in-Ok.ensures.found c.index-members-at.is

pub returns-in-Err : goal.returns-in-Err
returns-in-Err c = found_nowhere c.args.members.now c.args.t.now c.requires _ c.in-Err.ensures.absent
