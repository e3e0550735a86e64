use Rattle.std.proofs.Common.{◌∙◌}
use Rattle.abc_demand.proofs.Later.{back_first, later_equal, later_same}
use Rattle.abc_demand.proofs.adding.add.Goals as goal

pub returns-in-Err-clause-clash : goal.returns-in-Err-clause-clash
returns-in-Err-clause-clash c = λ e. c.add_all.ensures.clash (c.in-Err.is ∙ e)

pub returns-in-Err-clause-err : goal.returns-in-Err-clause-err
returns-in-Err-clause-err c = back_first c.args.g.now c.add_all.new.g c.undo.new.self c.mark-before.result c.mark-before.ensures c.add_all.ensures.later c.undo.ensures.back

pub returns-in-Err-clause-later : goal.returns-in-Err-clause-later
returns-in-Err-clause-later c =
    later_equal c.args.g.now c.args.g.now c.undo.new.self (later_same c.args.g.now) (back_first c.args.g.now c.add_all.new.g c.undo.new.self c.mark-before.result c.mark-before.ensures c.add_all.ensures.later c.undo.ensures.back)
