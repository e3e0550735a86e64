use Rattle.std.proofs.Common.{sym, ◌∙◌}
use Rattle.abc_acts.proofs.Taking.{removed, remove_stops}
use Rattle.abc_acts.proofs.changing.remove.Goals as goal

pub returns-in-Ok : goal.returns-in-Ok
returns-in-Ok c = λ missing.
    removed c.args.list.now c.args.element.now c.remove.new.self missing (sym c.in_ok-fits_element.ensures.computed ∙ c.if-not-branch.false) c.in-Ok.ensures.there c.in-Ok.ensures.ok

pub returns-in-Err : goal.returns-in-Err
returns-in-Err c = λ missing. (
  c.in-Err.ensures.err,
  remove_stops c.in-Err.fault c.halt_of.result c.args.list.now c.args.element.now missing c.halt_of.ensures (sym c.in_ok-fits_element.ensures.computed ∙ c.if-not-branch.false)
      (c.in_ok-fits_element.ensures.list c.if-not-branch.false) c.len.ensures.regular c.len-2.ensures.regular c.in-Err.ensures.fault,
)
