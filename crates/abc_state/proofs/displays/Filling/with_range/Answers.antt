use Rattle.std.proofs.lemmas.Result.{err_from_is_err_and}
use Rattle.abc_meaning.specs.Value.{range}
use Rattle.abc_state.proofs.Fillers.{range_pushed, halted}
use Rattle.abc_state.proofs.displays.Filling.with_range.Goals as goal

pub returns-in_err-check_range : goal.returns-in_err-check_range
returns-in_err-check_range c = λ here s.
    let p = err_from_is_err_and c.from_residual.result c.from_residual.ensures.1 in
    rw (p.1, p.2) (halted (range here c.args.first.now c.args.last.now s) _ here.line c.in_err-check_range.field-0.0 s (c.in_err-check_range.ensures here s))

pub returns : goal.returns
returns c = λ here s.
    range_pushed here s c.args.self.fillers c.push.new.self c.args.first.now c.args.last.now c.in_ok-copied.field-0 c.in_ok-copied-2.field-0 c.args.self.shape c.in_ok-shape.shape c.in_ok-shape-2.shape
    (c.in_ok-check_range.ensures here s) c.in_ok-copied.ensures c.in_ok-copied-2.ensures c.in_ok-push.ensures.ok c.in_ok-shape.ensures c.in_ok-shape-2.ensures
