use Rattle.std.proofs.lemmas.Result.{err_from_is_err_and}
use Rattle.abc_record.specs.inner.Reading.{times, line_of}
use Rattle.abc_record.proofs.Times.{goes_on, ends, is_done}
use Rattle.abc_record.proofs.reading.several_lines_of.Goals as goal

pub returns-in_err-line : goal.returns-in_err-line
returns-in_err-line c =
    let p = err_from_is_err_and c.from_residual.result c.from_residual.ensures.1 in
    rw (p.1, p.2) (ends line_of c.in_err-line.field-0.0 c.loop.lines.items c.args.count c.loop.counter c.loop.rest.now (times line_of c.args.count c.args.bytes.now) c.loop-test.true c.in_err-line.ensures c.loop.invariant)

pub loop-preserved : goal.loop-preserved
loop-preserved c =
    rw c.in_ok-push.ensures.items (goes_on line_of c.loop.lines.items c.args.count c.loop.counter c.loop.rest.now c.in_ok-line.line c.in_ok-line.after.now (times line_of c.args.count c.args.bytes.now) c.loop-test.true c.in_ok-line.ensures c.loop.invariant)

pub returns : goal.returns
returns c = is_done line_of c.loop.lines.items c.args.count c.loop.counter c.loop.rest.now (times line_of c.args.count c.args.bytes.now) c.loop-test.false c.loop.invariant
