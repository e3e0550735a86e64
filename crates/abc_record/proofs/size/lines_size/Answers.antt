use Rattle.std.proofs.Common.{◌≡◌, ◌<◌, List, length, get_or, subst, arith}
use Rattle.abc_num.specs.declared.lines.Line.{Line}
use Rattle.abc_record.proofs.Weights.{one_line_more, line_short}
use Rattle.abc_record.proofs.size.lines_size.Goals as goal

pub loop-line-preserved : goal.loop-line-preserved
loop-line-preserved c =
    let lines = c.args.lines.now in
    let i = c.loop-line.line-index in
    let line = c.line-item.result in
    let same = c.as_slice-line-items.ensures in
    let within : i < length lines = subst (λ (ys : List Line). i < length ys) same c.loop-line-test.true in
    let is : line ≡ get_or lines i line = subst (λ (ys : List Line). line ≡ get_or ys i line) same c.line-item.is in
    record {
      size = omega (arith, c.loop-line.invariant.size, c.text_size.ensures, one_line_more lines i line within is);
      bound = omega (arith, c.loop-line.invariant.bound, c.text_size.ensures, line_short lines i line c.requires within is);
    }
