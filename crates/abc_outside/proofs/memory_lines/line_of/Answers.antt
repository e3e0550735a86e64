use Rattle.std.proofs.Common.{sym}
use Rattle.abc_outside.proofs.LineParts.{made}
use Rattle.abc_outside.proofs.memory_lines.line_of.Goals as goal

pub returns : goal.returns
returns c = sym (made c.args.text.now c.without_cr-text.result.now c.in_ok-of.field-0 c.min-most.result c.without_cr-text.ensures c.min-most.ensures c.in_ok-of.ensures)
