use Rattle.std.proofs.Common.{replicate}
use Rattle.abc_tokens.specs.Bytes.{space}
use Rattle.abc_value.proofs.printed.Appending.{IsGoing}
use Rattle.abc_inquiry.proofs.writing.add_spaces.Given as goal

abbrev pub invariant-spaces : goal.invariant-spaces
invariant-spaces l = IsGoing l.fn.bytes.items (replicate l.count space) l.bytes.items (replicate l.left space) l.most

abbrev pub decreases-spaces : goal.decreases-spaces
decreases-spaces l = l.left
