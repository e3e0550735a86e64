use Rattle.std.proofs.Common.{◌≡◌, ◌-◌, ◌≤◌, length, drop}
use Rattle.abc_make.specs.Summary.{last_from, reply_line}
use Rattle.abc_make.proofs.lines.last_line.Given as goal

abbrev pub invariant-bytes : goal.invariant-bytes
invariant-bytes l = (last_from l.line (drop l.place l.reply) ≡ reply_line l.reply) × (l.place ≤ length l.reply)

abbrev pub decreases-bytes : goal.decreases-bytes
decreases-bytes l = length l.reply - l.place
