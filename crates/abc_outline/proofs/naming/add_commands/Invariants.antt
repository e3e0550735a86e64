use Rattle.std.proofs.Common.{◌≡◌, length}
use Rattle.std.specs.Prelude.{suc, if◌then◌else◌}
use Rattle.abc_outline.specs.LineNames.{joined, commands_names}
use Rattle.abc_outline.specs.inner.Cutting.{parts_behind}
use Rattle.abc_outline.proofs.naming.add_commands.Given as goal

abbrev pub invariant-loop-more : goal.invariant-loop-more
invariant-loop-more l = joined l.names (commands_names l.fn.unit (parts_behind l.more l.ahead)) ≡ joined l.fn.names (commands_names l.fn.unit (parts_behind l.fn.colon l.fn.tokens))

abbrev pub decreases-loop-more : goal.decreases-loop-more
decreases-loop-more l = if l.more then suc (length l.ahead) else 0
