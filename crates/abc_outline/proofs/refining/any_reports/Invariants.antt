use Rattle.std.proofs.Common.{◌≡◌, length}
use Rattle.std.specs.Prelude.{suc, if◌then◌else◌}
use Rattle.std.specs.List.{list_any}
use Rattle.abc_outline.specs.Refinements.{begins_report}
use Rattle.abc_outline.specs.inner.Cutting.{parts_behind}
use Rattle.abc_outline.proofs.refining.any_reports.Given as goal

abbrev pub invariant-loop-more : goal.invariant-loop-more
invariant-loop-more l = list_any begins_report (parts_behind l.more l.ahead) ≡ list_any begins_report (parts_behind l.fn.colon l.fn.tokens)

abbrev pub decreases-loop-more : goal.decreases-loop-more
decreases-loop-more l = if l.more then suc (length l.ahead) else 0
