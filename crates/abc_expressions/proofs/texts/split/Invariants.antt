use Rattle.std.proofs.Common.{◌≡◌, ◌≤◌, length}
use Rattle.abc_expressions.specs.inner.Machine.{before_parts, split}
use Rattle.abc_expressions.specs.inner.Splitting.{all_parts}
use Rattle.abc_expressions.proofs.texts.split.Given as goal

abbrev pub invariant-parts : goal.invariant-parts
invariant-parts l = (before_parts (all_parts l.so_far) (split l.quote l.ahead 0) ≡ split l.quote l.body 0) × (length l.ahead ≤ length l.marks.items)

abbrev pub decreases-parts : goal.decreases-parts
decreases-parts l = length l.ahead
