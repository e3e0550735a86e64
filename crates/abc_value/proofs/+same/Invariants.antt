use Rattle.std.proofs.Common.{◌≡◌, ◌+◌, ◌*◌, drop}
use Rattle.abc_value.specs.Forms.{forms}
use Rattle.abc_value.specs.FormCode.{depth_of, forms_depth}
use Rattle.abc_value.specs.inner.Kept.{same_forms}
use Rattle.abc_value.proofs.+same.Given as goal

abbrev pub decreases-shape::Shape::is : goal.decreases-shape::Shape::is
decreases-shape::Shape::is l = 2 * depth_of l.self.now + 1

abbrev pub decreases-common::are_same : goal.decreases-common::are_same
decreases-common::are_same l = 2 * forms_depth (forms l.a.now)

abbrev pub invariant-common::are_same-loop-i : goal.invariant-common::are_same-loop-i
invariant-common::are_same-loop-i l = same_forms (forms l.a) (forms l.b) ≡ same_forms (forms (drop l.i l.a)) (forms (drop l.i l.b))
