use Rattle.std.proofs.Common.{◌≡◌, ◌+◌, ◌*◌, drop}
use Rattle.abc_value.specs.Forms.{forms, join_each}
use Rattle.abc_value.specs.FormCode.{depth_of, forms_depth}
use Rattle.abc_value.proofs.forms.ShapeSteps.{in_front}
use Rattle.abc_value.proofs.+join.Given as goal

abbrev pub decreases-shape::Shape::join : goal.decreases-shape::Shape::join
decreases-shape::Shape::join l = 2 * depth_of l.self.now + 1

abbrev pub decreases-joining::join_fields : goal.decreases-joining::join_fields
decreases-joining::join_fields l = 2 * forms_depth (forms l.a.now)

abbrev pub invariant-joining::join_fields-loop-i : goal.invariant-joining::join_fields-loop-i
invariant-joining::join_fields-loop-i l = join_each (forms l.a) (forms l.b) ≡ in_front l.fields.items (join_each (forms (drop l.i l.a)) (forms (drop l.i l.b)))
