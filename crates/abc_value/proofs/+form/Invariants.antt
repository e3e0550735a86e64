use Rattle.std.proofs.Common.{◌≡◌, ◌+◌, ◌*◌, drop}
use Rattle.abc_value.specs.Tree.{trees}
use Rattle.abc_value.specs.Sizes.{height_of, trees_height}
use Rattle.abc_value.specs.Forms.{forms_of}
use Rattle.abc_value.proofs.forms.ShapeSteps.{in_front}
use Rattle.abc_value.proofs.+form.Given as goal

abbrev pub decreases-shape::Shape::of : goal.decreases-shape::Shape::of
decreases-shape::Shape::of l = 3 * height_of l.v.now + 1

abbrev pub decreases-forming::shapes_of : goal.decreases-forming::shapes_of
decreases-forming::shapes_of l = 3 * trees_height (trees l.parts.now)

abbrev pub invariant-forming::shapes_of-loop-i : goal.invariant-forming::shapes_of-loop-i
invariant-forming::shapes_of-loop-i l = forms_of (trees l.parts) ≡ in_front l.shapes.items (forms_of (trees (drop l.i l.parts)))
