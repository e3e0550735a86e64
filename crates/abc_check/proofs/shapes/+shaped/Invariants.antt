use Rattle.std.proofs.Common.{◌+◌, ◌-◌, ◌*◌, length, take}
use Rattle.abc_value.specs.FormCode.{depth_of}
use Rattle.abc_value.specs.ShapeParts.{shape_parts}
use Rattle.abc_scheme.specs.Later.{IsLater}
use Rattle.abc_check.specs.inner.Shaped.{AreShapeVars}
use Rattle.abc_check.proofs.shapes.+shaped.Given as goal

abbrev pub decreases-shape_var : goal.decreases-shape_var
decreases-shape_var l = 2 * depth_of l.shape.now + 1

abbrev pub decreases-part_vars : goal.decreases-part_vars
decreases-part_vars l = 2 * depth_of l.shape.now

abbrev pub invariant-part_vars-loop-part : goal.invariant-part_vars-loop-part
invariant-part_vars-loop-part l = record {
  later : IsLater l.initial.graph l.graph;
  made : AreShapeVars (take (length l.vars.items) (shape_parts l.shape)) l.initial.graph l.graph l.vars.items;
}

abbrev pub decreases-part_vars-loop-part : goal.decreases-part_vars-loop-part
decreases-part_vars-loop-part l = length (shape_parts l.shape) - length l.vars.items
