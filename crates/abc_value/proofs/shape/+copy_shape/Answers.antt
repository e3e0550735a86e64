use Rattle.std.proofs.Common.{arith}
use Rattle.abc_value.proofs.forms.ShapeSteps.{shape_below}
use Rattle.abc_value.proofs.shape.+copy_shape.Goals as goal

pub copy_shapes-copy-requires : goal.copy_shapes-copy-requires
copy_shapes-copy-requires t c =
    let below = shape_below c.args.shapes.now c.loop-shape.shape-index c.shape-item.result (omega arith) c.shape-item.is in
    (omega arith, tt)
