use Rattle.std.proofs.Common.{◌≡◌, subst, IfOk, Option}
use Rattle.abc_value.specs.Forms.{Form, a_table, both}
use Rattle.abc_value.specs.inner.Keeps.{kept_form}
use Rattle.abc_value.proofs.table_shapes.TableShapes.shape.Goals as goal

pub returns : goal.returns
returns c =
    let keys : c.in_ok-keys.keys ≡ kept_form c.args.self.now.keys = c.in_ok-keys.ensures in
    let associates : c.in_ok-associates.associates ≡ kept_form c.args.self.now.associates = c.in_ok-associates.ensures in
    subst (λ (told : Option Form). IfOk c.table_shape.result (λ found. found ≡ told)) (λ i. both a_table (keys i) (associates i)) c.table_shape.ensures
