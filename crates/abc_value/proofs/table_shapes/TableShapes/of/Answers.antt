use Rattle.std.proofs.Common.{sym, subst}
use Rattle.abc_value.specs.declared.table_shapes.TableShapes.{TableShapes}
use Rattle.abc_value.specs.inner.Keeps.{KeepsBoth}
use Rattle.abc_value.proofs.table_shapes.TableShapes.of.Goals as goal

pub returns : goal.returns
returns c =
    let P : TableShapes → Type 0 = λ s. KeepsBoth s c.args.entries.now in
    subst P (sym c.in_ok-new.ensures.ok) (c.in_ok-keys.ensures, c.in_ok-associates.ensures)
