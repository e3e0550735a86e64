use Rattle.std.proofs.Common.{List, sym, subst}
use Rattle.abc_value.specs.declared.value.Entry.{Entry}
use Rattle.abc_value.specs.declared.table_shapes.TableShapes.{TableShapes}
use Rattle.abc_value.specs.inner.Keeps.{KeepsBoth}
use Rattle.abc_value.proofs.elements.Entries.copy.Goals as goal

pub invariant_of-result : goal.invariant_of-result
invariant_of-result c =
    let P : TableShapes → Type 0 = λ s. KeepsBoth s c.in_ok-items.items in
    let Q : List Entry → Type 0 = λ es. KeepsBoth c.self.inside.shapes.value es in
    subst P (sym c.in_ok-shapes.ensures.cases) (subst Q (sym c.in_ok-items.ensures) c.self.invariant)
