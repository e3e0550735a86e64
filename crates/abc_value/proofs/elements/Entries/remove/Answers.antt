use Rattle.std.proofs.Common.{List, sym, subst}
use Rattle.abc_value.specs.declared.value.Entry.{Entry}
use Rattle.abc_value.specs.declared.table_shapes.TableShapes.{TableShapes}
use Rattle.abc_value.specs.inner.Keeps.{KeepsBoth}
use Rattle.abc_value.proofs.elements.Entries.remove.Goals as goal

pub invariant_of-self-2 : goal.invariant_of-self-2
invariant_of-self-2 c =
    let es = c.self.inside.items in
    let P : List Entry → Type 0 = λ fs. KeepsBoth c.in_ok-shapes.shapes.value fs in
    let Q : TableShapes → Type 0 = λ s. KeepsBoth s es in
    let kept = subst Q (sym c.deref.ensures) c.self.invariant in
    subst P (sym c.in_ok-gone.ensures.ok) (c.in_ok-shapes.ensures kept)
