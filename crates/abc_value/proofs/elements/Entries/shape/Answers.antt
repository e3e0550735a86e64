use Rattle.std.proofs.Common.{◌≡◌, map, sym, subst, IfOk, Option}
use Rattle.abc_value.specs.Tree.{table, pairs}
use Rattle.abc_value.specs.Forms.{Form, a_table, both, form_of}
use Rattle.abc_value.specs.View.{as_pair}
use Rattle.abc_value.specs.declared.table_shapes.TableShapes.{TableShapes}
use Rattle.abc_value.specs.inner.Keeps.{KeepsBoth, kept_form}
use Rattle.abc_value.proofs.kept_forms.KeptShapes.{table_kept}
use Rattle.abc_value.proofs.elements.Entries.shape.Goals as goal

pub returns : goal.returns
returns c =
    let es = c.self.inside.items in
    let s = c.deref.result.now in
    let Q : TableShapes → Type 0 = λ q. KeepsBoth q es in
    let kept = subst Q (sym c.deref.ensures) c.self.invariant in
    let is : both a_table (kept_form s.keys) (kept_form s.associates) ≡ form_of (table (pairs (map as_pair c.args.self.now))) =
    table_kept (kept_form s.keys) (kept_form s.associates) s.keys.whole s.associates.whole es c.args.self.now c.self.view_is c.requires kept.0 kept.1 in
    subst (λ (told : Option Form). IfOk c.shape.result (λ found. found ≡ told)) is c.shape.ensures
