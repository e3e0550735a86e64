use Rattle.std.proofs.Common.{map, refl, sym, ◌∙◌, subst}
use Rattle.std.specs.List.{insert}
use Rattle.std.proofs.lemmas.List.{length-map}
use Rattle.abc_value.specs.declared.value.Entry.{Entry}
use Rattle.abc_value.specs.declared.table_shapes.TableShapes.{TableShapes}
use Rattle.abc_value.specs.inner.Keeps.{KeepsBoth, kept_form}
use Rattle.abc_value.proofs.kept_forms.KeepingSteps.{column_inserted}
use Rattle.abc_value.proofs.table_shapes.TableShapes.with.Goals as goal

pub returns : goal.returns
returns c = λ es i count k.
    let fs = insert es i c.args.entry.now in
    let P : TableShapes → Type 0 = λ s. KeepsBoth s fs in
    subst P (sym c.in_ok-new.ensures.ok) (
      column_inserted (λ (e : Entry). e.key) (kept_form c.in_ok-keys.keys) c.in_ok-keys.keys.whole es fs i c.args.entry.now refl
          (c.in_ok-keys.ensures (map (λ (e : Entry). e.key) es) (length-map es (λ (e : Entry). e.key) ∙ count) k.0),
      column_inserted (λ (e : Entry). e.associate) (kept_form c.in_ok-associates.associates) c.in_ok-associates.associates.whole es fs i c.args.entry.now refl
          (c.in_ok-associates.ensures (map (λ (e : Entry). e.associate) es) (length-map es (λ (e : Entry). e.associate) ∙ count) k.1),
    )
