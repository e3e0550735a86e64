use Rattle.std.proofs.Common.{ap, sym, ◌∙◌, subst, take}
use Rattle.std.specs.List.{IsDistinct}
use Rattle.indexmap.specs.IndexSet.{insert_key}
use Rattle.abc_num.specs.Text.{text_eq}
use Rattle.abc_num.proofs.Texts.{next_name}
use Rattle.abc_num.proofs.names.Names.copy.Goals as goal

pub loop-text-preserved : goal.loop-text-preserved
loop-text-preserved c =
    let names = c.as_slice-text-items.result.now in
    let i = c.loop-text.text-index in
    c.in_ok-insert.ensures.keys ∙ ap (λ keys. insert_key text_eq keys c.in_ok-of.field-0) c.loop-text.invariant
    ∙ ap (insert_key text_eq (take i names)) (c.in_ok-of.ensures ∙ c.bytes.ensures ∙ c.text-item.is)
    ∙ next_name names i _ (subst (IsDistinct text_eq) (sym c.as_slice-text-items.ensures.keys) c.as_slice-text-items.ensures.unique) c.loop-text-test.true
