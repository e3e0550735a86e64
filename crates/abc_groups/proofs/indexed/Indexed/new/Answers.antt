use Rattle.std.proofs.Common.{◌∙◌, ap, take}
use Rattle.abc_num.specs.Text.{text_eq}
use Rattle.indexmap.specs.IndexSet.{insert_key}
use Rattle.abc_groups.specs.Program.{entry_texts}
use Rattle.abc_groups.proofs.GraphLaws.{text_next}
use Rattle.abc_groups.proofs.indexed.Indexed.new.Goals as goal

pub loop-entry-preserved : goal.loop-entry-preserved
loop-entry-preserved c =
    let names = entry_texts c.args.graph.now in
    let i = c.loop-entry.entry-index in
    c.in_ok-insert.ensures.keys ∙ ap (λ keys. insert_key text_eq keys c.from_vec.result) c.loop-entry.invariant
    ∙ ap (insert_key text_eq (take i names)) (c.from_vec.ensures ∙ c.in_ok-text.ensures)
    ∙ text_next c.args.graph.now i c.entry-item.result c.requires c.loop-entry-test.true c.entry-item.is
