use Rattle.std.proofs.Common.{◌≡◌, ◌∙◌, Some, false, sym, ap}
use Rattle.std.specs.Prelude.{is_some, position}
use Rattle.std.specs.List.{list_any}
use Rattle.abc_num.specs.Text.{text_eq}
use Rattle.abc_tree.specs.Templates.{template_text}
use Rattle.abc_groups.specs.Program.{entry_texts, texts}
use Rattle.abc_groups.proofs.GraphLaws.{program_at, program_none}
use Rattle.abc_groups.proofs.indexed.IndexedProgram.called.Goals as goal

pub returns-in_ok-copies-in-Some : goal.returns-in_ok-copies-in-Some
returns-in_ok-copies-in-Some c =
    let graph = c.args.self.now.entries.now in
    let t = template_text c.args.t.now in
    let found : position (text_eq t) (entry_texts graph) ≡ Some c.in-Some.at = ap (position (text_eq t)) (sym c.requires) ∙ sym c.in_ok-at.ensures.place ∙ c.in-Some.is in
    ap (λ ts. Some (texts ts)) (c.in_ok-copies-in-Some.ensures ∙ c.as_slice.ensures) ∙ sym (program_at graph t c.in-Some.at c.index-self-at.result found)

pub returns-in-None : goal.returns-in-None
returns-in-None c =
    let t = template_text c.args.t.now in
    let none : list_any (text_eq t) (entry_texts c.args.self.now.entries.now) ≡ false = ap (list_any (text_eq t)) (sym c.requires) ∙ sym c.in_ok-at.ensures.found ∙ ap is_some c.in-None.is in
    sym (program_none c.args.self.now.entries.now t none)
