use Rattle.std.proofs.Common.{rules, ◌≡◌, ◌∙◌, ℕ, List, ap}
use Rattle.abc_tree.specs.Templates.{template_text}
use Rattle.abc_store.specs.Workspace.{Workspace, unit_named}
use Rattle.abc_store.proofs.Units.{found_by_text}
use Rattle.abc_store.proofs.contents.Contents.unit.Goals as goal

pub returns : goal.returns
returns c =
    let written : template_text c.in_ok-written.written ≡ c.args.template.now = search rules in
    c.get.ensures.unit ∙ found_by_text c.in_ok-written.written c.self.inside.units ∙ ap (λ (s : List ℕ). unit_named s c.self.inside.units) written
    ∙ ap (λ (w : Workspace). unit_named c.args.template.now w.units) c.self.view_is
