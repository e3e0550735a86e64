use Rattle.std.proofs.Common.{rules, ◌≡◌}
use Rattle.abc_tree.specs.Templates.{template_text}
use Rattle.abc_store.proofs.Units.{dropped}
use Rattle.abc_store.proofs.contents.Contents.drop_unit.Goals as goal

pub returns-clause-ok : goal.returns-clause-ok
returns-clause-ok c =
    let written : template_text c.in_ok-written.written ≡ c.args.template = search rules in
    dropped c.self.inside.targets c.self.inside.units c.take-gone.new.self c.args.self.now c.args.template c.in_ok-written.written c.self.view_is c.take-gone.ensures.units written
