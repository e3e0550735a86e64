use Rattle.std.proofs.Common.{ℕ, List, length, sym, subst}
use Rattle.std.specs.Prelude.{IfOk}
use Rattle.abc_ground.specs.Groups.{with_cut}
use Rattle.abc_ground.specs.Typable.{IsTypable, Values}
use Rattle.abc_tree.specs.declared.commands.Unit.{Unit as Routine}
use Rattle.abc_check.specs.Cuts.{AllAreSpelled}
use Rattle.abc_outcome.specs.Checks.{TellsTypeLine}
use Rattle.abc_store.proofs.Spelled.{cut_spelled}
use Rattle.abc_outcome.proofs.Typed.{unit_line}
use Rattle.abc_outcome.proofs.checks.unit_type_line.Goals as goal

pub returns : goal.returns
returns c =
    let kept = c.args.store.now.kept in
    let u = c.args.unit.now in
    let spelled = subst (λ (us : List Routine). AllAreSpelled u us) (sym c.units.ensures.units) (cut_spelled c.regular_templates.ensures c.one_template.ensures kept.units c.units.ensures.kept u c.requires.spelled) in
    subst (λ (values : Values). IfOk c.line_of.result (TellsTypeLine (λ n. IsTypable values (with_cut u n kept.units)) (length u.lines))) c.targets.ensures.targets
    (subst (λ (us : List Routine). IfOk c.line_of.result (TellsTypeLine (λ n. IsTypable c.targets.result.now (with_cut u n us)) (length u.lines))) c.units.ensures.units
    (unit_line c.targets.result.now c.line_of.result c.check_unit.result c.line_of.ensures.none c.line_of.ensures.some u c.units.result.now c.requires.some spelled c.check_unit.ensures.ok c.check_unit.ensures.fault))
