use Rattle.std.proofs.Common.{List, Some, sym, subst}
use Rattle.std.specs.Prelude.{IfOk}
use Rattle.abc_groups.specs.Program.{LAST_LINE}
use Rattle.abc_ground.specs.Groups.{whole}
use Rattle.abc_ground.specs.Typable.{IsTypableWith, Values}
use Rattle.abc_tree.specs.declared.commands.Unit.{Unit as Routine}
use Rattle.abc_check.specs.Cuts.{CutsAreSpelled}
use Rattle.abc_outcome.specs.Checks.{IsUpToDate, TellsTypeLine}
use Rattle.abc_store.proofs.Spelled.{command_spelled, units_spelled}
use Rattle.abc_outcome.proofs.Typed.{command_line}
use Rattle.abc_outcome.proofs.checks.command_type_line.Goals as goal

pub checker_of-requires-clause-spelled : goal.checker_of-requires-clause-spelled
checker_of-requires-clause-spelled c =
    let units = c.args.store.now.kept.units in
    subst (λ (us : List Routine). CutsAreSpelled (whole us)) (sym c.units.ensures.units) (units_spelled c.regular_templates.ensures c.one_template.ensures units c.units.ensures.kept)

pub returns-clause-told : goal.returns-clause-told
returns-clause-told c =
    let kept = c.args.store.now.kept in
    let command = c.args.command.now in
    let stands = subst (λ (us : List Routine). IsUpToDate (Some c.in_ok-made.made) us) c.units.ensures.units c.in_ok-made.ensures in
    subst (λ (values : Values). IfOk c.line_of.result (TellsTypeLine (λ n. IsTypableWith values (whole kept.units) command n) LAST_LINE)) c.targets.ensures.targets
    (command_line c.targets.result.now c.line_of.result c.check_command-checked.result c.line_of.ensures.none c.line_of.ensures.some c.in_ok-made.made (whole kept.units) command stands.1
    (command_spelled c.regular_templates.ensures c.one_template.ensures kept.units c.units.ensures.kept command c.requires.regular) c.check_command-checked.ensures.ok c.check_command-checked.ensures.fault)
