use Rattle.std.proofs.Common.{rules, ◌≡◌, Some, sym}
use Rattle.abc_tree.specs.declared.commands.Item.TheVariants as item
use Rattle.abc_parse.specs.Readings.{item_of}
use Rattle.abc_store.proofs.OwnLines.{by_item, by_command_item, by_environment_item, by_fault}
use Rattle.abc_store.proofs.contents.unit_of.Goals as goal

pub returns-in-Ok-Unit : goal.returns-in-Ok-Unit
returns-in-Ok-Unit c =
    let found : item_of c.args.lines.now c.new.result ≡ Some c.in-Ok-Unit.field-0 = search rules in
    let kind : c.in-Ok-Unit.field-0 ≡ item.Unit c.in-Ok-Unit.unit = search rules in
    sym (by_item c.args.lines.now c.new.result c.in-Ok-Unit.field-0 c.in-Ok-Unit.unit c.new.ensures found kind)

pub returns-in-Ok-Command : goal.returns-in-Ok-Command
returns-in-Ok-Command c =
    let found : item_of c.args.lines.now c.new.result ≡ Some c.in-Ok-Command.field-0 = search rules in
    let kind : c.in-Ok-Command.field-0 ≡ item.Command c.in-Ok-Command.field-0-0 = search rules in
    sym (by_command_item c.args.lines.now c.new.result c.in-Ok-Command.field-0 c.in-Ok-Command.field-0-0 c.new.ensures found kind)

pub returns-in-Ok-Environment : goal.returns-in-Ok-Environment
returns-in-Ok-Environment c =
    let found : item_of c.args.lines.now c.new.result ≡ Some c.in-Ok-Environment.field-0 = search rules in
    let kind : c.in-Ok-Environment.field-0 ≡ item.Environment c.in-Ok-Environment.field-0-0 = search rules in
    sym (by_environment_item c.args.lines.now c.new.result c.in-Ok-Environment.field-0 c.in-Ok-Environment.field-0-0 c.new.ensures found kind)

pub returns-in-Err-At : goal.returns-in-Err-At
returns-in-Err-At c =
    sym (by_fault c.args.lines.now c.new.result c.in-Err-At.field-0-0 c.new.ensures (c.parse_item.ensures.fault c.in-Err-At.field-0-0 (search rules)))
