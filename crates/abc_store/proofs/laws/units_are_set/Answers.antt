use Rattle.std.proofs.Common.{◌≡◌, ◌∙◌, true, [], sym}
use Rattle.abc_outline.specs.Outline.{is_unit}
use Rattle.abc_outline.specs.Rows.{rows_of}
use Rattle.abc_tree.specs.declared.commands.Item.TheVariants as item
use Rattle.abc_store.proofs.OwnLines.{own_lines, unit_by_item}
use Rattle.abc_store.proofs.laws.units_are_set.Goals as goal

pub returns : goal.returns
returns c lines targets unit is =
    let spells = (c.computed_item.ensures lines targets (item.Unit unit)).1 is in
    let a_unit : is_unit (rows_of lines) ≡ true = spells.0.1 in
    (unit_by_item lines unit (sym (c.unit_alone.ensures.computed lines targets [] a_unit) ∙ is), own_lines lines targets unit is)
