use Rattle.std.specs.Map.{keys_of}
use Rattle.abc_tree.specs.declared.commands.Item.TheVariants as item
use Rattle.abc_sound.specs.Checked.{IsReadCommand}
use Rattle.abc_store.proofs.Typed.{typed_from}
use Rattle.abc_outcome.proofs.Accepted.{accepted}
use Rattle.abc_outcome.proofs.laws.accepted_commands_are_never_wrong.Goals as goal

pub returns : goal.returns
returns c kept lines command held is none fits budget behind short =
    let read : IsReadCommand command = record {
      regular = c.regular_items.ensures lines (keys_of kept.targets) (item.Command command) is;
      numbers = c.numbered_items.ensures lines (keys_of kept.targets) (item.Command command) is;
    } in
    let a = accepted c.session_items.ensures c.kept_units_are_regular.ensures kept command held.regular held.units held.in_order read none fits in (
      c.checked_items_are_never_wrong.ensures.never kept.units kept.targets command a.0 a.1 a.2 1000 behind.lines behind.ends budget short,
      typed_from _ kept.units (c.checked_items_are_never_wrong.ensures.typable kept.units kept.targets command a.0 a.1 a.2 1000 behind.lines behind.ends budget short),
    )
