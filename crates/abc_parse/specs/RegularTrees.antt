-- A tree that was read is regular, and the numbers that are written in it are numbers.
use Rattle.std.specs.Prelude.{◌≡◌, true}
use Rattle.std.specs.List.{AllByRecursion}
use Rattle.abc_num.specs.Number.{IsNumber}
use Rattle.abc_tree.specs.RegularItems.{is_regular_command, is_regular_unit}
use Rattle.abc_tree.specs.declared.commands.Item.{Item}
use Rattle.abc_tree.specs.declared.commands.Item.TheVariants as item
use Rattle.abc_meaning.specs.Written.{numbers_in_action, numbers_in_unit}

abbrev pub IsRegularItem : Item → Type 0
IsRegularItem (item.Environment e) = Unit {0}
IsRegularItem (item.Command c) = is_regular_command c ≡ true
IsRegularItem (item.Unit u) = is_regular_unit u ≡ true

abbrev pub IsNumberedItem : Item → Type 0
IsNumberedItem (item.Environment e) = Unit {0}
IsNumberedItem (item.Command c) = AllByRecursion IsNumber (numbers_in_action c.action)
IsNumberedItem (item.Unit u) = AllByRecursion IsNumber (numbers_in_unit u)
