-- The templates in an item are regular: that of a unit, and each that is called.
use Rattle.std.specs.Prelude.{◌≡◌, ℕ, true}
use Rattle.std.specs.List.{Contains}
use Rattle.abc_tree.specs.Calls.{command_nodes, unit_nodes}
use Rattle.abc_tree.specs.Regular.{is_regular_template}
use Rattle.abc_tree.specs.declared.commands.Command.{Command}
use Rattle.abc_tree.specs.declared.commands.Item.{Item}
use Rattle.abc_tree.specs.declared.commands.Item.TheVariants as item
use Rattle.abc_tree.specs.declared.commands.Unit.{Unit as Routine}
use Rattle.abc_tree.specs.declared.templates.Template.{Template}

-- each template that a command calls is regular
abbrev pub CommandIsRegular : Command → Type 0
CommandIsRegular c = (n : ℕ) (t : Template) → Contains (command_nodes n c) t → is_regular_template t ≡ true

-- that of a unit is, and each that it calls
pub record UnitIsRegular (u : Routine) : Type 0 where
  pub own : is_regular_template u.template ≡ true
  pub calls : (n : ℕ) (t : Template) → Contains (unit_nodes n u) t → is_regular_template t ≡ true

abbrev pub HasRegularTemplates : Item → Type 0
HasRegularTemplates (item.Environment e) = Unit {0}
HasRegularTemplates (item.Command c) = CommandIsRegular c
HasRegularTemplates (item.Unit u) = UnitIsRegular u
