-- Units as a map: in the order of their templates, one for each.
use Rattle.std.specs.Prelude.{List, Option, true}
use Rattle.abc_tree.specs.Ordered.{RiseBy, found_by, placed_by, without_by}
use Rattle.abc_tree.specs.declared.commands.Unit.{Unit as Routine}
use Rattle.abc_tree.specs.declared.templates.Template.{Template}

abbrev pub key : Routine → Template
key unit = unit.template

-- each unit's template is less than those of the units behind it
abbrev pub AreRising : List Routine → Type 0
AreRising = RiseBy key

-- the unit with this template, if there is one
abbrev pub unit_of : Template → List Routine → Option Routine
unit_of = found_by key

-- the units with this one, in place of one with its template
abbrev pub with_unit : Routine → List Routine → List Routine
with_unit = placed_by key true

-- the units without the one with this template
abbrev pub without_unit : Template → List Routine → List Routine
without_unit = without_by key
