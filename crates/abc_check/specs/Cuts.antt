-- Workspaces of cut units: what they call, and units that call each other by their very templates.
use Rattle.std.specs.Prelude.{◌≡◌, ℕ, List, map, Some}
use Rattle.std.specs.List.{Contains}
use Rattle.abc_tree.specs.Calls.{called_upto, unit_nodes}
use Rattle.abc_tree.specs.declared.templates.Template.{Template}
use Rattle.abc_tree.specs.Templates.{template_text}
use Rattle.abc_tree.specs.declared.commands.Unit.{Unit as Routine}
use Rattle.abc_groups.specs.Program.{texts}
use Rattle.abc_groups.specs.declared.graph.Calls.{Calls}
use Rattle.abc_ground.specs.Groups.{Cut, cut_of, template_of, with_cut}

-- what a unit calls on the lines that count, as an entry of a graph
abbrev pub entry_in : Cut → Calls
entry_in c = record { template = c.unit.template; called = called_upto c.lines c.unit }

abbrev pub entries_in : List Cut → List Calls
entries_in w = map entry_in w

-- each call of a unit that is there has its very template
abbrev pub CutsAreSpelled : List Cut → Type 0
CutsAreSpelled w = (c d : Cut) (t : Template) → Contains w c → Contains (unit_nodes c.lines c.unit) t → cut_of t w ≡ Some d → t ≡ template_of d

-- the same of a workspace with a unit in its place, after whatever line it is cut
abbrev pub AllAreSpelled : Routine → List Routine → Type 0
AllAreSpelled unit units = (n : ℕ) → CutsAreSpelled (with_cut unit n units)

-- what stands in a unit as a call is among what it calls
abbrev pub NodesAreCalled : Type 0
NodesAreCalled = (n : ℕ) (unit : Routine) (t : Template) → Contains (unit_nodes n unit) t → Contains (texts (called_upto n unit)) (template_text t)
