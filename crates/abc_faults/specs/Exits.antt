-- How a line may leave what it stands in.
use Rattle.std.specs.Prelude.{Bool, true, false, not, List, Option, Some, None, option_map, slice_get}
use Rattle.abc_tree.specs.declared.commands.Action.{Action}
use Rattle.abc_tree.specs.declared.commands.Alternative.{Alternative}
use Rattle.abc_tree.specs.declared.commands.ActionNode.{ActionNode, out-ActionNode}
use Rattle.abc_tree.specs.declared.commands.ActionNode.TheOpen.{ActionNode-F}
use Rattle.abc_tree.specs.declared.commands.RefinementKind.{RefinementKind}
use Rattle.abc_tree.specs.declared.commands.RefinementKind.TheVariants as refines
use Rattle.abc_tree.specs.declared.templates.TemplateKind.{TemplateKind}
use Rattle.abc_tree.specs.declared.templates.TemplateKind.TheVariants as template
use Rattle.abc_outline.specs.declared.edges.Place.{Place}
use Rattle.abc_outline.specs.declared.edges.Section.{Section}
use Rattle.abc_outline.specs.declared.refining.Refined.{Refined}
use Rattle.abc_faults.specs.declared.exits.Exits.{Exits}
use Rattle.abc_faults.specs.declared.facts.Facts.{Facts}

-- QUIT leaves a command unit and an immediate command, RETURN a function, and REPORT, SUCCEED and FAIL a predicate
abbrev pub exits_of : TemplateKind → Exits
exits_of template.Command = record { quit = true; returns = false; reports = false }
exits_of template.Function = record { quit = false; returns = true; reports = false }
exits_of template.Predicate = record { quit = false; returns = false; reports = true }

-- QUIT leaves the command refinements of a command unit, RETURN expression refinements, the others test refinements
abbrev pub refinement_exits : TemplateKind → RefinementKind → Exits
refinement_exits unit refines.Command = record { quit = (exits_of unit).quit; returns = false; reports = false }
refinement_exits unit refines.Expression = record { quit = false; returns = true; reports = false }
refinement_exits unit refines.Test = record { quit = false; returns = false; reports = true }

abbrev pub exits_in : TemplateKind → Option RefinementKind → Exits
exits_in unit None = exits_of unit
exits_in unit (Some kind) = refinement_exits unit kind

-- the kind of the refinement in which a line stands, by its own heading
abbrev pub section_kind : List Refined → Option Section → Option RefinementKind
section_kind sections None = None
section_kind sections (Some section) = option_map (λ refined. refined.kind) (slice_get sections section.number)

abbrev pub exits_at : Facts → Place → Exits
exits_at facts place = exits_in facts.kind (section_kind facts.sections place.section)

-- QUIT, RETURN, REPORT, SUCCEED or FAIL where it may not stand
abbrev pub leaves_by : Exits → ActionNode-F ActionNode Action Alternative → Bool
leaves_by exits ActionNode-F.Quit = not exits.quit
leaves_by exits (ActionNode-F.Return value) = not exits.returns
leaves_by exits (ActionNode-F.Report test) = not exits.reports
leaves_by exits ActionNode-F.Succeed = not exits.reports
leaves_by exits ActionNode-F.Fail = not exits.reports
leaves_by exits _ = false

abbrev pub leaves_badly : Exits → ActionNode → Bool
leaves_badly exits node = leaves_by exits (out-ActionNode node)
