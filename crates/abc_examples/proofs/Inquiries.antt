-- What lines answer that ask about a workspace: x is 1, and there are the units GO, whose second line is indented by four columns, and `RETURN two`.
use Rattle.std.specs.Prelude.{◌≡◌, ℕ, false, List, [], ◌∷◌, codes, pos, refl}
use Rattle.std.specs.Fmt.{digits}
use Rattle.abc_num.specs.Number.{whole_number}
use Rattle.abc_num.specs.declared.lines.Line.{Line}
use Rattle.abc_value.specs.Tree.{number, text}
use Rattle.abc_value.specs.Printed.{places}
use Rattle.abc_tree.specs.declared.commands.Environment.TheVariants as asks
use Rattle.abc_tree.specs.declared.commands.Unit.{Unit as Routine}
use Rattle.abc_tree.specs.declared.templates.TemplateKind.TheVariants as kind
use Rattle.abc_tree.specs.declared.templates.Word.TheVariants as word
use Rattle.abc_store.specs.Workspace.{Workspace, empty}
use Rattle.abc_inquiry.specs.declared.answering.Answered.TheVariants.{Shows, Drops, NoUnit, NoTarget}
use Rattle.abc_inquiry.specs.Inquiry.{inquiry}
use Rattle.abc_examples.proofs.Units.{how_to, line}

abbrev indented : List ℕ → Line
indented bytes = record { indent = 4; text = bytes; long = false }

abbrev go : Routine
go = record (how_to (codes "GO") []) { lines = line (codes "HOW TO GO:") ∷ indented (codes "PASS") ∷ [] }

abbrev two : Routine
two = record (how_to (codes "two") []) {
  template = record { kind = kind.Function; words = word.Key (codes "two") ∷ []; places = 0 };
  lines = line (codes "HOW TO RETURN two: RETURN 2") ∷ [];
}

abbrev kept : Workspace
kept = record { targets = (codes "s", text (codes "a b")) ∷ (codes "x", number (whole_number (pos 1))) ∷ []; units = go ∷ two ∷ [] }

-- the units by their templates, the targets by their names; of an empty workspace nothing
lists : (inquiry kept asks.Units ≡ Shows (codes "GO\nRETURN two\n")) × (inquiry kept asks.Targets ≡ Shows (codes "s\nx\n"))
    × (inquiry empty asks.Units ≡ Shows []) × (inquiry empty asks.Targets ≡ Shows [])
lists = (refl, refl, refl, refl)

-- the lines of a unit as they were put, with their indentation; it is named by its whole template
shown_units : (inquiry kept (asks.ShowUnit (codes "GO")) ≡ Shows (codes "HOW TO GO:\n    PASS\n")) × (inquiry kept (asks.ShowUnit (codes "RETURN two")) ≡ Shows (codes "HOW TO RETURN two: RETURN 2\n"))
    × (inquiry kept (asks.ShowUnit (codes "two")) ≡ NoUnit) × (inquiry kept (asks.ShowUnit (codes "x")) ≡ NoUnit)
shown_units = (refl, refl, refl, refl)

-- the display of a target: a text stands in quotes, and no line ends it
shown_targets : (inquiry kept (asks.ShowTarget (codes "s")) ≡ Shows (codes "\"a b\"")) × (inquiry kept (asks.ShowTarget (codes "x")) ≡ Shows (codes "1"))
    × (inquiry kept (asks.ShowTarget (codes "GO")) ≡ NoTarget) × (inquiry empty (asks.ShowTarget (codes "x")) ≡ NoTarget)
unfolding places digits
shown_targets = (refl, refl, refl, refl)

-- a unit is taken out by its template, where it is there
removed : (inquiry kept (asks.RemoveUnit (codes "GO")) ≡ Drops (codes "GO")) × (inquiry kept (asks.RemoveUnit (codes "STOP")) ≡ NoUnit)
removed = (refl, refl)
