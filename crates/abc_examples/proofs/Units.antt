-- Units of one command each, for the rows.
use Rattle.std.specs.Prelude.{◌≡◌, ℕ, true, false, List, [], ◌∷◌}
use Rattle.std.proofs.Common.{◌∙◌, sym}
use Rattle.abc_num.specs.Text.{text_eq}
use Rattle.abc_num.proofs.Texts.{text_eq-Decides}
use Rattle.abc_num.specs.declared.lines.Line.{Line}
use Rattle.abc_tree.specs.declared.templates.Template.{Template}
use Rattle.abc_tree.specs.declared.templates.TemplateKind.TheVariants as kind
use Rattle.abc_tree.specs.declared.templates.Word.TheVariants as word
use Rattle.abc_tree.specs.declared.commands.Action.{Action, roll-Action}
use Rattle.abc_tree.specs.declared.commands.ActionNode.{ActionNode}
use Rattle.abc_tree.specs.declared.commands.Unit.{Unit as Routine}
use Rattle.abc_ground.specs.Groups.{Cut}

-- a template of one keyword
abbrev pub keyword : List ℕ → Template
keyword w = record { kind = kind.Command; words = word.Key w ∷ []; places = 0 }

-- a command on a line
abbrev pub on : ℕ → ActionNode → Action
on line what = roll-Action (record { line = line; node = what })

-- a unit with a template of one keyword
abbrev pub how_to : List ℕ → List Action → Routine
how_to w body = record { template = keyword w; formals = []; names = []; shared = []; body = body; refinements = []; lines = [] }

-- a unit of which so many lines count
abbrev pub cut : Routine → ℕ → Cut
cut unit lines = record { unit = unit; lines = lines }

-- a line that isn't indented
abbrev pub line : List ℕ → Line
line text = record { indent = 0; text = text; long = false }

-- texts are two where a comparison tells them apart
pub apart : (s t : List ℕ) → text_eq s t ≡ false → s ≡ t → ⊥
apart s t other is = let f : false ≡ true = sym other ∙ (text_eq-Decides s t).1 is in cc
