-- Which templates the units call. A template is known by its text.
use Rattle.std.specs.Prelude.{◌≡◌, ◌≢◌, ◌-◌, ◌^◌, ℕ, List, [], ◌∷◌, map, Option, Some, None, if◌then◌else◌}
use Rattle.std.specs.declared.cmp.Ordering.TheVariants.{Greater}
use Rattle.abc_num.specs.Names.{AreDifferent}
use Rattle.abc_num.specs.Text.{text_cmp, text_eq}
use Rattle.abc_tree.specs.Calls.{called_upto}
use Rattle.abc_tree.specs.Templates.{template_text}
use Rattle.abc_tree.specs.declared.commands.Unit.{Unit as Routine}
use Rattle.abc_tree.specs.declared.templates.Template.{Template}
use Rattle.abc_groups.specs.Reach.{IsFrom}
use Rattle.abc_groups.specs.declared.graph.Calls.{Calls}

-- what the unit with this template calls; none where there is no such unit
abbrev pub Program : Type 0
Program = List ℕ → Option (List (List ℕ))

abbrev pub texts : List Template → List (List ℕ)
texts = map template_text

-- the templates that are called; a missing unit calls none
abbrev pub if_any : Option (List (List ℕ)) → List (List ℕ)
if_any None = []
if_any (Some ts) = ts

abbrev pub called : Program → List ℕ → List (List ℕ)
called program t = if_any (program t)

-- there is no unit with this template
abbrev pub IsMissing : Program → List ℕ → Type 0
IsMissing program t = program t ≡ None

-- a graph lists what each unit calls
abbrev pub program_of : List Calls → Program
program_of [] t = None
program_of (entry ∷ graph) t = if text_eq t (template_text entry.template) then Some (texts entry.called) else program_of graph t

-- no two entries have one template
abbrev pub entry_texts : List Calls → List (List ℕ)
entry_texts = map (λ entry. template_text entry.template)

abbrev pub EachOnce : List Calls → Type 0
EachOnce graph = AreDifferent (entry_texts graph)

-- the greatest number that a line can have
abbrev pub LAST_LINE : ℕ
LAST_LINE = 2 ^ 32 - 1

-- what a unit calls on all its lines
abbrev pub entry_of : Routine → Calls
entry_of unit = record { template = unit.template; called = called_upto LAST_LINE unit }

-- the graph of these units, in their order
abbrev pub graph_in : List Routine → List Calls
graph_in = map entry_of

-- the least missing template that is one of these or is reached from one of them
pub record IsFirstMissing (program : Program) (from : List (List ℕ)) (t : List ℕ) : Type 0 where
  pub missing : IsMissing program t
  pub reached : IsFrom (called program) from t
  pub least : (u : List ℕ) → IsMissing program u → IsFrom (called program) from u → text_cmp t u ≢ Greater

-- there is none
abbrev pub NoneIsMissing : Program → List (List ℕ) → Type 0
NoneIsMissing program from = (u : List ℕ) → IsFrom (called program) from u → program u ≢ None
