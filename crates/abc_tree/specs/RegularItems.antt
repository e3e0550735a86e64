-- Regular commands and units.
use Rattle.std.specs.Prelude.{◌≡◌, ◌<◌, ℕ, suc, Bool, true, false, not, ◌&&◌, ◌==◌, nat_le, nat_lt, List, [], ◌∷◌, ◌++◌, length, map, filter, Option, Some, None, unwrap_or, option_map, slice_get, slice_index_or, if◌then◌else◌}
use Rattle.std.specs.List.{list_all, list_any}
use Rattle.abc_num.specs.Text.{text_eq}
use Rattle.abc_num.specs.declared.limits.TheConstants.{MOST_LINES, MOST_NAMES, MOST_FORMALS, MOST_SUITES}
use Rattle.abc_tree.specs.Lists.{flat}
use Rattle.abc_tree.specs.Regular.{Names, is_call, is_command, is_regular_template, is_regular_expression, is_regular_test, is_regular_bound, is_address, is_literal}
use Rattle.abc_tree.specs.declared.templates.Template.{Template}
use Rattle.abc_tree.specs.declared.templates.TemplateKind.{TemplateKind}
use Rattle.abc_tree.specs.declared.templates.TemplateKind.TheVariants as kind
use Rattle.abc_tree.specs.declared.formulas.NameId.{NameId}
use Rattle.abc_tree.specs.declared.formulas.Bound.{Bound, fold-Bound, out-Bound}
use Rattle.abc_tree.specs.declared.formulas.Bound.TheOpen.{Bound-F}
use Rattle.abc_tree.specs.declared.formulas.Expr.{Expr, fold-Expr}
use Rattle.abc_tree.specs.declared.formulas.Expr.TheOpen.{Expr-F}
use Rattle.abc_tree.specs.declared.formulas.Test.{Test, fold-Test}
use Rattle.abc_tree.specs.declared.formulas.Test.TheOpen.{Test-F}
use Rattle.abc_tree.specs.declared.commands.Action.{Action, fold-Action}
use Rattle.abc_tree.specs.declared.commands.ActionNode.TheOpen.{Action-F, ActionNode-F, Alternative-F}
use Rattle.abc_tree.specs.declared.commands.Refinement.{Refinement}
use Rattle.abc_tree.specs.declared.commands.RefinementKind.{RefinementKind}
use Rattle.abc_tree.specs.declared.commands.RefinementKind.TheVariants as refines
use Rattle.abc_tree.specs.declared.commands.Command.{Command}
use Rattle.abc_tree.specs.declared.commands.Unit.{Unit as Routine}

-- what stands in a command, in the order of the text
pub data Part : Type 0 where
  line : ℕ → Part
  value : Expr → Part
  address : Expr → Part
  example : Expr → Part
  test : Test → Part
  bound : Bound → Part
  quits : Part
  returns : Part
  reports : Part
  calls : Template → ℕ → Part
  refinement : List ℕ → Part
  early_else : Part

-- each with the count of the suites round it
abbrev pub Parts : Type 0
Parts = List (ℕ × Part)

abbrev pub here : List Part → Parts
here parts = map (λ part. (0, part)) parts

-- in a suite
abbrev pub inside : List Parts → Parts
inside suite = map (λ part. (suc part.0, part.1)) (flat suite)

-- an alternative: whether it is ELSE, its line and its test, and its suite
pub record Way : Type 0 where
  pub otherwise : Bool
  pub parts : Parts

abbrev pub written_part : Option Expr → List Part
written_part None = []
written_part (Some e) = value e ∷ []

abbrev pub tested : Option Test → List Part
tested None = []
tested (Some t) = test t ∷ []

abbrev pub is_else : Option Test → Bool
is_else None = true
is_else (Some t) = false

-- what an alternative before the last adds: it may not be ELSE
abbrev pub early : Bool → Parts
early true = here (early_else ∷ [])
early false = []

-- the parts of all alternatives
abbrev pub ways : List Way → Parts
ways [] = []
ways (way ∷ []) = way.parts
ways (way ∷ way_2 ∷ rest) = (early way.otherwise ++ way.parts) ++ ways (way_2 ∷ rest)

abbrev pub node_parts : ActionNode-F Parts Parts Way → Parts
node_parts (ActionNode-F.Write before part after) = here (written_part part)
node_parts (ActionNode-F.Put e a) = here (value e ∷ address a ∷ [])
node_parts (ActionNode-F.Insert e a) = here (value e ∷ address a ∷ [])
node_parts (ActionNode-F.Remove e a) = here (value e ∷ address a ∷ [])
node_parts (ActionNode-F.Delete a) = here (address a ∷ [])
node_parts (ActionNode-F.ReadExample a e) = here (address a ∷ example e ∷ [])
node_parts (ActionNode-F.ReadRaw a) = here (address a ∷ [])
node_parts (ActionNode-F.Check t) = here (test t ∷ [])
node_parts ActionNode-F.Pass = []
node_parts (ActionNode-F.If t suite) = here (test t ∷ []) ++ inside suite
node_parts (ActionNode-F.Select alternatives) = ways alternatives
node_parts (ActionNode-F.While t suite) = here (test t ∷ []) ++ inside suite
node_parts (ActionNode-F.For names train suite) = here (bound names ∷ value train ∷ []) ++ inside suite
node_parts ActionNode-F.Quit = here (quits ∷ [])
node_parts (ActionNode-F.Return e) = here (value e ∷ returns ∷ [])
node_parts (ActionNode-F.Report t) = here (test t ∷ reports ∷ [])
node_parts ActionNode-F.Succeed = here (reports ∷ [])
node_parts ActionNode-F.Fail = here (reports ∷ [])
node_parts (ActionNode-F.Call template actuals) = here (calls template (length actuals) ∷ map (λ e. value e) actuals)
node_parts (ActionNode-F.Refinement name) = here (refinement name ∷ [])

abbrev pub action_parts : Action-F Parts Parts Way → Parts
action_parts action = here (line action.line ∷ []) ++ action.node

abbrev pub way_of : Alternative-F Parts Parts Way → Way
way_of a = record { otherwise = is_else a.test; parts = here (line a.line ∷ tested a.test) ++ inside a.suite }

-- what stands in a command
abbrev pub parts_of : Action → Parts
parts_of = fold-Action Parts Parts Way node_parts action_parts way_of

abbrev pub suite_parts : List Action → Parts
suite_parts suite = inside (map parts_of suite)

-- how a body may be left
pub record Exits : Type 0 where
  pub quit : Bool
  pub return : Bool
  pub report : Bool

-- QUIT leaves a command unit, RETURN a function, and REPORT, SUCCEED and FAIL a predicate
abbrev pub exits_of : TemplateKind → Exits
exits_of kind.Command = record { quit = true; return = false; report = false }
exits_of kind.Function = record { quit = false; return = true; report = false }
exits_of kind.Predicate = record { quit = false; return = false; report = true }

-- the command refinements of a unit
abbrev pub is_one_of : List (List ℕ) → List ℕ → Bool
is_one_of names name = list_any (text_eq name) names

module _ (names : Names) (refinements : List (List ℕ)) (exits : Exits) where
  abbrev pub is_regular_part : Part → Bool
  is_regular_part (line n) = nat_le 1 n && nat_le n MOST_LINES
  is_regular_part (value e) = is_regular_expression names e
  is_regular_part (address e) = is_regular_expression names e && is_address e
  is_regular_part (example e) = is_regular_expression names e && is_literal e
  is_regular_part (test t) = is_regular_test names t
  is_regular_part (bound b) = is_regular_bound names b
  is_regular_part quits = exits.quit
  is_regular_part returns = exits.return
  is_regular_part reports = exits.report
  is_regular_part (calls template actuals) = is_call is_command template actuals
  is_regular_part (refinement name) = is_one_of refinements name
  is_regular_part early_else = false

  -- and no more suites are open than may be
  abbrev pub are_regular_parts : Parts → Bool
  are_regular_parts parts = list_all (λ part. nat_le part.0 MOST_SUITES && is_regular_part part.1) parts

-- the lines, which don't fall
abbrev pub line_of : Part → List ℕ
line_of (line n) = n ∷ []
line_of _ = []

abbrev pub lines_of : Parts → List ℕ
lines_of parts = flat (map (λ part. line_of part.1) parts)

abbrev pub do_not_fall : List ℕ → Bool
do_not_fall [] = true
do_not_fall (m ∷ []) = true
do_not_fall (m ∷ n ∷ lines) = nat_le m n && do_not_fall (n ∷ lines)

-- the names that are bound, and those that stand as addresses
abbrev pub bound_over : Bound-F (List ℕ) → List ℕ
bound_over (Bound-F.One i) = i.0 ∷ []
bound_over (Bound-F.Several parts) = flat parts

abbrev pub bound_names : Bound → List ℕ
bound_names = fold-Bound (List ℕ) bound_over

abbrev pub test_bounds : Test-F (List ℕ) → List ℕ
test_bounds (Test-F.And a b) = a ++ b
test_bounds (Test-F.Or a b) = a ++ b
test_bounds (Test-F.Not a) = a
test_bounds (Test-F.Quantified q names train inner) = bound_names names ++ inner
test_bounds _ = []

abbrev pub address_over : Expr-F (List ℕ) Bool Bool Bool → List ℕ
address_over (Expr-F.Name i) = i.0 ∷ []
address_over (Expr-F.Select t k) = t
address_over (Expr-F.Compound parts) = flat parts
address_over _ = []

abbrev pub bounds_in_test : Test → List ℕ
bounds_in_test = fold-Test (List ℕ) test_bounds

abbrev pub bounds_in : Part → List ℕ
bounds_in (bound b) = bound_names b
bounds_in (test t) = bounds_in_test t
bounds_in _ = []

abbrev pub addressed_in : Part → List ℕ
addressed_in (address e) = fold-Expr (List ℕ) Bool Bool Bool address_over (λ fill. false) (λ piece. false) (λ pair. false) e
addressed_in _ = []

abbrev pub bounds_of : Parts → List ℕ
bounds_of parts = flat (map (λ part. bounds_in part.1) parts)

abbrev pub addressed : Parts → List ℕ
addressed parts = flat (map (λ part. addressed_in part.1) parts)

-- a number is among these
abbrev pub is_among : List ℕ → ℕ → Bool
is_among ns m = list_any (λ n. m == n) ns

-- no number of the one list stands in the other
abbrev pub are_apart : List ℕ → List ℕ → Bool
are_apart ms ns = list_all (λ m. not (is_among ns m)) ms

-- one flag for each of so many names: whether its number is among these
pub record AreFlags (count : ℕ) (numbers : List ℕ) (flags : List Bool) : Type 0 where
  pub all : length flags ≡ count
  pub each : (i : ℕ) (d : Bool) → i < count → slice_index_or flags i d ≡ is_among numbers i

-- none of a command's names is a refinement
abbrev pub command_names : Command → Names
command_names command = record { count = length command.names; refinement = λ i. None }

-- a regular immediate command
unfoldable pub is_regular_command : Command → Bool
is_regular_command command =
    let parts = parts_of command.action in
    are_regular_parts (command_names command) [] (exits_of kind.Command) parts
    && do_not_fall (lines_of parts) && are_apart (bounds_of parts) (addressed parts) && nat_le (length command.names) MOST_NAMES

-- the refinement with this name, if there is one
abbrev pub refinement_by : List ℕ → List Refinement → Option Refinement
refinement_by name [] = None
refinement_by name (r ∷ rs) = if text_eq r.name name then Some r else refinement_by name rs

-- its kind
abbrev pub refinement_named : List ℕ → List Refinement → Option RefinementKind
refinement_named name rs = option_map (λ r. r.kind) (refinement_by name rs)

-- the text of a name
abbrev pub name_at : List (List ℕ) → ℕ → List ℕ
name_at names i = unwrap_or (slice_get names i) []

abbrev pub names_of : Routine → Names
names_of unit = record { count = length unit.names; refinement = λ i. refinement_named (name_at unit.names i) unit.refinements }

-- and in a refinement likewise; QUIT leaves those of a command unit alone
abbrev pub refinement_exits : TemplateKind → RefinementKind → Exits
refinement_exits unit refines.Command = record { quit = is_command unit; return = false; report = false }
refinement_exits unit refines.Expression = record { quit = false; return = true; report = false }
refinement_exits unit refines.Test = record { quit = false; return = false; report = true }

abbrev pub is_command_refinement : RefinementKind → Bool
is_command_refinement refines.Command = true
is_command_refinement _ = false

abbrev pub command_refinements : Routine → List (List ℕ)
command_refinements unit = map (λ r. r.name) (filter (λ r. is_command_refinement r.kind) unit.refinements)

-- what stands in all commands of a unit
abbrev pub parts_of_unit : Routine → Parts
parts_of_unit unit = suite_parts unit.body ++ flat (map (λ r. here (line r.line ∷ []) ++ suite_parts r.suite) unit.refinements)

-- the body and each refinement may be left as they may
abbrev pub has_regular_bodies : Routine → Bool
has_regular_bodies unit =
    let refinements = command_refinements unit in
    are_regular_parts (names_of unit) refinements (exits_of unit.template.kind) (suite_parts unit.body)
    && list_all (λ r. are_regular_parts (names_of unit) refinements (refinement_exits unit.template.kind r.kind) (suite_parts r.suite)) unit.refinements

-- the lines don't fall, and are lines of the unit
abbrev pub has_regular_lines : Routine → Bool
has_regular_lines unit =
    let lines = lines_of (parts_of_unit unit) in
    do_not_fall lines && list_all (λ n. nat_le 1 n && nat_le n MOST_LINES && nat_le n (length unit.lines)) lines

abbrev pub formal_names : Routine → List ℕ
formal_names unit = flat (map bound_names unit.formals)

-- the numbers of these names
abbrev pub numbers : List NameId → List ℕ
numbers ids = map (λ i. i.0) ids

abbrev pub shared_names : Routine → List ℕ
shared_names unit = numbers unit.shared

abbrev pub are_different : List (List ℕ) → Bool
are_different [] = true
are_different (name ∷ names) = not (is_one_of names name) && are_different names

-- no name has two roles
abbrev pub has_single_roles : Routine → Bool
has_single_roles unit =
    let parts = parts_of_unit unit in
    let refinements = map (λ r. r.name) unit.refinements in
    let texts = λ (numbers : List ℕ). map (name_at unit.names) numbers in
    are_different (texts (formal_names unit ++ shared_names unit) ++ refinements)
    && are_apart (bounds_of parts) (formal_names unit ++ shared_names unit ++ addressed parts)
    && list_all (λ name. not (is_one_of refinements name)) (texts (bounds_of parts ++ addressed parts))

-- a name by itself
abbrev pub is_alone : Bound-F Bound → Bool
is_alone (Bound-F.One i) = true
is_alone (Bound-F.Several parts) = false

-- the formals of a command unit are names by themselves
abbrev pub has_plain_formals : TemplateKind → List Bound → Bool
has_plain_formals kind.Command formals = list_all (λ b. is_alone (out-Bound b)) formals
has_plain_formals _ formals = true

-- a regular unit
unfoldable pub is_regular_unit : Routine → Bool
is_regular_unit unit =
    is_regular_template unit.template && (length unit.formals == unit.template.places) && nat_le (length unit.formals) MOST_FORMALS
    && list_all (is_regular_bound (names_of unit)) unit.formals && list_all (λ i. nat_lt i.0 (length unit.names)) unit.shared && nat_le (length unit.names) MOST_NAMES
    && are_different unit.names && has_plain_formals unit.template.kind unit.formals
    && has_regular_bodies unit && has_regular_lines unit && has_single_roles unit
