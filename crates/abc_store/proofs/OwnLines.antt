-- The unit that lines spell has these lines.
use Rattle.std.proofs.Common.{◌≡◌, ℕ, Bool, true, false, cond, List, [], ◌∷◌, Option, None, Some, refl, sym, ap, ◌∙◌}
use Rattle.std.specs.Prelude.{is_none, option_map, option_and_then}
use Rattle.abc_num.specs.declared.lines.Line.{Line}
use Rattle.abc_tree.specs.declared.commands.Command.{Command}
use Rattle.abc_tree.specs.declared.commands.Environment.{Environment}
use Rattle.abc_tree.specs.declared.commands.Item.{Item}
use Rattle.abc_tree.specs.declared.commands.Item.TheVariants as item
use Rattle.abc_tree.specs.declared.commands.Unit.{Unit as Routine}
use Rattle.abc_outline.specs.declared.rows.Row.{Row}
use Rattle.abc_outline.specs.Rows.{rows_of}
use Rattle.abc_faults.specs.declared.facts.Facts.{Facts}
use Rattle.abc_faults.specs.declared.fault.Fault.{Fault}
use Rattle.abc_faults.specs.declared.sayings.Saying.{Saying}
use Rattle.abc_faults.specs.Environments.{asked, is_environment}
use Rattle.abc_faults.specs.Facts.{facts_of}
use Rattle.abc_faults.specs.Faults.{item_fault}
use Rattle.abc_parse.specs.Readings.{and_then, says_from, unit_with, unit_parts_of, unit_of, command_of, built, item_of_rows, item_of}
use Rattle.abc_store.specs.Workspace.{unit_in, unit_of_lines}

-- where it is a unit, it has these lines
abbrev HasLines : List Line → Option Item → Type 0
HasLines lines found = (unit : Routine) → found ≡ Some (item.Unit unit) → unit.lines ≡ lines

none_there : (lines : List Line) → HasLines lines None
none_there lines unit e = absurd (cc)

by_parts : {X : Type 0} (unit_of_parts : X → Routine) (lines : List Line) → ((parts : X) → (unit_of_parts parts).lines ≡ lines) → (parts : Option X)
    → HasLines lines (option_map (λ u. item.Unit u) (option_map unit_of_parts parts))
by_parts unit_of_parts lines own None unit e = absurd (cc)
by_parts unit_of_parts lines own (Some parts) unit e = let same : unit_of_parts parts ≡ unit = cc in sym (ap (λ (u : Routine). u.lines) same) ∙ own parts

by_command : (lines : List Line) (found : Option Command) → HasLines lines (option_map (λ c. item.Command c) found)
by_command lines None unit e = absurd (cc)
by_command lines (Some c) unit e = absurd (cc)

by_kind : (lines : List Line) (kind : Bool) (x y : Option Item) → HasLines lines x → HasLines lines y → HasLines lines (cond kind x y)
by_kind lines true x y f g = f
by_kind lines false x y f g = g

by_sayings : (facts : Facts) (lines : List Line) (found : Option (List Saying)) → HasLines lines (and_then found (built facts lines))
by_sayings facts lines None = none_there lines
by_sayings facts lines (Some sayings) =
    by_kind lines facts.setting.unit (option_map (λ u. item.Unit u) (unit_of facts lines sayings)) (option_map (λ c. item.Command c) (command_of facts sayings)) (by_parts (unit_with facts lines sayings) lines (λ parts. refl) (unit_parts_of facts sayings))
    (by_command lines (command_of facts sayings))

by_environment : (lines : List Line) (e : Environment) → HasLines lines (Some (item.Environment e))
by_environment lines e unit is = absurd (cc)

by_rows : (lines : List Line) (targets : List (List ℕ)) (rows : List Row) → HasLines lines (item_of_rows lines targets rows)
by_rows lines targets [] = none_there lines
by_rows lines targets (row ∷ rows) =
    by_kind lines (is_environment (row ∷ rows)) (Some (item.Environment (asked row))) (and_then (says_from (facts_of targets (row ∷ rows)) [] (row ∷ rows)) (built (facts_of targets (row ∷ rows)) lines))
    (by_environment lines (asked row)) (by_sayings (facts_of targets (row ∷ rows)) lines (says_from (facts_of targets (row ∷ rows)) [] (row ∷ rows)))

pub own_lines : (lines : List Line) (targets : List (List ℕ)) (unit : Routine) → item_of lines targets ≡ Some (item.Unit unit) → unit.lines ≡ lines
unfolding item_of
own_lines lines targets = by_kind lines (is_none (item_fault lines targets)) (item_of_rows lines targets (rows_of lines)) None (by_rows lines targets (rows_of lines)) (none_there lines)

-- which item a unit is found in
the_unit : (found : Option Item) (unit : Routine) → option_and_then unit_in found ≡ Some unit → found ≡ Some (item.Unit unit)
the_unit None unit e = absurd (cc)
the_unit (Some (item.Command c)) unit e = absurd (cc)
the_unit (Some (item.Environment c)) unit e = absurd (cc)
the_unit (Some (item.Unit u)) unit e = let same : u ≡ unit = cc in ap (λ (v : Routine). Some (item.Unit v)) same

pub unit_has_lines : (lines : List Line) (unit : Routine) → unit_of_lines lines ≡ Some unit → unit.lines ≡ lines
unfolding unit_of_lines
unit_has_lines lines unit e = own_lines lines [] unit (the_unit (item_of lines []) unit e)

-- a unit, by the item of its lines
pub unit_by_item : (lines : List Line) (unit : Routine) → item_of lines [] ≡ Some (item.Unit unit) → unit_of_lines lines ≡ Some unit
unfolding unit_of_lines
unit_by_item lines unit e = ap (option_and_then unit_in) e

-- ---- what the parser tells of lines without targets

pub by_item : (lines : List Line) (targets : List (List ℕ)) (found : Item) (unit : Routine) → targets ≡ [] → item_of lines targets ≡ Some found → found ≡ item.Unit unit → unit_of_lines lines ≡ Some unit
by_item lines targets found unit none is kind =
    unit_by_item lines unit (ap (item_of lines) (sym none) ∙ is ∙ ap (λ (i : Item). Some i) kind)

no_unit : (lines : List Line) (targets : List (List ℕ)) (found : Option Item) → targets ≡ [] → item_of lines targets ≡ found → option_and_then unit_in found ≡ None → unit_of_lines lines ≡ None
unfolding unit_of_lines
no_unit lines targets found none is other = ap (λ (ts : List (List ℕ)). option_and_then unit_in (item_of lines ts)) (sym none) ∙ ap (option_and_then unit_in) is ∙ other

pub by_command_item : (lines : List Line) (targets : List (List ℕ)) (found : Item) (c : Command) → targets ≡ [] → item_of lines targets ≡ Some found → found ≡ item.Command c → unit_of_lines lines ≡ None
by_command_item lines targets found c none is kind = no_unit lines targets (Some (item.Command c)) none (is ∙ ap (λ (i : Item). Some i) kind) refl

pub by_environment_item : (lines : List Line) (targets : List (List ℕ)) (found : Item) (e : Environment) → targets ≡ [] → item_of lines targets ≡ Some found → found ≡ item.Environment e → unit_of_lines lines ≡ None
by_environment_item lines targets found e none is kind = no_unit lines targets (Some (item.Environment e)) none (is ∙ ap (λ (i : Item). Some i) kind) refl

no_item : (lines : List Line) (targets : List (List ℕ)) (at : Fault) → item_fault lines targets ≡ Some at → item_of lines targets ≡ None
unfolding item_of
no_item lines targets at is = ap (λ (f : Option Fault). cond (is_none f) (item_of_rows lines targets (rows_of lines)) None) is

pub by_fault : (lines : List Line) (targets : List (List ℕ)) (at : Fault) → targets ≡ [] → item_fault lines targets ≡ Some at → unit_of_lines lines ≡ None
by_fault lines targets at none is = no_unit lines targets None none (no_item lines targets at is) refl
