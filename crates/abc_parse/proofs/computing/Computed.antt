-- The item that lines without a fault spell is the one that is computed.
use Rattle.std.proofs.Common.{◌≡◌, ℕ, Bool, true, false, List, [], ◌∷◌, Option, Some, None, refl, ap, sym, ◌∙◌, subst}
use Rattle.std.specs.Prelude.{◌↔◌, is_none, option_map, if◌then◌else◌}
use Rattle.abc_num.specs.declared.lines.Line.{Line}
use Rattle.abc_tree.specs.declared.commands.Item.{Item}
use Rattle.abc_tree.specs.declared.commands.Item.TheVariants as item
use Rattle.abc_outline.specs.declared.rows.Row.{Row}
use Rattle.abc_outline.specs.Rows.{rows_of}
use Rattle.abc_faults.specs.declared.facts.Facts.{Facts}
use Rattle.abc_faults.specs.declared.fault.Fault.{Fault}
use Rattle.abc_faults.specs.declared.sayings.Saying.{Saying}
use Rattle.abc_faults.specs.Environments.{asked, environment_fault, is_environment}
use Rattle.abc_faults.specs.Facts.{facts_of}
use Rattle.abc_faults.specs.Faults.{fault_from, fault_of_rows, item_fault}
use Rattle.abc_faults.specs.Sayings.{AllSay, stop}
use Rattle.abc_parse.specs.declared.parts.Root.{Root}
use Rattle.abc_parse.specs.Items.{SpellsItem, SpellsRows, command_root}
use Rattle.abc_parse.specs.Readings.{and_then, built, item_of, item_of_rows, says_from}
use Rattle.abc_parse.specs.Trees.{Reads}
use Rattle.abc_parse.proofs.computing.Built.{built_command, built_unit, says_all}
use Rattle.abc_parse.proofs.spelling.Whole.{faultless_command, faultless_rows, faultless_unit, one_saying}

-- ---- rows that don't ask

module _ (lines : List Line) (row : Row) (rows : List Row) (targets : List (List ℕ)) (plain : is_environment (row ∷ rows) ≡ false) where
  pub fault_plain : fault_of_rows targets (row ∷ rows) ≡ fault_from (facts_of targets (row ∷ rows)) [] (row ∷ rows)
  fault_plain =
      ap (λ b. if b then option_map (λ kind. record { line = 1; kind = kind }) (environment_fault row) else fault_from (facts_of targets (row ∷ rows)) [] (row ∷ rows)) plain

  pub rows_plain : item_of_rows lines targets (row ∷ rows) ≡ and_then (says_from (facts_of targets (row ∷ rows)) [] (row ∷ rows)) (built (facts_of targets (row ∷ rows)) lines)
  rows_plain =
      ap (λ b. if b then Some (item.Environment (asked row)) else and_then (says_from (facts_of targets (row ∷ rows)) [] (row ∷ rows)) (built (facts_of targets (row ∷ rows)) lines)) plain

  pub found_command : (c : _) → SpellsRows lines (row ∷ rows) targets (item.Command c) → fault_from (facts_of targets (row ∷ rows)) [] (row ∷ rows) ≡ None
      → and_then (says_from (facts_of targets (row ∷ rows)) [] (row ∷ rows)) (built (facts_of targets (row ∷ rows)) lines) ≡ Some (item.Command c)
  found_command c s f =
      ap (λ o. and_then o (built (facts_of targets (row ∷ rows)) lines)) (says_all s.2.say) ∙ built_command (facts_of targets (row ∷ rows)) row rows f s.1 lines c s.2

  pub found_unit : (u : _) → SpellsRows lines (row ∷ rows) targets (item.Unit u) → fault_from (facts_of targets (row ∷ rows)) [] (row ∷ rows) ≡ None
      → and_then (says_from (facts_of targets (row ∷ rows)) [] (row ∷ rows)) (built (facts_of targets (row ∷ rows)) lines) ≡ Some (item.Unit u)
  found_unit u s f =
      ap (λ o. and_then o (built (facts_of targets (row ∷ rows)) lines)) (says_all s.2.say) ∙ built_unit (facts_of targets (row ∷ rows)) row rows f lines u s.2 s.1

-- rows that say something, and have no fault, are built
pub is_built : (facts : Facts) (all : List Line) (row : Row) (rows : List Row) (lines : List Saying) → AllSay facts [] (row ∷ rows) lines → fault_from facts [] (row ∷ rows) ≡ None → (it : Item) × (built facts all lines ≡ Some it)
is_built facts all row rows lines say f = by facts.setting.unit refl where
  by : (b : Bool) → facts.setting.unit ≡ b → (it : Item) × (built facts all lines ≡ Some it)
  by true unit =
      let q = faultless_unit facts row rows f all unit in
      (item.Unit q.0, ap (built facts all) (one_saying say q.1.say) ∙ built_unit facts row rows f all q.0 q.1 unit)
  by false unit =
      let q = faultless_command facts row rows f unit in
      (item.Command q.0, ap (built facts all) (one_saying say q.1.say) ∙ built_command facts row rows f unit all q.0 q.1)

-- ---- the law

none_said : {facts : Facts} {lines : List Saying} → AllSay facts [] [] lines → lines ≡ []
none_said stop = refl

no_reading : (root : Root) → Reads [] (root ∷ []) → ⊥
no_reading root r = elim r [ ]

no_lines : (facts : Facts) (lines : List Saying) (root : Root) → AllSay facts [] [] lines → Reads lines (root ∷ []) → ⊥
no_lines facts lines root s r = no_reading root (subst (λ (l : List Saying). Reads l (root ∷ [])) (none_said s) r)

no_unit : (facts : Facts) (first : Saying) (rest : List Saying) → AllSay facts [] [] (first ∷ rest) → ⊥
no_unit facts first rest s = elim s [ ]

pub rows_found : (lines : List Line) (rows : List Row) (targets : List (List ℕ)) (it : Item) → SpellsRows lines rows targets it → fault_of_rows targets rows ≡ None → item_of_rows lines targets rows ≡ Some it
rows_found lines [] targets (item.Environment e) s f = absurd cc
rows_found lines [] targets (item.Command c) s f = absurd (no_lines (facts_of targets []) s.2.lines (command_root s.2.indent c) s.2.say s.2.action)
rows_found lines [] targets (item.Unit u) s f = absurd (no_unit (facts_of targets []) s.2.first s.2.rest s.2.say)
rows_found lines (row ∷ rows) targets (item.Environment e) s f =
    ap (λ b. if b then Some (item.Environment (asked row)) else and_then (says_from (facts_of targets (row ∷ rows)) [] (row ∷ rows)) (built (facts_of targets (row ∷ rows)) lines)) s.0
    ∙ ap (λ e. Some (item.Environment e)) (sym s.1)
rows_found lines (row ∷ rows) targets (item.Command c) s f =
    rows_plain lines row rows targets s.0 ∙ found_command lines row rows targets s.0 c s (sym (fault_plain lines row rows targets s.0) ∙ f)
rows_found lines (row ∷ rows) targets (item.Unit u) s f =
    rows_plain lines row rows targets s.0 ∙ found_unit lines row rows targets s.0 u s (sym (fault_plain lines row rows targets s.0) ∙ f)

guarded : (found : Option Fault) (o : Option Item) (it : Item) → (if is_none found then o else None) ≡ Some it → (found ≡ None) × (o ≡ Some it)
guarded None o it e = (refl, e)
guarded (Some at) o it e = absurd cc

pub spelled_computed : (lines : List Line) (targets : List (List ℕ)) (it : Item) → SpellsItem lines targets it → item_fault lines targets ≡ None → item_of lines targets ≡ Some it
unfolding item_of
spelled_computed lines targets it s f =
    ap (λ o. if is_none o then item_of_rows lines targets (rows_of lines) else None) f ∙ rows_found lines (rows_of lines) targets it s f

rows_spelled : (lines : List Line) (rows : List Row) (targets : List (List ℕ)) (it : Item) → fault_of_rows targets rows ≡ None → item_of_rows lines targets rows ≡ Some it → SpellsRows lines rows targets it
rows_spelled lines [] targets it f e = absurd cc
rows_spelled lines (row ∷ rows) targets it f e =
    let q = faultless_rows lines row rows targets f in
    let same : q.0 ≡ it = same_item (sym (rows_found lines (row ∷ rows) targets q.0 q.1 f) ∙ e) in
    subst (SpellsRows lines (row ∷ rows) targets) same q.1 where
      same_item : {x y : Item} → (let s : Option Item = Some x in s ≡ Some y) → x ≡ y
      same_item e = cc

pub computed_spelled : (lines : List Line) (targets : List (List ℕ)) (it : Item) → item_of lines targets ≡ Some it → SpellsItem lines targets it × (item_fault lines targets ≡ None)
unfolding item_of
computed_spelled lines targets it e =
    let q = guarded (item_fault lines targets) (item_of_rows lines targets (rows_of lines)) it e in
    (rows_spelled lines (rows_of lines) targets it q.0 q.1, q.0)

pub computed_item : (lines : List Line) (targets : List (List ℕ)) (it : Item) → (SpellsItem lines targets it × (item_fault lines targets ≡ None)) ↔ (item_of lines targets ≡ Some it)
computed_item lines targets it = ((λ s. spelled_computed lines targets it s.0 s.1), computed_spelled lines targets it)
