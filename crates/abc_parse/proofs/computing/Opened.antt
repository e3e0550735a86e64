-- What is known of the lines of an item that is computed for them.
use Rattle.std.proofs.Common.{◌≡◌, ℕ, Bool, true, false, List, [], ◌∷◌, Option, Some, None, refl, sym, subst}
use Rattle.std.specs.Prelude.{is_none, if◌then◌else◌, option_map}
use Rattle.abc_num.specs.declared.lines.Line.{Line}
use Rattle.abc_tree.specs.declared.commands.Command.{Command}
use Rattle.abc_tree.specs.declared.commands.Item.{Item}
use Rattle.abc_tree.specs.declared.commands.Item.TheVariants as item
use Rattle.abc_tree.specs.declared.commands.Unit.{Unit as Routine}
use Rattle.abc_outline.specs.declared.rows.Row.{Row}
use Rattle.abc_outline.specs.Rows.{rows_of}
use Rattle.abc_faults.specs.declared.facts.Facts.{Facts}
use Rattle.abc_faults.specs.declared.fault.Fault.{Fault}
use Rattle.abc_faults.specs.declared.sayings.Saying.{Saying}
use Rattle.abc_faults.specs.Environments.{asked, environment_fault, is_environment}
use Rattle.abc_faults.specs.Facts.{clause_of, facts_of, place_below}
use Rattle.abc_faults.specs.Faults.{fault_from, fault_of_rows, item_fault}
use Rattle.abc_faults.specs.Sayings.{AllSay, next_line, saying, stop}
use Rattle.abc_parse.specs.Readings.{and_then, built, command_of, item_of, item_of_rows, says_from, unit_of}
use Rattle.abc_parse.proofs.each_thing.EachLine.{found}
use Rattle.abc_parse.proofs.each_thing.PartsMade.{mapped, some_same}

pub says_told : (facts : Facts) (above rows : List Row) (lines : List Saying) → says_from facts above rows ≡ Some lines → AllSay facts above rows lines
says_told facts above [] lines e = subst (λ (lines : List Saying). AllSay facts above [] lines) (some_same e) stop
says_told facts above (row ∷ rows) lines e =
    let c = found (clause_of facts (place_below facts above row) row) (λ clause. option_map (λ lines. saying row clause ∷ lines) (says_from facts (row ∷ above) rows)) lines e in
    let m = mapped (λ (lines : List Saying). saying row c.0 ∷ lines) (says_from facts (row ∷ above) rows) lines c.2 in
    subst (λ (lines : List Saying). AllSay facts above (row ∷ rows) lines) (sym m.2) (next_line c.1 (says_told facts (row ∷ above) rows m.0 m.1))

-- the lines of a unit, and those of an immediate command
pub record MakesUnit (lines : List Line) (facts : Facts) (row : Row) (rows : List Row) (u : Routine) : Type 0 where
  pub unit : facts.setting.unit ≡ true
  pub fine : fault_from facts [] (row ∷ rows) ≡ None
  pub sayings : List Saying
  pub say : AllSay facts [] (row ∷ rows) sayings
  pub is : unit_of facts lines sayings ≡ Some u

pub record MakesCommand (facts : Facts) (row : Row) (rows : List Row) (c : Command) : Type 0 where
  pub unit : facts.setting.unit ≡ false
  pub fine : fault_from facts [] (row ∷ rows) ≡ None
  pub sayings : List Saying
  pub say : AllSay facts [] (row ∷ rows) sayings
  pub is : command_of facts sayings ≡ Some c

abbrev pub Makes : List Line → List (List ℕ) → List Row → Item → Type 0
Makes lines targets [] it = ⊥
Makes lines targets (row ∷ rows) (item.Environment e) = Unit {0}
Makes lines targets (row ∷ rows) (item.Command c) = MakesCommand (facts_of targets (row ∷ rows)) row rows c
Makes lines targets (row ∷ rows) (item.Unit u) = MakesUnit lines (facts_of targets (row ∷ rows)) row rows u

module _ (lines : List Line) (targets : List (List ℕ)) (row : Row) (rows : List Row) where
  abbrev facts : Facts
  facts = facts_of targets (row ∷ rows)

  made_item : (it : Item) (sayings : List Saying) → fault_from facts [] (row ∷ rows) ≡ None → AllSay facts [] (row ∷ rows) sayings → (b : Bool) → facts.setting.unit ≡ b
      → (if b then option_map (λ u. item.Unit u) (unit_of facts lines sayings) else option_map (λ c. item.Command c) (command_of facts sayings)) ≡ Some it → Makes lines targets (row ∷ rows) it
  made_item it sayings f say true unit e =
      let m = mapped (λ u. item.Unit u) (unit_of facts lines sayings) it e in
      subst (Makes lines targets (row ∷ rows)) (sym m.2) (record { unit = unit; fine = f; sayings = sayings; say = say; is = m.1 })
  made_item it sayings f say false unit e =
      let m = mapped (λ c. item.Command c) (command_of facts sayings) it e in
      subst (Makes lines targets (row ∷ rows)) (sym m.2) (record { unit = unit; fine = f; sayings = sayings; say = say; is = m.1 })

  made_rows : (it : Item) (b : Bool) → (if b then option_map (λ kind. record { line = 1; kind = kind }) (environment_fault row) else fault_from facts [] (row ∷ rows)) ≡ None
      → (if b then Some (item.Environment (asked row)) else and_then (says_from facts [] (row ∷ rows)) (built facts lines)) ≡ Some it → Makes lines targets (row ∷ rows) it
  made_rows it true f e = subst (Makes lines targets (row ∷ rows)) (some_same e) tt
  made_rows it false f e =
      let c = found (says_from facts [] (row ∷ rows)) (built facts lines) it e in
      made_item it c.0 f (says_told facts [] (row ∷ rows) c.0 c.1) facts.setting.unit refl c.2

pub rows_make : (lines : List Line) (targets : List (List ℕ)) (rows : List Row) (it : Item) → fault_of_rows targets rows ≡ None → item_of_rows lines targets rows ≡ Some it → Makes lines targets rows it
rows_make lines targets [] it f e = absurd cc
rows_make lines targets (row ∷ rows) it f e = made_rows lines targets row rows it (is_environment (row ∷ rows)) f e

guarded : (at : Option Fault) (o : Option Item) (it : Item) → (if is_none at then o else None) ≡ Some it → (at ≡ None) × (o ≡ Some it)
guarded None o it e = (refl, e)
guarded (Some at) o it e = absurd cc

pub item_made : (lines : List Line) (targets : List (List ℕ)) (it : Item) → item_of lines targets ≡ Some it → Makes lines targets (rows_of lines) it
unfolding item_of
item_made lines targets it e =
    let q = guarded (item_fault lines targets) (item_of_rows lines targets (rows_of lines)) it e in rows_make lines targets (rows_of lines) it q.0 q.1
