-- A unit doesn't depend on targets.
use Rattle.std.proofs.Common.{◌≡◌, ℕ, true, List, [], ◌∷◌, refl, ap, sym, ◌∙◌, subst}
use Rattle.std.specs.Prelude.{Some, None, is_none, option_map, if◌then◌else◌}
use Rattle.abc_num.specs.declared.lines.Line.{Line}
use Rattle.abc_tree.specs.declared.commands.Item.{Item}
use Rattle.abc_tree.specs.declared.commands.Item.TheVariants as item
use Rattle.abc_expressions.specs.Addresses.{each_once}
use Rattle.abc_outline.specs.declared.rows.Row.{Row}
use Rattle.abc_outline.specs.Outline.{setting_of, is_unit}
use Rattle.abc_outline.specs.OwnNames.{given_names, names_from, own_names, used_names, item_names, refinements, name_kinds, commands_of}
use Rattle.abc_outline.specs.Rows.{rows_of}
use Rattle.abc_faults.specs.declared.facts.Facts.{Facts}
use Rattle.abc_faults.specs.Environments.{asked, is_environment, environment_fault}
use Rattle.abc_faults.specs.Facts.{facts_of, unit_kind}
use Rattle.abc_faults.specs.Faults.{fault_from, fault_of_rows, item_fault}
use Rattle.abc_parse.specs.Items.{SpellsCommand, SpellsUnit, SpellsRows, SpellsItem}
use Rattle.abc_parse.specs.Readings.{and_then, built, item_of, item_of_rows, says_from}

module _ (rows : List Row) (unit : is_unit rows ≡ true) (s t : List (List ℕ)) where
  same_own : own_names s rows ≡ own_names t rows
  unfolding own_names
  same_own =
      ap (λ u. each_once (given_names u s) (names_from (setting_of rows) [] rows)) unit
      ∙ sym (ap (λ u. each_once (given_names u t) (names_from (setting_of rows) [] rows)) unit)

  same_names : item_names s rows ≡ item_names t rows
  unfolding item_names
  same_names = ap (λ own. used_names own rows) same_own

  abbrev facts_with : List (List ℕ) → Facts
  facts_with names = record {
    setting = setting_of rows;
    kind = unit_kind rows;
    names = names;
    kinds = name_kinds names (refinements rows);
    commands = commands_of (refinements rows);
    sections = refinements rows;
  }

  pub same_facts : facts_of s rows ≡ facts_of t rows
  same_facts = ap facts_with same_names

  pub same_spelling : (lines : List Line) (it : Item) → SpellsRows lines rows s it → SpellsRows lines rows t it
  same_spelling lines (item.Environment e) p = p
  same_spelling lines (item.Command c) p = (p.0, p.1, subst (λ (f : Facts). SpellsCommand f rows c) same_facts p.2)
  same_spelling lines (item.Unit u) p = (p.0, p.1, subst (λ (f : Facts). SpellsUnit f lines rows u) same_facts p.2)

same_fault : (rows : List Row) → is_unit rows ≡ true → (s t : List (List ℕ)) → fault_of_rows s rows ≡ fault_of_rows t rows
same_fault [] unit s t = refl
same_fault (row ∷ rows) unit s t =
    ap (λ (f : Facts). if is_environment (row ∷ rows) then option_map (λ kind. record { line = 1; kind = kind }) (environment_fault row) else fault_from f [] (row ∷ rows))
    (same_facts (row ∷ rows) unit s t)

pub alone_fault : (lines : List Line) (s t : List (List ℕ)) → is_unit (rows_of lines) ≡ true → item_fault lines s ≡ item_fault lines t
alone_fault lines s t unit = same_fault (rows_of lines) unit s t

pub alone_tree : (lines : List Line) (s t : List (List ℕ)) (it : Item) → is_unit (rows_of lines) ≡ true → SpellsItem lines s it → SpellsItem lines t it
alone_tree lines s t it unit p = same_spelling (rows_of lines) unit s t lines it p

same_rows : (lines : List Line) (rows : List Row) → is_unit rows ≡ true → (s t : List (List ℕ)) → item_of_rows lines s rows ≡ item_of_rows lines t rows
same_rows lines [] unit s t = refl
same_rows lines (row ∷ rows) unit s t =
    ap (λ (f : Facts). if is_environment (row ∷ rows) then Some (item.Environment (asked row)) else and_then (says_from f [] (row ∷ rows)) (built f lines))
    (same_facts (row ∷ rows) unit s t)

pub alone_computed : (lines : List Line) (s t : List (List ℕ)) → is_unit (rows_of lines) ≡ true → item_of lines s ≡ item_of lines t
unfolding item_of
alone_computed lines s t unit =
    ap (λ o. if is_none o then item_of_rows lines s (rows_of lines) else None) (alone_fault lines s t unit)
    ∙ ap (λ o. if is_none (item_fault lines t) then o else None) (same_rows lines (rows_of lines) unit s t)
