-- What comes of an item that was read.
use Rattle.std.proofs.Common.{◌≡◌, ◌<◌, ◌≤◌, ℕ, Bool, true, false, cond, List, [], ◌∷◌, length, Option, Some, None, refl, sym, ap, subst, ◌∙◌, arith}
use Rattle.std.specs.Prelude.{Result, Ok, Err, IfOk, option_map, option_and_then}
use Rattle.std.specs.List.{AllByRecursion}
use Rattle.std.specs.Map.{keys_of}
use Rattle.abc_num.specs.declared.lines.Line.{Line}
use Rattle.abc_tree.specs.declared.commands.Item.{Item}
use Rattle.abc_tree.specs.declared.commands.Item.TheVariants as item
use Rattle.abc_tree.specs.declared.commands.Unit.{Unit as Routine}
use Rattle.abc_tree.specs.declared.commands.Environment.{Environment}
use Rattle.abc_outline.specs.Rows.{IsShort, row_of, rows_of}
use Rattle.abc_faults.specs.declared.fault.Fault.{Fault}
use Rattle.abc_faults.specs.declared.fault.FaultKind.{FaultKind}
use Rattle.abc_faults.specs.Environments.{asked, environment_fault, is_environment}
use Rattle.abc_faults.specs.Faults.{item_fault}
use Rattle.abc_parse.specs.Items.{SpellsItem}
use Rattle.abc_parse.specs.Readings.{item_of}
use Rattle.abc_parse.specs.declared.fault.ItemFault.{ItemFault}
use Rattle.abc_parse.specs.declared.fault.ItemFault.TheVariants.{At, Memory}
use Rattle.abc_journal.specs.declared.layout.Bounds.{Bounds}
use Rattle.abc_record.specs.declared.change.Change.{Change}
use Rattle.abc_record.specs.declared.change.Change.TheVariants.{SetUnit, DropUnit}
use Rattle.abc_record.specs.Kept.{AreKept, AreKeptLines, IsKeptText}
use Rattle.abc_store.specs.Commit.{Work}
use Rattle.abc_store.specs.Laws.{UnitsAreSet}
use Rattle.abc_store.specs.Workspace.{Workspace, changed_by, unit_of_lines, with_routine}
use Rattle.abc_inquiry.specs.Laws.{AskedCanBeSpelled, CanBeSpelled}
use Rattle.abc_outcome.specs.Checks.{IsTypeLineOf, TellsOf}
use Rattle.abc_outcome.specs.Outcome.{Behind, without_unit, on_fault, on_item, outcome}
use Rattle.abc_outcome.specs.inner.Steps.{ComesOf, IsSpelledItem, item_in}

module _ (type_line : Option ℕ) (bounds : Bounds) (budget k : ℕ) (work : Work) (lines : List Line) where
  whole_is : (behind : Behind) → outcome type_line bounds budget k work lines behind ≡ on_fault k work behind (item_fault lines (keys_of work.kept.targets)) (on_item type_line bounds budget k work behind (item_of lines (keys_of work.kept.targets)))
  unfolding outcome
  whole_is behind = refl

  read_so : (r : Result Item ItemFault) → IfOk r (λ it. item_of lines (keys_of work.kept.targets) ≡ Some it)
      → IfOk r (λ it. SpellsItem lines (keys_of work.kept.targets) it × (item_fault lines (keys_of work.kept.targets) ≡ None))
      → ((at : Fault) → r ≡ Err (At at) → item_fault lines (keys_of work.kept.targets) ≡ Some at)
      → ComesOf type_line bounds budget k work r (outcome type_line bounds budget k work lines)
  read_so (Ok it) computed tree fault = λ behind.
      whole_is behind ∙ ap (λ f. on_fault k work behind f (on_item type_line bounds budget k work behind (item_of lines (keys_of work.kept.targets)))) tree.1 ∙ ap (on_item type_line bounds budget k work behind) computed
  read_so (Err (At at)) computed tree fault = λ behind.
      whole_is behind ∙ ap (λ f. on_fault k work behind f (on_item type_line bounds budget k work behind (item_of lines (keys_of work.kept.targets)))) (fault at refl)
  read_so (Err Memory) computed tree fault = tt

  pub comes_of : (r : Result Item ItemFault) (names : List (List ℕ)) → names ≡ keys_of work.kept.targets
      → IfOk r (λ it. item_of lines names ≡ Some it) → IfOk r (λ it. SpellsItem lines names it × (item_fault lines names ≡ None)) → ((at : Fault) → r ≡ Err (At at) → item_fault lines names ≡ Some at)
      → ComesOf type_line bounds budget k work r (outcome type_line bounds budget k work lines)
  comes_of r names is computed tree fault =
      read_so r (subst (λ (ns : List (List ℕ)). IfOk r (λ it. item_of lines ns ≡ Some it)) is computed)
      (subst (λ (ns : List (List ℕ)). IfOk r (λ it. SpellsItem lines ns it × (item_fault lines ns ≡ None))) is tree)
      (λ at err. subst (λ (ns : List (List ℕ)). item_fault lines ns ≡ Some at) is (fault at err))

-- ---- units

-- a line that asks, without a fault, is one whose template can be spelled
abbrev at_first : FaultKind → Fault
at_first kind = record { line = 1; kind = kind }

asked_by : AskedCanBeSpelled → (line : Line) (found : Environment) (is : Bool) (other : Option Fault) → IsShort line → is ≡ true → found ≡ asked (row_of line)
    → cond is (option_map at_first (environment_fault (row_of line))) other ≡ None → CanBeSpelled found
asked_by can line found true other short e same fault = subst CanBeSpelled (sym same) (can line short (none_of (environment_fault (row_of line)) fault))
  where
    none_of : (fault : Option FaultKind) → option_map at_first fault ≡ None → fault ≡ None
    none_of None e = refl
    none_of (Some kind) e = absurd cc
asked_by can line found false other short e same fault = absurd cc

asked_so : AskedCanBeSpelled → (lines : List Line) (found : Environment) (names : List (List ℕ)) → AllByRecursion IsShort lines → SpellsItem lines names (item.Environment found) → item_fault lines names ≡ None → CanBeSpelled found
asked_so can [] found names short spells fault = absurd spells.1
asked_so can (line ∷ lines) found names short spells fault = asked_by can line found (is_environment (rows_of (line ∷ lines))) _ short.0 spells.0 spells.1 fault

pub spelled_items : UnitsAreSet → AskedCanBeSpelled → (lines : List Line) (names : List (List ℕ)) (r : Result Item ItemFault) → 0 < length lines → AllByRecursion IsShort lines → IfOk r (λ it. item_of lines names ≡ Some it)
    → IfOk r (λ it. SpellsItem lines names it × (item_fault lines names ≡ None)) → IfOk r IsSpelledItem
spelled_items set can lines names (Ok (item.Command c)) some short e tree = tt
spelled_items set can lines names (Ok (item.Unit u)) some short e tree =
    let is = set lines names u e in (subst (λ (ls : List Line). unit_of_lines ls ≡ Some u) (sym is.1) is.0, subst (λ (ls : List Line). 1 ≤ length ls) (sym is.1) (omega (arith, some)))
spelled_items set can lines names (Ok (item.Environment found)) some short e tree = asked_so can lines found names short tree.0 tree.1
spelled_items set can lines names (Err fault) some short e tree = tt

-- what is told of the item of these lines is told of the one that was read
pub tells_parsed : (kept : Workspace) (line : Option ℕ) (lines : List Line) (names : List (List ℕ)) (r : Result Item ItemFault) → names ≡ keys_of kept.targets → IfOk r (λ it. item_of lines names ≡ Some it)
    → IsTypeLineOf kept lines line → TellsOf kept (item_in r) line
tells_parsed kept line lines names (Ok it) is computed tells =
    subst (λ (found : Option Item). TellsOf kept found line) (subst (λ (ns : List (List ℕ)). item_of lines ns ≡ Some it) is computed) tells
tells_parsed kept line lines names (Err fault) is computed tells = tt

pub unit_leads : (kept : Workspace) (u : Routine) (cs : List Change) → unit_of_lines u.lines ≡ Some u → cs ≡ SetUnit u.lines ∷ [] → changed_by cs kept ≡ Some (with_routine kept u)
unit_leads kept u cs spelled is =
    ap (λ (cs : List Change). changed_by cs kept) is ∙ ap (λ (o : Option Routine). option_and_then (changed_by []) (option_map (with_routine kept) o)) spelled

pub unit_is_kept : (u : Routine) (cs : List Change) → AreKeptLines u.lines → cs ≡ SetUnit u.lines ∷ [] → AreKept cs
unit_is_kept u cs lines is = subst AreKept (sym is) (omega arith, (lines, tt))

-- ---- units that are taken out

pub unit_drops : (kept : Workspace) (template : List ℕ) (cs : List Change) → cs ≡ DropUnit template ∷ [] → changed_by cs kept ≡ Some (without_unit template kept)
unit_drops kept template cs is = ap (λ (cs : List Change). changed_by cs kept) is

pub drop_is_kept : (template : List ℕ) (cs : List Change) → IsKeptText template → cs ≡ DropUnit template ∷ [] → AreKept cs
drop_is_kept template cs kept is = subst AreKept (sym is) (omega arith, (kept, tt))
