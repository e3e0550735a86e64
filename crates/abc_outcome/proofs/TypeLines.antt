-- An item has a type line, unless nothing was done for want of memory.
use Rattle.std.proofs.Common.{◌≡◌, ◌⊎◌, inl, inr, ℕ, List, length, Option, Some, None, refl, sym, ap, subst}
use Rattle.std.specs.Prelude.{Result, Ok, Err, IfOk, OnOk, is_none, if◌then◌else◌}
use Rattle.std.specs.Map.{keys_of}
use Rattle.abc_num.specs.declared.lines.Line.{Line}
use Rattle.abc_tree.specs.declared.commands.Item.{Item}
use Rattle.abc_tree.specs.declared.commands.Item.TheVariants as item
use Rattle.abc_tree.specs.declared.commands.Unit.{Unit as Routine}
use Rattle.abc_outline.specs.Rows.{rows_of}
use Rattle.abc_faults.specs.declared.fault.Fault.{Fault}
use Rattle.abc_faults.specs.Faults.{item_fault}
use Rattle.abc_parse.specs.Readings.{item_of, item_of_rows}
use Rattle.abc_parse.specs.declared.fault.ItemFault.{ItemFault}
use Rattle.abc_parse.specs.declared.fault.ItemFault.TheVariants.{At, Memory}
use Rattle.abc_reader.specs.Reading.{Reading}
use Rattle.abc_store.specs.View.{View}
use Rattle.abc_store.specs.Workspace.{Workspace}
use Rattle.abc_outcome.specs.Answers.{NothingDone}
use Rattle.abc_outcome.specs.Checks.{IsTypeLineOf, TakesUnit, TellsOf, TellsTypeLine}
use Rattle.abc_outcome.specs.inner.Steps.{HasTypeLine}

-- what holds holds after each answer
pub on_any : {A E : Type 0} (P : Type 0) (r : Result A E) → P → OnOk r P
on_any P (Ok x) p = p
on_any P (Err e) p = tt

pub on_ok_then : {A E : Type 0} (P Q : Type 0) (r : Result A E) → (P → Q) → OnOk r P → OnOk r Q
on_ok_then P Q (Ok x) next p = next p
on_ok_then P Q (Err e) next p = tt

-- what is told, or what holds where nothing is
pub or_else : {Q M : Type 0} (P N : Type 0) → (P → Q) → (N → M) → P ⊎ N → Q ⊎ M
or_else P N told none (inl p) = inl (told p)
or_else P N told none (inr n) = inr (none n)

-- what is told of a unit
pub unit_told : {H : Type 0} (kept : Workspace) (u : Routine) (memory : Type 0) (before after : View) (reading : Reading) (old new : H)
    → ((line : Option ℕ) × TellsTypeLine (TakesUnit kept u) (length u.lines) line) ⊎ (memory × (after ≡ before) × (new ≡ old))
    → HasTypeLine kept (Ok (item.Unit u)) ⊎ (memory × NothingDone before after reading reading old new)
unit_told kept u memory before after reading old new (inl told) = inl (told.0, λ some. told.1)
unit_told kept u memory before after reading old new (inr none) = inr (none.0, record { store = none.1; reader = refl; host = none.2 })

-- lines with a fault are no item
none_faulty : (lines : List Line) (names : List (List ℕ)) (at : Fault) → item_fault lines names ≡ Some at → item_of lines names ≡ None
unfolding item_of
none_faulty lines names at is = ap (λ (fault : Option Fault). if is_none fault then item_of_rows lines names (rows_of lines) else None) is

-- what is told of the item that was read is told of these lines
pub has_line : (kept : Workspace) (lines : List Line) (names : List (List ℕ)) (r : Result Item ItemFault) → names ≡ keys_of kept.targets → IfOk r (λ it. item_of lines names ≡ Some it)
    → ((at : Fault) → r ≡ Err (At at) → item_fault lines names ≡ Some at) → HasTypeLine kept r → (line : Option ℕ) × IsTypeLineOf kept lines line
has_line kept lines names (Ok it) is computed fault told =
    (told.0, subst (λ (found : Option Item). TellsOf kept found told.0) (sym (subst (λ (ns : List (List ℕ)). item_of lines ns ≡ Some it) is computed)) told.1)
has_line kept lines names (Err (At at)) is computed fault told =
    (None, subst (λ (found : Option Item). TellsOf kept found None) (sym (subst (λ (ns : List (List ℕ)). item_of lines ns ≡ None) is (none_faulty lines names at (fault at refl)))) tt)
has_line kept lines names (Err Memory) is computed fault told = absurd told
