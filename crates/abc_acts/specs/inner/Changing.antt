-- Steps of a change.
use Rattle.abc_state.specs.declared.run.Formal.{Formal as HeldFormal}
use Rattle.std.specs.Prelude.{◌≡◌, ◌≢◌, ◌==◌, ℕ, zero, suc, true, false, List, [], ◌∷◌, Option, Some, None, Result, Ok, Err, is_some}
use Rattle.abc_value.specs.declared.faults.RunFault.TheVariants.{Memory, NoValue, NotAnAddress}
use Rattle.abc_value.specs.Tree.{Tree}
use Rattle.abc_meaning.specs.State.{Step, Formal, faulty, wrong, Run}
use Rattle.abc_meaning.specs.Here.{Here, look}
use Rattle.abc_meaning.specs.Changing.{Change, puts, inserts, removes, deletes, Changed, changed, assigned, formal_named, marked}
use Rattle.abc_state.specs.declared.halt.Halt.{Halt}
use Rattle.abc_state.specs.declared.halt.Halt.TheVariants.{Fault, Wrong}
use Rattle.abc_acts.specs.declared.changing.Fate.{Fate}
use Rattle.abc_acts.specs.declared.changing.Fate.TheVariants.{Stands, Deleted}
use Rattle.abc_acts.specs.declared.changing.Change.{Change as HeldChange}
use Rattle.abc_acts.specs.declared.changing.Change.TheVariants.{Puts, Inserts, Removes, Deletes}

abbrev pub change_of : HeldChange → Change
change_of (Puts v) = puts v
change_of (Inserts v) = inserts v
change_of (Removes v) = removes v
change_of Deletes = deletes

-- the change stops so
abbrev pub Stops : Halt → Changed → Type 0
Stops (Fault f) c = f ≢ Memory → c ≡ Err (faulty f)
Stops Wrong c = c ≡ Err wrong

-- The old value was changed to the new one; or the change stops, and the value is as before.
abbrev pub IsAltered : Result (Unit {0}) Halt → Tree → Tree → Changed → Type 0
IsAltered (Ok u) old new c = c ≡ Ok (Some new)
IsAltered (Err h) old new c = (new ≡ old) × Stops h c

-- The same of a change by which the value may be deleted.
abbrev pub IsChanged : Result Fate Halt → Tree → Tree → Changed → Type 0
IsChanged (Ok Stands) old new c = c ≡ Ok (Some new)
IsChanged (Ok Deleted) old new c = c ≡ Ok None
IsChanged (Err h) old new c = (new ≡ old) × Stops h c

-- what a change makes, or why it stops
abbrev pub IsMade : Result (Option Tree) Halt → Changed → Type 0
IsMade (Ok o) c = c ≡ Ok o
IsMade (Err h) c = Stops h c

-- the change asks what was there before
abbrev pub NeedsOld : Change → List Step → Type 0
NeedsOld (puts v) [] = ⊥
NeedsOld _ _ = Unit {0}

-- the formal at this place is the first of this name
abbrev pub IsFirstOf : ℕ → ℕ → List HeldFormal → Type 0
IsFirstOf i n [] = ⊥
IsFirstOf i zero (f ∷ fs) = f.name == i ≡ true
IsFirstOf i (suc n) (f ∷ fs) = (f.name == i ≡ false) × IsFirstOf i n fs

-- a part of the value of a name is changed
abbrev pub assigned_at : Here → Change → ℕ → List Step → Run (Unit {0})
assigned_at here c i steps s = assigned here i (changed c NoValue steps (look here.scope i s)) s

-- the formal of this name is marked, or nothing is where there is none; a formal without an address is not
abbrev pub IsMarkedAs : Result (Unit {0}) Halt → ℕ → Option Formal → List Formal → List Formal → Type 0
IsMarkedAs (Ok u) i None old new = new ≡ old
IsMarkedAs (Ok u) i (Some f) old new = (is_some f.address ≡ true) × (new ≡ marked i old)
IsMarkedAs (Err h) i None old new = ⊥
IsMarkedAs (Err h) i (Some f) old new = (h ≡ Fault NotAnAddress) × (is_some f.address ≡ false) × (new ≡ old)

abbrev pub IsMarked : Result (Unit {0}) Halt → ℕ → List Formal → List Formal → Type 0
IsMarked r i old new = IsMarkedAs r i (formal_named i old) old new
