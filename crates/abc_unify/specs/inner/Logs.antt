-- What the log of writes keeps.
use Rattle.std.specs.Prelude.{◌≡◌, ℕ, ◌<◌, List, [], ◌∷◌, ◌++◌, length, slice_set}
use Rattle.std.specs.List.{All}
use Rattle.abc_unify.specs.declared.kind.Slot.{Slot}
use Rattle.abc_unify.specs.declared.log.Entry.{Entry}
use Rattle.abc_unify.specs.inner.Slots.{SlotIn}

-- the slots before the writes of a log, whose oldest entry stands first
abbrev pub rolled : List Slot → List Entry → List Slot
rolled slots [] = slots
rolled slots (e ∷ es) = slice_set (rolled slots es) e.at.0 e.was

-- the entry is of one of the first n slots, which named only some of the first n variables
abbrev pub EntryIn : ℕ → Entry → Type 0
EntryIn n e = (e.at.0 < n) × SlotIn n e.at.0 e.was

-- the log grew by entries that lead back from the second slots to the first
pub record IsLogged (slots : List Slot) (log : List Entry) (slots2 : List Slot) (log2 : List Entry) : Type 0 where
  pub newer : List Entry
  pub log_is : log2 ≡ log ++ newer
  pub back : rolled slots2 newer ≡ slots
  pub inside : All (EntryIn (length slots)) newer
