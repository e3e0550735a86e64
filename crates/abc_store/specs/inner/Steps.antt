-- The steps of a commit, seen one by one.
use Rattle.std.specs.Prelude.{◌≡◌, ℕ, Bool, true, false, not, List, [], ◌∷◌, length, Option, None, Some, Result, Ok, Err, if◌then◌else◌, nat_le}
use Rattle.abc_journal.specs.declared.layout.Bounds.{Bounds}
use Rattle.abc_journal.specs.declared.layout.Layout.{Layout}
use Rattle.abc_journal.specs.declared.faults.AppendFault.{AppendFault}
use Rattle.abc_journal.specs.declared.faults.AppendFault.TheVariants as append
use Rattle.abc_journal.specs.Journal.{need_of, after_record}
use Rattle.abc_journal.specs.Commit.{is_due}
use Rattle.abc_store.specs.declared.faults.CommitFault.TheVariants as commit
use Rattle.abc_frames.specs.Maps.{AreRegular}
use Rattle.abc_store.specs.Workspace.{Workspace, empty, checkpoint_of, IsWithinLimits, IsWellTyped, AreNamed, AreKeptUnits}
use Rattle.abc_store.specs.Opening.{LeadsTo}

-- a workspace that changes can spell
pub record IsSpellable (kept : Workspace) : Type 0 where
  pub named : AreNamed kept.targets
  pub regular : AreRegular kept.targets
  pub units : AreKeptUnits kept.units
  pub limits : IsWithinLimits kept

-- every answer of the journal but a fault of the store
abbrev pub IsNoFault : {T : Type 0} → Result T AppendFault → Type 0
IsNoFault (Ok x) = Unit {0}
IsNoFault (Err append.StoreFault) = ⊥
IsNoFault (Err append.Memory) = Unit {0}
IsNoFault (Err (append.StoreFull need limit)) = Unit {0}

-- the limit that StoreFull tells
abbrev pub SaysLimit : {T : Type 0} → Result T AppendFault → ℕ → Type 0
SaysLimit (Ok x) image = Unit {0}
SaysLimit (Err append.StoreFault) image = Unit {0}
SaysLimit (Err append.Memory) image = Unit {0}
SaysLimit (Err (append.StoreFull need limit)) image = limit ≡ image

-- the payload of a checkpoint of this workspace
abbrev pub IsCheckpoint : List ℕ → Workspace → Type 0
IsCheckpoint payload kept = (payload ≡ checkpoint_of kept) × LeadsTo payload empty kept

-- a checkpoint is made up where it is wanted
abbrev pub IsMadeUp : Bool → Option (List ℕ) → Workspace → Type 0
IsMadeUp true None kept = ⊥
IsMadeUp true (Some payload) kept = IsCheckpoint payload kept
IsMadeUp false None kept = Unit {0}
IsMadeUp false (Some payload) kept = ⊥

-- whether a record of so many bytes fits
abbrev pub fits : Bounds → Layout → ℕ → Bool
fits bounds layout bytes = nat_le (need_of layout bytes) bounds.image

-- whether a checkpoint may be due after a record of so many bytes: it is then, or the record doesn't fit as it stands
abbrev pub may_be_due : Bounds → Layout → ℕ → Bool
may_be_due bounds layout bytes = if fits bounds layout bytes then is_due bounds (after_record layout bytes) else true

-- all that a commit writes is made up: its record, the checkpoint before it where the record doesn't fit, and the one after it where that may be due
pub record IsPlan (bounds : Bounds) (layout : Layout) (payload : List ℕ) (before after : Option (List ℕ)) (kept later : Workspace) : Type 0 where
  pub leads : LeadsTo payload kept later
  pub typed : IsWellTyped later
  pub room : IsMadeUp (not (fits bounds layout (length payload))) before kept
  pub due : IsMadeUp (may_be_due bounds layout (length payload)) after later

-- the payloads of an image after the checkpoint that was made up; those before, where none was
abbrev pub renewed_by : Option (List ℕ) → List (List ℕ) → List (List ℕ)
renewed_by None payloads = payloads
renewed_by (Some payload) payloads = payload ∷ []

-- a checkpoint of the later workspace is there where it is due
abbrev pub TakesDue : Bool → Option (List ℕ) → Workspace → Type 0
TakesDue due None later = due ≡ false
TakesDue due (Some payload) later = IsCheckpoint payload later
