-- What holds of images and workspaces.
use Rattle.std.specs.Prelude.{◌≡◌, ◌⊎◌, ℕ, true, List, [], ◌∷◌, ◌++◌, Some, Result, Ok, Err}
use Rattle.abc_outside.specs.Stop.{Extends}
use Rattle.abc_journal.specs.declared.layout.Bounds.{Bounds}
use Rattle.abc_journal.specs.Image.{settled_image}
use Rattle.abc_record.specs.declared.change.Change.{Change}
use Rattle.abc_record.specs.Spelling.{spelled}
use Rattle.abc_frames.specs.Maps.{AreRising, AreRegular}
use Rattle.abc_tree.specs.Units.{AreRising as AreInOrder}
use Rattle.abc_num.specs.declared.lines.Line.{Line}
use Rattle.abc_tree.specs.declared.commands.Item.TheVariants as item
use Rattle.abc_tree.specs.declared.commands.Unit.{Unit as Routine}
use Rattle.abc_parse.specs.Readings.{item_of}
use Rattle.abc_tree.specs.RegularItems.{is_regular_unit}
use Rattle.abc_meaning.specs.Regular.{IsNumbered}
use Rattle.abc_store.specs.Workspace.{Workspace, empty, changed_by, changes_between, checkpoint_of, without_named, IsWithinLimits, IsWellTyped, AreNamed, IsKeptUnit, AreKeptUnits, unit_of_lines}
use Rattle.abc_store.specs.Opening.{LeadsTo, Opens, OpensTo}
use Rattle.abc_store.specs.Commit.{Work, Holds, Refusal, too_large, store_full, stored, payloads_after}

-- an image opens to one workspace, or is wrong at one place
abbrev pub OpensToOne : Type 0
OpensToOne = (image : List ℕ) (found other : Result Workspace ℕ) → Opens image found → Opens image other → found ≡ other

-- what stands past the end of an image that holds a workspace means nothing
abbrev pub LongerOpensToo : Type 0
LongerOpensToo = (image c : List ℕ) (work : Work) → Holds image work → Extends image c → OpensTo c work.kept

-- the image that a short one is replaced by opens to the same
abbrev pub SettledOpensToo : Type 0
SettledOpensToo = (image : List ℕ) (found : Result Workspace ℕ) → Opens image found → Opens (settled_image image) found

-- a checkpoint of a workspace makes it of the empty one
abbrev pub CheckpointsHoldAll : Type 0
CheckpointsHoldAll = (kept : Workspace) → AreRising kept.targets → AreRegular kept.targets → AreNamed kept.targets → AreInOrder kept.units → AreKeptUnits kept.units
    → IsWithinLimits kept → LeadsTo (checkpoint_of kept) empty kept

-- the changes between two workspaces with the same units lead from one to the other
abbrev pub ChangesLeadThere : Type 0
ChangesLeadThere = (before after : Workspace) → AreRising before.targets → AreRising after.targets → AreRegular before.targets → AreRegular after.targets → before.units ≡ after.units
    → changed_by (changes_between before after) before ≡ Some after

-- what an item that is a unit spells is what its lines put, whatever targets there are
abbrev pub UnitsAreSet : Type 0
UnitsAreSet = (lines : List Line) (targets : List (List ℕ)) (unit : Routine) → item_of lines targets ≡ Some (item.Unit unit) → (unit_of_lines lines ≡ Some unit) × (unit.lines ≡ lines)

-- a unit that is kept is regular, and the numbers that are written in it are numbers
abbrev pub KeptUnitsAreRegular : Type 0
KeptUnitsAreRegular = (unit : Routine) → IsKeptUnit unit → (is_regular_unit unit ≡ true) × IsNumbered unit

-- without a unit types fit what they fitted with it
abbrev pub DroppingStaysTyped : Type 0
DroppingStaysTyped = (kept : Workspace) (template : List ℕ) → AreInOrder kept.units → IsWellTyped kept → IsWellTyped (record { targets = kept.targets; units = without_named template kept.units })

-- What a commit of some changes may leave in an image, by what came of it. Where they are kept: their record behind what was there, their record behind
-- the checkpoint of the workspace before it, or the checkpoint of the later one alone. Where they are too large: what was there. Where the store is full:
-- that, or the checkpoint of the workspace before it alone. Which of these it is, `payloads_after` says
abbrev pub MayBeLeft : Result Work Refusal → List (List ℕ) → List ℕ → List ℕ → List ℕ → List (List ℕ) → Type 0
MayBeLeft (Ok work) payloads written before after left = (left ≡ payloads ++ written ∷ []) ⊎ (left ≡ before ∷ written ∷ []) ⊎ (left ≡ after ∷ [])
MayBeLeft (Err (too_large bytes)) payloads written before after left = left ≡ payloads
MayBeLeft (Err (store_full full)) payloads written before after left = (left ≡ payloads) ⊎ (left ≡ before ∷ [])

-- a commit of some changes leaves no other payloads
abbrev pub PayloadsAreLeft : Type 0
PayloadsAreLeft = (bounds : Bounds) (work : Work) (change : Change) (changes : List Change) (later : Workspace) (payloads : List (List ℕ))
    → MayBeLeft (stored bounds work (change ∷ changes) later) payloads (spelled (change ∷ changes)) (checkpoint_of work.kept) (checkpoint_of later)
    (payloads_after bounds work (change ∷ changes) later payloads)
