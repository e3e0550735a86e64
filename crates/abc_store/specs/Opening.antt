-- The workspace that the image of a store opens to.
use Rattle.std.specs.Prelude.{◌≡◌, ◌⊎◌, ℕ, ◌+◌, List, [], ◌∷◌, length, Some, Result, Ok, Err}
use Rattle.abc_journal.specs.declared.format.TheConstants.{RECORD_EXTRA}
use Rattle.abc_journal.specs.Image.{Opened, opened}
use Rattle.abc_record.specs.declared.change.Change.{Change}
use Rattle.abc_record.specs.Kept.{IsSpelling}
use Rattle.abc_store.specs.Workspace.{Workspace, empty, changed_by, IsWithinLimits, IsWellTyped}

-- the payload of a record leads from a workspace to another: it spells changes that make this of that, and the limits are kept
pub record LeadsTo (payload : List ℕ) (kept later : Workspace) : Type 0 where
  pub changes : List Change
  pub spells : IsSpelling changes payload
  pub made : changed_by changes kept ≡ Some later
  pub limits : IsWithinLimits later

-- it leads to none
abbrev pub LeadsNowhere : List ℕ → Workspace → Type 0
LeadsNowhere payload kept = (later : Workspace) → LeadsTo payload kept later → ⊥

-- what records make of a workspace, the first of which has its gate at this place: the workspace after all of them, or the place
-- of the gate of the first that leads nowhere
abbrev pub Make : ℕ → Workspace → List (List ℕ) → Result Workspace ℕ → Type 0
Make gate kept [] found = found ≡ Ok kept
Make gate kept (payload ∷ payloads) found =
    ((later : Workspace) × LeadsTo payload kept later × Make (gate + RECORD_EXTRA + length payload) later payloads found)
    ⊎ (LeadsNowhere payload kept × (found ≡ Err gate))

-- what was made is kept where types fit it, and else is wrong at the start of the region
abbrev pub Checked : ℕ → Result Workspace ℕ → Result Workspace ℕ → Type 0
Checked start (Ok kept) found = (IsWellTyped kept × (found ≡ Ok kept)) ⊎ ((IsWellTyped kept → ⊥) × (found ≡ Err start))
Checked start (Err at) found = found ≡ Err at

-- what the records of a region that starts here come to: what they make of the empty workspace, checked
abbrev pub ComeTo : ℕ → List (List ℕ) → Result Workspace ℕ → Type 0
ComeTo start payloads found = (made : Result Workspace ℕ) × Make start empty payloads made × Checked start made found

-- what the records of an image that was opened come to, or the place of what is wrong with the image
abbrev pub MadeOf : Result Opened ℕ → Result Workspace ℕ → Type 0
MadeOf (Ok o) found = ComeTo o.layout.start o.payloads found
MadeOf (Err at) found = found ≡ Err at

-- what an image opens to: a workspace, or the place of what is wrong with it
unfoldable pub Opens : List ℕ → Result Workspace ℕ → Type 0
Opens image found = MadeOf (opened image) found

-- the image opens to this workspace
abbrev pub OpensTo : List ℕ → Workspace → Type 0
OpensTo image kept = Opens image (Ok kept)
