-- What a commit comes to, by the lengths of what it writes.
use Rattle.std.specs.Prelude.{◌≡◌, ◌⊎◌, ℕ, ◌-◌, ◌^◌, min, List, [], ◌∷◌, ◌++◌, length, Result, Ok, Err, if◌then◌else◌, nat_lt, nat_le}
use Rattle.abc_num.specs.declared.limits.TheConstants.{MOST_RECORD_BYTES}
use Rattle.abc_journal.specs.declared.layout.Bounds.{Bounds}
use Rattle.abc_journal.specs.declared.layout.Layout.{Layout}
use Rattle.abc_journal.specs.Journal.{HasLayout, need_of}
use Rattle.abc_journal.specs.Commit.{Full, and_then, recorded, checkpointed, with_room, is_due, committed}
use Rattle.abc_record.specs.declared.change.Change.{Change}
use Rattle.abc_record.specs.Spelling.{spelled}
use Rattle.abc_store.specs.declared.faults.CommitFault.{CommitFault}
use Rattle.abc_store.specs.declared.faults.CommitFault.TheVariants.{StoreFault, TooLarge, StoreFull, Memory}
use Rattle.abc_store.specs.Workspace.{Workspace, checkpoint_of}
use Rattle.abc_store.specs.Opening.{OpensTo}
use Rattle.abc_journal.specs.declared.faults.AppendFault.{AppendFault}
use Rattle.abc_journal.specs.declared.faults.AppendFault.TheVariants as append

-- a workspace, and the layout of the image that holds it
pub record Work : Type 0 where
  pub kept : Workspace
  pub layout : Layout

-- the image holds this work
pub record Holds (image : List ℕ) (work : Work) : Type 0 where
  pub layout : HasLayout image work.layout
  pub opens_to : OpensTo image work.kept

-- why changes are not kept: their spelling has so many bytes, or the store is full
pub data Refusal : Type 0 where
  too_large : ℕ → Refusal
  store_full : Full → Refusal

-- a fault of the journal, as one of the commit
abbrev pub commit_fault : AppendFault → CommitFault
commit_fault append.StoreFault = StoreFault
commit_fault append.Memory = Memory
commit_fault (append.StoreFull need limit) = StoreFull need limit

-- the later workspace is kept where its record was added
abbrev pub kept_in : Workspace → Result Layout Full → Result Work Refusal
kept_in later (Ok layout) = Ok (record { kept = later; layout = layout })
kept_in later (Err full) = Err (store_full full)

-- changes that lead to the later workspace are kept in one record, where they aren't too large; checkpoints are those of the workspace before it
-- and of the later one
abbrev pub stored_in : Bounds → Work → ℕ → Workspace → Result Work Refusal
stored_in bounds work bytes later =
    if nat_lt MOST_RECORD_BYTES bytes then Err (too_large bytes)
    else kept_in later (committed bounds work.layout bytes (length (checkpoint_of work.kept)) (length (checkpoint_of later)))

-- what comes of changes that lead to the later workspace: no change writes nothing
abbrev pub stored : Bounds → Work → List Change → Workspace → Result Work Refusal
stored bounds work [] later = Ok work
stored bounds work (change ∷ changes) later = stored_in bounds work (length (spelled (change ∷ changes))) later

-- the work then: where the changes aren't kept the workspace is as before, and what a full store did to its layout stays
abbrev pub work_after : Work → Result Work Refusal → Work
work_after work (Ok later) = later
work_after work (Err (too_large bytes)) = work
work_after work (Err (store_full full)) = record { kept = work.kept; layout = full.layout }

-- an answer, and the layout then, tell what comes of the changes; numbers past the last one are told as that
abbrev pub Tells : {T : Type 0} → Result T CommitFault → Bounds → Work → Result Work Refusal → Type 0
Tells (Ok x) bounds work found = found ≡ Ok work
Tells (Err StoreFault) bounds work found = Unit {0}
Tells (Err Memory) bounds work found = Unit {0}
Tells (Err (TooLarge bytes)) bounds work found = (many : ℕ) × (found ≡ Err (too_large many)) × (bytes ≡ min many (2 ^ 64 - 1))
Tells (Err (StoreFull need limit)) bounds work found =
    (full : Full) × (found ≡ Err (store_full full)) × (full.layout ≡ work.layout) × (need ≡ min full.need (2 ^ 64 - 1)) × (limit ≡ bounds.image)

-- the payloads where a checkpoint was tried: it alone where it was placed, else those that were there
abbrev pub payloads_tried : Result Layout Full → List ℕ → List (List ℕ) → List (List ℕ)
payloads_tried (Ok layout) checkpoint payloads = checkpoint ∷ []
payloads_tried (Err full) checkpoint payloads = payloads

-- the payloads where room is made for a record of so many bytes: the checkpoint is tried where the record doesn't fit
abbrev pub payloads_with_room : Bounds → Layout → ℕ → List ℕ → List (List ℕ) → List (List ℕ)
payloads_with_room bounds layout bytes checkpoint payloads =
    if nat_le (need_of layout bytes) bounds.image then payloads else payloads_tried (checkpointed bounds layout (length checkpoint)) checkpoint payloads

-- the payloads where the checkpoint is tried if one is due
abbrev pub payloads_with_due : Bounds → Layout → List ℕ → List (List ℕ) → List (List ℕ)
payloads_with_due bounds layout checkpoint payloads =
    if is_due bounds layout then payloads_tried (checkpointed bounds layout (length checkpoint)) checkpoint payloads else payloads

-- the payloads once the record was tried: it behind those that were there, or the checkpoint that is due then, alone, where it was placed; where the
-- record wasn't added, those that were there
abbrev pub payloads_recorded : Bounds → Result Layout Full → List ℕ → List ℕ → List (List ℕ) → List (List ℕ)
payloads_recorded bounds (Ok added) payload after payloads = payloads_with_due bounds added after (payloads ++ payload ∷ [])
payloads_recorded bounds (Err full) payload after payloads = payloads

-- the payloads after a commit, in the steps of its layout (`committed`), by its record and the checkpoints of what was there before it and of what is
-- there after it
unfoldable pub payloads_committed : Bounds → Layout → List ℕ → List ℕ → List ℕ → List (List ℕ) → List (List ℕ)
payloads_committed bounds layout payload before after payloads =
    payloads_recorded bounds (and_then (with_room bounds layout (length payload) (length before)) (λ roomy. recorded bounds roomy (length payload)))
    payload after (payloads_with_room bounds layout (length payload) before payloads)

-- the payloads of the image after changes that lead to the later workspace. Where they are kept, their record, which spells them in their order, stands
-- behind the payloads that were there, or behind the checkpoint that made room for it, or the checkpoint that was due stands alone. Where they are none or
-- too large the payloads stay, and where the store is full too, unless the checkpoint was placed and the record didn't fit after it: then it stands alone
abbrev pub payloads_after : Bounds → Work → List Change → Workspace → List (List ℕ) → List (List ℕ)
payloads_after bounds work [] later payloads = payloads
payloads_after bounds work (change ∷ changes) later payloads =
    if nat_lt MOST_RECORD_BYTES (length (spelled (change ∷ changes))) then payloads
    else payloads_committed bounds work.layout (spelled (change ∷ changes)) (checkpoint_of work.kept) (checkpoint_of later) payloads

-- every answer but a fault of the store
abbrev pub IsNoFault : {T : Type 0} → Result T CommitFault → Type 0
IsNoFault (Ok x) = Unit {0}
IsNoFault (Err StoreFault) = ⊥
IsNoFault (Err Memory) = Unit {0}
IsNoFault (Err (TooLarge bytes)) = Unit {0}
IsNoFault (Err (StoreFull need limit)) = Unit {0}

-- the changes were kept, or refused by their lengths
abbrev pub IsDecided : {T : Type 0} → Result T CommitFault → Type 0
IsDecided (Ok x) = Unit {0}
IsDecided (Err StoreFault) = ⊥
IsDecided (Err Memory) = ⊥
IsDecided (Err (TooLarge bytes)) = Unit {0}
IsDecided (Err (StoreFull need limit)) = Unit {0}

-- the answer is TooLarge
abbrev pub IsTooLarge : {T : Type 0} → Result T CommitFault → Type 0
IsTooLarge (Ok x) = ⊥
IsTooLarge (Err StoreFault) = ⊥
IsTooLarge (Err Memory) = ⊥
IsTooLarge (Err (TooLarge bytes)) = Unit {0}
IsTooLarge (Err (StoreFull need limit)) = ⊥

-- the answer is StoreFull
abbrev pub IsStoreFull : {T : Type 0} → Result T CommitFault → Type 0
IsStoreFull (Ok x) = ⊥
IsStoreFull (Err StoreFault) = ⊥
IsStoreFull (Err Memory) = ⊥
IsStoreFull (Err (TooLarge bytes)) = ⊥
IsStoreFull (Err (StoreFull need limit)) = Unit {0}

-- these bytes were said, and the image opens to this workspace
abbrev pub StillOpens : Workspace → List ℕ → List ℕ → List ℕ → Type 0
StillOpens kept said c s = (s ≡ said) × OpensTo c kept

-- these bytes were said, and the image opens to the first workspace or to the second
abbrev pub OpensToEither : Workspace → Workspace → List ℕ → List ℕ → List ℕ → Type 0
OpensToEither kept later said c s = (s ≡ said) × (OpensTo c kept ⊎ OpensTo c later)
