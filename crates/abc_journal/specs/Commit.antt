-- What a commit does to the layout: a record, and the checkpoints round it.
use Rattle.std.specs.Prelude.{◌≡◌, ℕ, ◌+◌, ◌-◌, ◌*◌, ◌^◌, min, Bool, Option, Some, None, Result, Ok, Err, if◌then◌else◌, nat_le}
use Rattle.std.specs.Result.{result_unwrap_or}
use Rattle.abc_journal.specs.declared.layout.Layout.{Layout}
use Rattle.abc_journal.specs.declared.layout.Bounds.{Bounds}
use Rattle.abc_journal.specs.declared.faults.AppendFault.{AppendFault}
use Rattle.abc_journal.specs.declared.faults.AppendFault.TheVariants.{StoreFault, StoreFull, Memory}
use Rattle.abc_journal.specs.Journal.{need_of, after_record}
use Rattle.abc_journal.specs.Checkpoint.{room_for, behind_need, after_checkpoint}

-- the store is full: the layout then, and the length that the image would need
pub record Full : Type 0 where
  pub layout : Layout
  pub need : ℕ

-- the layout with a record of so many bytes more, where it fits
abbrev pub recorded : Bounds → Layout → ℕ → Result Layout Full
recorded bounds layout bytes =
    if nat_le (need_of layout bytes) bounds.image then Ok (after_record layout bytes) else Err (record { layout = layout; need = need_of layout bytes })

-- the layout with a checkpoint of so many bytes at this place, where there is one
abbrev pub placed : Layout → ℕ → Option ℕ → Result Layout Full
placed layout bytes (Some place) = Ok (after_checkpoint layout place bytes)
placed layout bytes None = Err (record { layout = layout; need = behind_need layout bytes })

-- the layout with a checkpoint of so many bytes, where it fits
abbrev pub checkpointed : Bounds → Layout → ℕ → Result Layout Full
checkpointed bounds layout bytes = placed layout bytes (room_for layout bounds.image bytes)

-- what an answer says of the layout then: after Ok it is the one that was found, and after StoreFull the one that is full, with its need
abbrev pub AnswersTo : {T : Type 0} → Result T AppendFault → Layout → Result Layout Full → Type 0
AnswersTo (Ok x) layout found = found ≡ Ok layout
AnswersTo (Err StoreFault) layout found = Unit {0}
AnswersTo (Err Memory) layout found = Unit {0}
AnswersTo (Err (StoreFull need limit)) layout found =
    (full : Full) × (found ≡ Err full) × (full.layout ≡ layout) × (need ≡ min full.need (2 ^ 64 - 1))

-- a step that is made only where the store isn't full
abbrev pub and_then : Result Layout Full → (Layout → Result Layout Full) → Result Layout Full
and_then (Ok layout) next = next layout
and_then (Err full) next = Err full

-- a checkpoint is due: the live region, its first payload included, is as long as the bound and four times that payload
abbrev pub is_due : Bounds → Layout → Bool
is_due bounds layout = nat_le (bounds.checkpoint + 4 * layout.first) (layout.gate - layout.start)

-- the layout with the checkpoint of so many bytes that makes room for a record, which is tried where the record doesn't fit
abbrev pub with_room : Bounds → Layout → ℕ → ℕ → Result Layout Full
with_room bounds layout bytes before = if nat_le (need_of layout bytes) bounds.image then Ok layout else checkpointed bounds layout before

-- the layout with the checkpoint of so many bytes that is due, which is left out where it doesn't fit
abbrev pub with_due : Bounds → Layout → ℕ → Layout
with_due bounds layout after = if is_due bounds layout then result_unwrap_or (checkpointed bounds layout after) layout else layout

-- the layout after a commit, by the lengths of its record, of a checkpoint of what was there before it, and of one of what is
-- there after it: room is made, the record is added, and the due checkpoint is taken. What was taken before the store was found full stays
unfoldable pub committed : Bounds → Layout → ℕ → ℕ → ℕ → Result Layout Full
committed bounds layout bytes before after =
    and_then (with_room bounds layout bytes before) (λ roomy. and_then (recorded bounds roomy bytes) (λ added. Ok (with_due bounds added after)))

-- a record that fits is added at once
abbrev pub FittingIsAdded : Type 0
FittingIsAdded = (bounds : Bounds) (layout added : Layout) (bytes before after : ℕ) → recorded bounds layout bytes ≡ Ok added
    → committed bounds layout bytes before after ≡ Ok (with_due bounds added after)

-- where it doesn't fit and the checkpoint doesn't either, the store is full, and the need is the checkpoint's
abbrev pub NeitherFits : Type 0
NeitherFits = (bounds : Bounds) (layout : Layout) (no_record full : Full) (bytes before after : ℕ) → recorded bounds layout bytes ≡ Err no_record → checkpointed bounds layout before ≡ Err full
    → committed bounds layout bytes before after ≡ Err full

-- where the checkpoint fits, the record is tried once more after it
abbrev pub RoomIsMade : Type 0
RoomIsMade = (bounds : Bounds) (layout roomy : Layout) (no_record : Full) (bytes before after : ℕ) → recorded bounds layout bytes ≡ Err no_record → checkpointed bounds layout before ≡ Ok roomy
    → committed bounds layout bytes before after ≡ and_then (recorded bounds roomy bytes) (λ added. Ok (with_due bounds added after))
