-- What an image of a store opens to.
use Rattle.std.specs.Prelude.{ℕ, zero, suc, ◌+◌, Bool, not, ◌||◌, List, [], ◌∷◌, ◌++◌, length, take, drop, get_or, Option, Some, None, is_some, Result, Ok, Err, if◌then◌else◌, ◌==◌, nat_lt, nat_le}
use Rattle.std.specs.Int.{w64, to_be_bytes, from_be_bytes}
use Rattle.abc_journal.specs.declared.layout.Layout.{Layout}
use Rattle.abc_journal.specs.declared.layout.Live.{Live}
use Rattle.abc_journal.specs.declared.format.TheConstants.{MAGIC, GATE_BYTES, NUMBER_BYTES, HEAD_BYTES, FRESH_BYTES, FIRST_SLOT, START_IN_SLOT, SECOND_SLOT, OPEN, VERSION, RECORD_EXTRA, FRESH_IMAGE}

-- the number at this place
abbrev pub word_at : List ℕ → ℕ → ℕ
word_at bytes at = from_be_bytes w64 (take NUMBER_BYTES (drop at bytes))

-- whether the gate of a record at this place is open
abbrev pub record_open : List ℕ → ℕ → Bool
record_open bytes at = get_or bytes at 0 == OPEN

-- the version of a region, by the gate of its slot; with another byte the slot is closed
abbrev pub slot_version : ℕ → Option ℕ
slot_version gate = if gate == VERSION then Some VERSION else None

-- the version by the gate at this place, and whether the slot there is open
abbrev pub version_at : List ℕ → ℕ → Option ℕ
version_at bytes at = slot_version (get_or bytes at 0)

abbrev pub slot_open : List ℕ → ℕ → Bool
slot_open bytes at = is_some (version_at bytes at)

-- the slot at this place: a gate, a generation, the start of a region; and whether the other slot is open
abbrev pub slot_at : List ℕ → ℕ → ℕ → Bool → Live
slot_at head at number other = record { slot = number; generation = word_at head (at + GATE_BYTES); start = word_at head (at + START_IN_SLOT); other = other }

-- by the versions of both slots: the open slot of the greater generation, slot 0 where they are equal
abbrev pub live_among : Option ℕ → Option ℕ → Live → Live → Result Live ℕ
live_among None None first second = Err FIRST_SLOT
live_among (Some v) None first second = Ok first
live_among None (Some w) first second = Ok second
live_among (Some v) (Some w) first second = if nat_lt first.generation second.generation then Ok second else Ok first

-- the live slot of a head, or the place of what is wrong with it
unfoldable pub live_slot : List ℕ → Result Live ℕ
live_slot head =
    if word_at head 0 == MAGIC then
    live_among (version_at head FIRST_SLOT) (version_at head SECOND_SLOT) (slot_at head FIRST_SLOT 0 (slot_open head SECOND_SLOT)) (slot_at head SECOND_SLOT 1 (slot_open head FIRST_SLOT))
    else Err 0

-- the payloads of a region in order, and the place of the closing gate
pub record Region : Type 0 where
  pub payloads : List (List ℕ)
  pub gate : ℕ

-- one more payload in front
abbrev pub with_first : List ℕ → Result Region ℕ → Result Region ℕ
with_first payload (Ok region) = Ok (record { payloads = payload ∷ region.payloads; gate = region.gate })
with_first payload (Err at) = Err at

-- the payload of the record at this place, and where the record ends
abbrev pub payload_at : List ℕ → ℕ → List ℕ
payload_at image at = take (word_at image (at + GATE_BYTES)) (drop (at + RECORD_EXTRA) image)

abbrev pub record_end : List ℕ → ℕ → ℕ
record_end image at = at + RECORD_EXTRA + word_at image (at + GATE_BYTES)

-- the region from the gate at this place on, of fewer records than the first number; or the place of the gate
-- that stands in the head or past the image, or whose record ends past the image
unfoldable pub follow : ℕ → List ℕ → ℕ → Result Region ℕ
follow zero image at = Err at
follow (suc n) image at =
    if nat_lt at HEAD_BYTES || nat_le (length image) at then Err at
    else (if not (record_open image at) then Ok (record { payloads = []; gate = at })
    else (if nat_lt (length image) (record_end image at) then Err at
    else with_first (payload_at image at) (follow n image (record_end image at))))

-- the length of the first payload, where a checkpoint wrote it
abbrev pub first_length : ℕ → List (List ℕ) → ℕ
first_length generation [] = 0
first_length generation (p ∷ ps) = if nat_lt 1 generation then length p else 0

-- what an image opens to
pub record Opened : Type 0 where
  pub layout : Layout
  pub payloads : List (List ℕ)

-- an image of this size with this live region
abbrev pub opened_at : ℕ → Live → Region → Opened
opened_at size live region = record {
  layout = record { size = size; generation = live.generation; start = live.start; gate = region.gate; first = first_length live.generation region.payloads; slot = live.slot; other = live.other };
  payloads = region.payloads;
}

-- the region, where it is right
abbrev pub with_region : ℕ → Live → Result Region ℕ → Result Opened ℕ
with_region size live (Ok region) = Ok (opened_at size live region)
with_region size live (Err at) = Err at

-- the region of the live slot, where there is one
abbrev pub with_live : List ℕ → Result Live ℕ → Result Opened ℕ
with_live image (Ok live) = with_region (length image) live (follow (length image) image live.start)
with_live image (Err at) = Err at

-- what an image opens to as it is: its head names the live region, which is followed
unfoldable pub read_image : List ℕ → Result Opened ℕ
read_image image = with_live image (live_slot (take HEAD_BYTES image))

-- the image of a store that holds nothing
abbrev pub fresh_image : List ℕ
fresh_image = FRESH_IMAGE

-- an image of at most 65 bytes stands for the fresh one
unfoldable pub settled_image : List ℕ → List ℕ
settled_image image = if nat_le (length image) FRESH_BYTES then fresh_image else image

-- what an image opens to, or the place of what is wrong with it
unfoldable pub opened : List ℕ → Result Opened ℕ
opened image = read_image (settled_image image)

-- the payloads alone
abbrev pub payloads_in : Result Opened ℕ → Result (List (List ℕ)) ℕ
payloads_in (Ok o) = Ok o.payloads
payloads_in (Err at) = Err at

-- the layout alone
abbrev pub layout_in : Result Opened ℕ → Result Layout ℕ
layout_in (Ok o) = Ok o.layout
layout_in (Err at) = Err at

-- the payloads that an image opens to
unfoldable pub payloads_of : List ℕ → Result (List (List ℕ)) ℕ
payloads_of image = payloads_in (opened image)

-- the layout of an image that opens
unfoldable pub layout_of : List ℕ → Result Layout ℕ
layout_of image = layout_in (opened image)

-- what an append writes behind the closing gate: length, payload, the next closing gate
abbrev pub behind_gate : List ℕ → List ℕ
behind_gate payload = to_be_bytes w64 (length payload) ++ payload ++ 0 ∷ []
