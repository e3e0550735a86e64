-- Where a checkpoint goes, what it writes, and the layout that it leads to.
use Rattle.std.specs.Prelude.{ℕ, ◌+◌, ◌-◌, ◌*◌, ◌^◌, true, List, [], ◌∷◌, ◌++◌, length, max, take, Option, Some, None, if◌then◌else◌, ◌==◌, nat_lt, nat_le}
use Rattle.std.specs.Int.{w64, to_be_bytes}
use Rattle.abc_outside.specs.Stop.{written}
use Rattle.abc_journal.specs.declared.layout.Layout.{Layout}
use Rattle.abc_journal.specs.declared.format.TheConstants.{GATE_BYTES, HEAD_BYTES, FIRST_SLOT, SECOND_SLOT, OPEN, VERSION, RECORD_EXTRA}
use Rattle.abc_journal.specs.Image.{behind_gate}

-- the place of a slot, and the number and place of the other one
abbrev pub slot_place : ℕ → ℕ
slot_place number = if number == 0 then FIRST_SLOT else SECOND_SLOT

abbrev pub other_slot : ℕ → ℕ
other_slot number = if number == 0 then 1 else 0

abbrev pub other_place : ℕ → ℕ
other_place number = if number == 0 then SECOND_SLOT else FIRST_SLOT

-- the length of an image that ends with the region of a checkpoint behind the live one
abbrev pub behind_need : Layout → ℕ → ℕ
behind_need layout bytes = layout.gate + (RECORD_EXTRA + 2 * GATE_BYTES) + bytes

-- where the region of a checkpoint goes whose payload has so many bytes: to the front, or else behind the live region within the bound
abbrev pub room_for : Layout → ℕ → ℕ → Option ℕ
room_for layout bound bytes =
    if nat_lt layout.generation (2 ^ 64 - 1) then
    (if nat_le (HEAD_BYTES + (RECORD_EXTRA + GATE_BYTES) + bytes) layout.start then Some HEAD_BYTES
    else (if nat_le (behind_need layout bytes) bound then Some (layout.gate + GATE_BYTES) else None))
    else None

-- the layout with the checkpoint at this place, whose payload has so many bytes
abbrev pub after_checkpoint : Layout → ℕ → ℕ → Layout
after_checkpoint layout place bytes = record {
  size = if place == HEAD_BYTES then place + (RECORD_EXTRA + GATE_BYTES) + bytes else max layout.size (place + (RECORD_EXTRA + GATE_BYTES) + bytes);
  generation = layout.generation + 1;
  start = place;
  gate = place + RECORD_EXTRA + bytes;
  first = if nat_lt 1 (layout.generation + 1) then bytes else 0;
  slot = other_slot layout.slot;
  other = true;
}

-- the image with the other slot closed
abbrev pub closed_image : List ℕ → Layout → List ℕ
closed_image image layout = if layout.other then written image (other_place layout.slot) (0 ∷ []) else image

-- a region of one payload
abbrev pub region_of : List ℕ → List ℕ
region_of payload = OPEN ∷ behind_gate payload

-- what stands behind the gate of a slot
abbrev pub slot_bytes : ℕ → ℕ → List ℕ
slot_bytes generation start = to_be_bytes w64 generation ++ to_be_bytes w64 start

-- the image with the region at its place, and with its generation and start behind the gate of the other slot
abbrev pub staged : List ℕ → Layout → ℕ → List ℕ → List ℕ
staged image layout place payload = written (written image place (region_of payload)) (other_place layout.slot + GATE_BYTES) (slot_bytes (layout.generation + 1) place)

-- the image with the other slot open, cut to the end of the region where that is in front
abbrev pub published : List ℕ → Layout → ℕ → ℕ → List ℕ
published image layout place bytes =
    if place == HEAD_BYTES then take (place + (RECORD_EXTRA + GATE_BYTES) + bytes) (written image (other_place layout.slot) (VERSION ∷ [])) else written image (other_place layout.slot) (VERSION ∷ [])

-- the image after a checkpoint at this place
abbrev pub image_with_checkpoint : List ℕ → Layout → ℕ → List ℕ → List ℕ
image_with_checkpoint image layout place payload = published (staged (closed_image image layout) layout place payload) layout place (length payload)
