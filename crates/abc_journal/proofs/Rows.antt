-- Worked images and layouts: what an image opens to, where a checkpoint goes, and what commits come to, computed.
use Rattle.std.proofs.Common.{◌≡◌, ℕ, ◌-◌, ◌^◌, List, [], ◌∷◌, ◌++◌, take, drop, refl, false, true, replicate, w64}
use Rattle.std.specs.Prelude.{zero, suc, Result, Ok, Err, Some, None}
use Rattle.std.specs.Int.{to_be_bytes}
use Rattle.abc_journal.specs.declared.layout.Layout.{Layout}
use Rattle.abc_journal.specs.declared.layout.Bounds.{Bounds}
use Rattle.abc_journal.specs.Commit.{Full, and_then, committed}
use Rattle.abc_journal.specs.Checkpoint.{room_for, after_checkpoint}
use Rattle.abc_journal.specs.Image.{fresh_image, opened, read_image, settled_image, follow, live_slot, behind_gate}

empty : opened [] ≡ Ok (record { layout = record { size = 65; generation = 1; start = 64; gate = 64; first = 0; slot = 0; other = false }; payloads = [] })
unfolding opened read_image settled_image follow live_slot
empty = refl

-- the fresh image with these bytes from its gate on
abbrev pub from_gate : List ℕ → List ℕ
from_gate bytes = take 64 fresh_image ++ bytes

one_byte_more : opened (fresh_image ++ 9 ∷ []) ≡ Ok (record { layout = record { size = 66; generation = 1; start = 64; gate = 64; first = 0; slot = 0; other = false }; payloads = [] })
unfolding opened read_image settled_image follow live_slot
one_byte_more = refl

gate_open_and_nothing_behind : opened (from_gate (1 ∷ 9 ∷ [])) ≡ Err 64
unfolding opened read_image settled_image follow live_slot
gate_open_and_nothing_behind = refl

one_record : opened (from_gate (1 ∷ behind_gate (7 ∷ 8 ∷ []))) ≡ Ok (record { layout = record { size = 76; generation = 1; start = 64; gate = 75; first = 0; slot = 0; other = false }; payloads = (7 ∷ 8 ∷ []) ∷ [] })
unfolding opened read_image settled_image follow live_slot
one_record = refl

-- a record whose gate is closed is not there
record_behind_closed_gate : opened (from_gate (0 ∷ behind_gate (7 ∷ 8 ∷ []))) ≡ Ok (record { layout = record { size = 76; generation = 1; start = 64; gate = 64; first = 0; slot = 0; other = false }; payloads = [] })
unfolding opened read_image settled_image follow live_slot
record_behind_closed_gate = refl

last_byte_missing : opened (from_gate (1 ∷ take 10 (behind_gate (7 ∷ 8 ∷ [])))) ≡ Err 75
unfolding opened read_image settled_image follow live_slot
last_byte_missing = refl

abbrev pub start_63 : List ℕ
start_63 = take 24 fresh_image ++ 63 ∷ [] ++ drop 25 fresh_image ++ 9 ∷ []

start_in_head : opened start_63 ≡ Err 63
unfolding opened read_image settled_image follow live_slot
start_in_head = refl

abbrev pub no_slot : List ℕ
no_slot = take 8 fresh_image ++ 0 ∷ [] ++ drop 9 fresh_image ++ 9 ∷ []

no_open_slot : opened no_slot ≡ Err 8
unfolding opened read_image settled_image follow live_slot
no_open_slot = refl

no_magic : opened (0 ∷ drop 1 fresh_image ++ 9 ∷ []) ≡ Err 0
unfolding opened read_image settled_image follow live_slot
no_magic = refl

-- 65 bytes of 255 stand for the fresh image
not_fresh : opened (replicate 65 255) ≡ opened fresh_image
unfolding opened read_image settled_image follow live_slot
not_fresh = refl

-- 66 bytes without the magic
zeros : opened (replicate 66 0) ≡ Err 0
unfolding opened read_image settled_image follow live_slot
zeros = refl

start_past_the_image : opened (take 24 fresh_image ++ 66 ∷ [] ++ drop 25 fresh_image ++ 9 ∷ []) ≡ Err 66
unfolding opened read_image settled_image follow live_slot
start_past_the_image = refl

payload_past_the_image : opened (from_gate (1 ∷ to_be_bytes w64 3 ++ 7 ∷ 8 ∷ [])) ≡ Err 64
unfolding opened read_image settled_image follow live_slot
payload_past_the_image = refl

-- slot 0 with generation 1 and start 64, slot 1 open with this generation and start 66
abbrev pub two_slots : ℕ → List ℕ
two_slots generation = take 25 fresh_image ++ 1 ∷ (to_be_bytes w64 generation ++ to_be_bytes w64 66) ++ replicate 22 0 ++ 0 ∷ 0 ∷ 1 ∷ behind_gate (7 ∷ 8 ∷ [])

greater_generation_is_live : opened (two_slots 2) ≡ Ok (record { layout = record { size = 78; generation = 2; start = 66; gate = 77; first = 2; slot = 1; other = true }; payloads = (7 ∷ 8 ∷ []) ∷ [] })
unfolding opened read_image settled_image follow live_slot
greater_generation_is_live = refl

slot_0_is_live_on_a_tie : opened (two_slots 1) ≡ Ok (record { layout = record { size = 78; generation = 1; start = 64; gate = 64; first = 0; slot = 0; other = true }; payloads = [] })
unfolding opened read_image settled_image follow live_slot
slot_0_is_live_on_a_tie = refl

-- a payload of 27 bytes: the image has 101
after_27_bytes : opened (from_gate (1 ∷ behind_gate (replicate 27 5))) ≡ Ok (record { layout = record { size = 101; generation = 1; start = 64; gate = 100; first = 0; slot = 0; other = false }; payloads = replicate 27 5 ∷ [] })
unfolding opened read_image settled_image follow live_slot
after_27_bytes = refl

-- a checkpoint of 27 bytes: behind after one record within 138, in front after three more; no room within 137
abbrev pub after_one : Layout
after_one = record { size = 101; generation = 1; start = 64; gate = 100; first = 0; slot = 0; other = false }

abbrev pub after_four : Layout
after_four = record { size = 246; generation = 2; start = 101; gate = 245; first = 27; slot = 1; other = true }

goes_behind : room_for after_one 138 27 ≡ Some 101
goes_behind = refl

has_no_room : room_for after_one 137 27 ≡ None
has_no_room = refl

behind_leads_to : after_checkpoint after_one 101 27 ≡ record { size = 138; generation = 2; start = 101; gate = 137; first = 27; slot = 1; other = true }
behind_leads_to = refl

-- in front no bound counts
goes_in_front : room_for after_four 0 27 ≡ Some 64
goes_in_front = refl

one_byte_too_long : room_for after_four 0 28 ≡ None
one_byte_too_long = refl

front_leads_to : after_checkpoint after_four 64 27 ≡ record { size = 101; generation = 3; start = 64; gate = 100; first = 27; slot = 0; other = true }
front_leads_to = refl

no_generation_is_left : room_for (record after_four { generation = 2 ^ 64 - 1 }) 1000 27 ≡ None
no_generation_is_left = refl

-- commits whose records and checkpoints have 27 bytes each, one after the other from the fresh store
abbrev pub fresh : Layout
fresh = record { size = 65; generation = 1; start = 64; gate = 64; first = 0; slot = 0; other = false }

-- within this bound on the image, and with checkpoints due after so many bytes
abbrev pub within : ℕ → ℕ → Bounds
within image checkpoint = record { input = 1000; image = image; checkpoint = checkpoint }

abbrev pub commits : Bounds → ℕ → Result Layout Full
commits bounds zero = Ok fresh
commits bounds (suc n) = and_then (commits bounds n) (λ layout. committed bounds layout 27 27 27)

-- a due checkpoint goes behind the first record, and after three more to the front
due_after_one : commits (within 1000 36) 1 ≡ Ok (record { size = 138; generation = 2; start = 101; gate = 137; first = 27; slot = 1; other = true })
unfolding committed
due_after_one = refl

not_due_after_two : commits (within 1000 36) 2 ≡ Ok (record { size = 174; generation = 2; start = 101; gate = 173; first = 27; slot = 1; other = true })
unfolding committed
not_due_after_two = refl

due_after_four : commits (within 1000 36) 4 ≡ Ok (record { size = 101; generation = 3; start = 64; gate = 100; first = 27; slot = 0; other = true })
unfolding committed
due_after_four = refl

-- the record doesn't fit, and a checkpoint that would make room doesn't either: the need is the checkpoint's
no_room_for_either : commits (within 138 1000) 3 ≡ Err (record { layout = record { size = 137; generation = 1; start = 64; gate = 136; first = 0; slot = 0; other = false }; need = 174 })
unfolding committed
no_room_for_either = refl

-- a checkpoint is taken and stays, though the record doesn't fit after it: the need is the record's
checkpoint_stays : committed (within 115 1000) after_one 27 0 27 ≡ Err (record { layout = record { size = 111; generation = 2; start = 101; gate = 110; first = 0; slot = 1; other = true }; need = 147 })
unfolding committed
checkpoint_stays = refl

-- a checkpoint of no bytes in front makes room for a record that doesn't fit
makes_room : committed (within 246 1000) after_four 27 0 0 ≡ Ok (record { size = 110; generation = 3; start = 64; gate = 109; first = 0; slot = 0; other = true })
unfolding committed
makes_room = refl

-- a due checkpoint that doesn't fit is left out
due_without_room : committed (within 101 0) fresh 27 0 27 ≡ Ok after_one
unfolding committed
due_without_room = refl
