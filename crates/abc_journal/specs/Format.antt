-- The format of a store in numbers and bytes.
use Rattle.std.specs.Prelude.{◌≡◌, ℕ, List, [], ◌∷◌, ◌++◌, replicate, codes}
use Rattle.std.specs.Int.{w64, to_be_bytes}
use Rattle.abc_journal.specs.declared.format.TheConstants.{MAGIC, GATE_BYTES, NUMBER_BYTES, HEAD_BYTES, FRESH_BYTES, FIRST_SLOT, START_IN_SLOT, SLOT_NUMBERS_BYTES, SECOND_SLOT, OPEN, VERSION, RECORD_EXTRA}
use Rattle.abc_journal.specs.Image.{fresh_image}

-- a slot: a gate, a generation and the start of a region
abbrev pub slot : ℕ → ℕ → ℕ → List ℕ
slot gate generation start = gate ∷ to_be_bytes w64 generation ++ to_be_bytes w64 start

-- a fresh store has the magic, slot 0 open, slot 1 empty, 22 bytes that are not read, and a closed gate
abbrev pub IsFormat : Type 0
IsFormat = (to_be_bytes w64 MAGIC ≡ codes "ABCSTOR1") × (GATE_BYTES ≡ 1) × (NUMBER_BYTES ≡ 8) × (HEAD_BYTES ≡ 64) × (FRESH_BYTES ≡ 65)
    × (FIRST_SLOT ≡ 8) × (START_IN_SLOT ≡ 9) × (SLOT_NUMBERS_BYTES ≡ 16) × (SECOND_SLOT ≡ 25) × (OPEN ≡ 1) × (VERSION ≡ 1) × (RECORD_EXTRA ≡ 9)
    × (fresh_image ≡ codes "ABCSTOR1" ++ slot 1 1 64 ++ slot 0 0 0 ++ replicate 22 0 ++ 0 ∷ [])
