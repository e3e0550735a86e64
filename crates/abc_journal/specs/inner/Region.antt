-- What is read at a place of a region.
use Rattle.std.specs.Prelude.{◌≡◌, ◌⊎◌, ℕ, ◌+◌, ◌<◌, Bool, List, length, take, drop, Result, Ok, Err, Vec}
use Rattle.std.specs.declared.alloc.Global.{Global}
use Rattle.abc_journal.specs.declared.format.TheConstants.{GATE_BYTES, RECORD_EXTRA}
use Rattle.abc_journal.specs.declared.faults.BeginFault.{BeginFault}
use Rattle.abc_journal.specs.declared.faults.BeginFault.TheVariants.{StoreFault, NotAStore, Memory}
use Rattle.abc_journal.specs.Image.{word_at, record_open, record_end, Region}

-- behind the gate at this place stands a record with this payload, and then a gate that is open or not
pub record IsFound (image : List ℕ) (at : ℕ) (payload : List ℕ) (next_open : Bool) : Type 0 where
  pub count : word_at image (at + GATE_BYTES) ≡ length payload
  pub is : take (length payload) (drop (at + RECORD_EXTRA) image) ≡ payload
  pub within : at + RECORD_EXTRA + length payload < length image
  pub next : next_open ≡ record_open image (at + RECORD_EXTRA + length payload)

-- the record at this place ends past the image, or with it, so that no gate follows; the second is the place of the gate that is wrong
abbrev pub IsCutShort : List ℕ → ℕ → ℕ → Type 0
IsCutShort image at wrong =
    ((wrong ≡ at) × (length image < record_end image at)) ⊎ ((wrong ≡ length image) × (record_end image at ≡ length image))

-- the answer has this region, or this place of what is wrong
abbrev pub IsRegion : Result Region ℕ → Result (Vec (List ℕ) Global × ℕ) BeginFault → Type 0
IsRegion found (Ok (payloads, gate)) = found ≡ Ok (record { payloads = payloads.items; gate = gate })
IsRegion found (Err (NotAStore at)) = found ≡ Err at
IsRegion found (Err StoreFault) = Unit {0}
IsRegion found (Err Memory) = Unit {0}
