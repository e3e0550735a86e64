-- What the steps of a checkpoint start from, and what they leave.
use Rattle.std.specs.Prelude.{◌≡◌, ◌⊎◌, ℕ, ◌+◌, ◌<◌, ◌≤◌, ◌^◌, false, List, length, Ok}
use Rattle.abc_outside.specs.Stop.{Shortened}
use Rattle.abc_journal.specs.declared.layout.Layout.{Layout}
use Rattle.abc_journal.specs.declared.format.TheConstants.{GATE_BYTES, HEAD_BYTES, RECORD_EXTRA}
use Rattle.abc_journal.specs.Image.{payloads_of}
use Rattle.abc_journal.specs.Journal.{HasLayout}
use Rattle.abc_journal.specs.Checkpoint.{staged}

-- the layout with the other slot closed
abbrev pub other_closed : Layout → Layout
other_closed layout = record layout { other = false }

-- a place in front of the live region with room for a payload of so many bytes, or the place behind it
abbrev pub IsPlace : Layout → ℕ → ℕ → Type 0
IsPlace layout place bytes = ((place ≡ HEAD_BYTES) × (HEAD_BYTES + (RECORD_EXTRA + GATE_BYTES) + bytes ≤ layout.start)) ⊎ (place ≡ layout.gate + GATE_BYTES)

-- an image that was staged over one that opens to these payloads and whose other slot is closed
pub record IsStaged (base image : List ℕ) (layout : Layout) (place : ℕ) (payload : List ℕ) (ps : List (List ℕ)) : Type 0 where
  pub has : HasLayout base layout
  pub are : payloads_of base ≡ Ok ps
  pub shut : layout.other ≡ false
  pub stands : IsPlace layout place (length payload)
  pub rises : layout.generation + 1 < 2 ^ 64
  pub fits : place + (RECORD_EXTRA + GATE_BYTES) + length payload < 2 ^ 64
  pub is : image ≡ staged base layout place payload

-- the same, or a cut where the region is in front
abbrev pub MayBeCut : ℕ → ℕ → List ℕ → List ℕ → Type 0
MayBeCut place end old new = (new ≡ old) ⊎ ((place ≡ HEAD_BYTES) × Shortened end old new)
