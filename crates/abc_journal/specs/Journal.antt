-- What a journal knows, and what its calls leave.
use Rattle.std.specs.Prelude.{◌≡◌, ◌⊎◌, ℕ, ◌+◌, ◌-◌, ◌<◌, ◌^◌, ◌&&◌, List, length, max, min, Result, Ok, Err, if◌then◌else◌, ◌==◌, nat_lt}
use Rattle.abc_outside.specs.Stop.{Extends}
use Rattle.abc_journal.specs.declared.layout.Layout.{Layout}
use Rattle.abc_journal.specs.declared.faults.BeginFault.{BeginFault}
use Rattle.abc_journal.specs.declared.faults.BeginFault.TheVariants as begin
use Rattle.abc_journal.specs.declared.faults.AppendFault.{AppendFault}
use Rattle.abc_journal.specs.declared.faults.AppendFault.TheVariants as append
use Rattle.abc_journal.specs.declared.format.TheConstants.{FRESH_BYTES, GATE_BYTES, RECORD_EXTRA}
use Rattle.abc_journal.specs.Image.{settled_image, layout_of, payloads_of}

-- the image is not to be replaced by the fresh one, and has this layout
pub record HasLayout (image : List ℕ) (layout : Layout) : Type 0 where
  pub settled : settled_image image ≡ image
  pub is : layout_of image ≡ Ok layout

-- the length of the image with one record more, of so many bytes: its payload and the next gate too
abbrev pub need_of : Layout → ℕ → ℕ
need_of layout bytes = max layout.size (layout.gate + (RECORD_EXTRA + GATE_BYTES) + bytes)

-- the layout with one record more
abbrev pub after_record : Layout → ℕ → Layout
after_record layout bytes = record layout {
  size = need_of layout bytes;
  gate = layout.gate + RECORD_EXTRA + bytes;
  first = if layout.gate == layout.start && nat_lt 1 layout.generation then bytes else layout.first;
}

-- the answer is NotAStore, at a place with P
abbrev pub IfNotAStore : {T : Type 0} → Result T BeginFault → (ℕ → Type 0) → Type 0
IfNotAStore (Ok x) P = Unit {0}
IfNotAStore (Err begin.StoreFault) P = Unit {0}
IfNotAStore (Err begin.Memory) P = Unit {0}
IfNotAStore (Err (begin.NotAStore at)) P = P at

-- the answer is NotAStore
abbrev pub IsNotAStore : {T : Type 0} → Result T BeginFault → Type 0
IsNotAStore (Ok x) = ⊥
IsNotAStore (Err begin.StoreFault) = ⊥
IsNotAStore (Err begin.Memory) = ⊥
IsNotAStore (Err (begin.NotAStore at)) = Unit {0}

-- every answer but a fault of the store
abbrev pub IsNoFault : {T : Type 0} → Result T BeginFault → Type 0
IsNoFault (Ok x) = Unit {0}
IsNoFault (Err begin.StoreFault) = ⊥
IsNoFault (Err begin.Memory) = Unit {0}
IsNoFault (Err (begin.NotAStore at)) = Unit {0}

-- the answer is StoreFull
abbrev pub IsFull : {T : Type 0} → Result T AppendFault → Type 0
IsFull (Ok x) = ⊥
IsFull (Err append.StoreFault) = ⊥
IsFull (Err append.Memory) = ⊥
IsFull (Err (append.StoreFull need limit)) = Unit {0}

-- where the answer is StoreFull, it says this need, or the last number where the need is past it, and this limit
abbrev pub SaysNeed : {T : Type 0} → Result T AppendFault → ℕ → ℕ → Type 0
SaysNeed (Ok x) need limit = Unit {0}
SaysNeed (Err append.StoreFault) need limit = Unit {0}
SaysNeed (Err append.Memory) need limit = Unit {0}
SaysNeed (Err (append.StoreFull n l)) need limit = (n ≡ min need (2 ^ 64 - 1)) × (l ≡ limit)

-- the image, or where it has more than 65 bytes perhaps a longer one
abbrev pub IsAsRead : List ℕ → List ℕ → Type 0
IsAsRead image c = (c ≡ image) ⊎ ((FRESH_BYTES < length image) × Extends image c)

-- a stop now leaves the image as it reads; one of more than 65 bytes may be longer
abbrev pub BeginsQuiet : {H : Type 0} (clock : H → ℕ) (stopped : H → ℕ → List ℕ → List ℕ → Type 0) → H → List ℕ → Type 0
BeginsQuiet clock stopped host image = (c s : List ℕ) → stopped host (clock host) c s → IsAsRead image c

-- these bytes were said, and the image opens to these payloads
abbrev pub IsSame : List (List ℕ) → List ℕ → List ℕ → List ℕ → Type 0
IsSame ps said c s = (s ≡ said) × (payloads_of c ≡ Ok ps)

-- these bytes were said, and the image opens to the first payloads or to the second
abbrev pub IsBeforeOrAfter : List (List ℕ) → List (List ℕ) → List ℕ → List ℕ → List ℕ → Type 0
IsBeforeOrAfter before after said c s = (s ≡ said) × ((payloads_of c ≡ Ok before) ⊎ (payloads_of c ≡ Ok after))
