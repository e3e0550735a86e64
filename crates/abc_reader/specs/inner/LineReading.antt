-- What a reader holds of the input, and what is left of it.
use Rattle.std.specs.Prelude.{◌≡◌, ◌≤◌, ℕ, ◌+◌, ◌-◌, Bool, false, List, [], ◌∷◌, ◌++◌, length, take, drop, nat_lt, if◌then◌else◌, Option, MatchOption}
use Rattle.abc_num.specs.Lines.{HasNoLf, without_cr, raw_line, raw_lines}
use Rattle.abc_num.specs.declared.lines.RawLine.{RawLine}
use Rattle.abc_outside.specs.Lines.{Unread}
use Rattle.abc_reader.specs.declared.line.Gathered.{Gathered}
use Rattle.abc_reader.specs.declared.line.TheConstants.{MOST_GATHERED}
use Rattle.abc_reader.specs.declared.line_reader.LineReader.{LineReader}

-- the front of a line that is read: its first bytes, and whether there are more
pub record Front : Type 0 where
  pub bytes : List ℕ
  pub more : Bool

-- the front of these bytes, which has one byte more than a line may have, since that may be a CR at its end
abbrev pub front_of : List ℕ → Front
front_of bytes = record { bytes = take MOST_GATHERED bytes; more = nat_lt MOST_GATHERED (length bytes) }

-- the front that the code holds
abbrev pub shown : Gathered → Front
shown line = record { bytes = line.bytes.items; more = line.more }

-- what the front tells of the text of its line, which has no CR at its end
abbrev pub text_of : Front → List ℕ
text_of front = if front.more then front.bytes else without_cr front.bytes

-- the bytes that were taken and not yet used
abbrev pub pending_of : LineReader → List ℕ
pending_of reader = take (reader.to - reader.from) (drop reader.from reader.piece.items)

-- the count of the bytes that were used
abbrev pub used_of : LineReader → ℕ
used_of reader = reader.taken - (reader.to - reader.from)

-- the bytes up to the bound that no line has used
abbrev pub bytes_left : LineReader → List ℕ → List ℕ
bytes_left reader left = pending_of reader ++ take (reader.bound - reader.taken) left

-- the lines that are still to come
abbrev pub lines_left : LineReader → List ℕ → List RawLine
lines_left reader left = raw_lines (nat_lt (reader.taken + length left) reader.bound) (bytes_left reader left)

-- what a reader tells of its input
abbrev pub unread_of : LineReader → List ℕ → Unread
unread_of reader left = record { bytes = bytes_left reader left; ends = nat_lt (reader.taken + length left) reader.bound }

-- these bytes, where the input goes on behind them
abbrev pub going_on : List ℕ → Unread
going_on bytes = record { bytes = bytes; ends = false }

-- From the first of these bytes to the others so many were consumed.
pub record Consumes (before after : List ℕ) (used used_new : ℕ) : Type 0 where
  pub bytes : List ℕ
  pub split : before ≡ bytes ++ after
  pub count : used_new ≡ used + length bytes

-- the same, and no line ends in them
pub record ConsumesOpen (before after : List ℕ) (used used_new : ℕ) : Type 0 where
  pub whole : Consumes before after used used_new
  pub no_lf : HasNoLf whole.bytes

-- the front of some bytes without an LF
pub record HasFront (front : Front) : Type 0 where
  pub bytes : List ℕ
  pub no_lf : HasNoLf bytes
  pub is : front ≡ front_of bytes

-- The line grew by a part of the pending bytes: up to an LF, which is used too, or all of them.
pub record TookPart (old new : List ℕ) (line_old line_new : Front) (found : Bool) : Type 0 where
  pub part : List ℕ
  pub no_lf : HasNoLf part
  pub grows : (bytes : List ℕ) → line_old ≡ front_of bytes → line_new ≡ front_of (bytes ++ part)
  pub split : old ≡ part ++ (if found then 10 ∷ new else [])
  pub rest : found ≡ false → new ≡ []

-- with these bytes more taken there is no whole line to serve
abbrev pub WantsLine : List ℕ → List ℕ → ℕ → ℕ → Type 0
WantsLine pending left taken taken_now = (more : ℕ) × (taken_now ≡ taken + more) × (more ≤ length left) × (raw_lines false (pending ++ take more left) ≡ [])

-- a read where no whole line is in hand, and nothing was said since
abbrev pub AsksLine : List ℕ → List ℕ → ℕ → ℕ → ℕ × ℕ → Type 0
AsksLine pending left taken spoken ask = WantsLine pending left taken ask.0 × (ask.1 ≡ spoken)

-- the line of which this is the front, where it has a byte
abbrev pub IsLast : Gathered → Option RawLine → Type 0
IsLast line found = MatchOption found (length line.bytes.items ≡ 0) (λ last. ((bytes : List ℕ) → shown line ≡ front_of bytes → last ≡ raw_line bytes) × (length line.bytes.items ≡ 0 → ⊥))
