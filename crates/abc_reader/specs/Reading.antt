-- Where a reader stands in its input, and what its calls do.
use Rattle.std.specs.Prelude.{◌≡◌, ◌≤◌, ◌<◌, ℕ, ◌+◌, ◌-◌, ◌^◌, Bool, true, false, List, [], ◌∷◌, ◌++◌, length, take, nat_lt, if◌then◌else◌, Option, None, Some}
use Rattle.std.specs.List.{AllByRecursion}
use Rattle.abc_num.specs.Lines.{line_feed, carriage_return, HasNoLf, raw_line, raw_lines}
use Rattle.abc_num.specs.declared.limits.TheConstants.{MOST_LINE_BYTES}
use Rattle.abc_num.specs.declared.lines.Line.{Line}
use Rattle.abc_num.specs.declared.lines.RawLine.{RawLine}
use Rattle.abc_outside.specs.Lines.{Unread, lines_in}
use Rattle.abc_outside.specs.Outside.{Outside, KeepsButInput}
use Rattle.abc_outside.specs.Stop.{Leaves}
use Rattle.abc_turns.specs.Session.{no_item, not_yet, whole_item}
use Rattle.abc_reader.specs.Asking.{AskedRising, next_ask}
use Rattle.abc_reader.specs.Items.{next_item}

-- What a reader holds of its input.
pub record Reading : Type 0 where
  -- a line that was looked at and is not yet taken, or none
  pub ahead : List RawLine
  -- the bytes that were taken from the input and that no line has used
  pub pending : List ℕ
  -- a count that rises with each line that is taken, and is at most the count of the bytes taken
  pub used : ℕ
  -- how many bytes were taken from the input, and how many may be
  pub taken : ℕ
  pub bound : ℕ
  -- a read found the end of the input
  pub ended : Bool

-- a reader that has taken nothing
abbrev pub fresh : ℕ → Reading
fresh bound = record { ahead = []; pending = []; used = 0; taken = 0; bound = bound; ended = false }

-- whether the input ends before the bound, where this is left of it
abbrev pub ends_at : Reading → List ℕ → Bool
ends_at r left = nat_lt (r.taken + length left) r.bound

-- the lines that are not yet read
abbrev pub lines_behind : Reading → List ℕ → List RawLine
lines_behind r left = raw_lines (ends_at r left) (r.pending ++ take (r.bound - r.taken) left)

-- the lines that are not yet taken
abbrev pub lines_at : Reading → List ℕ → List RawLine
lines_at r left = r.ahead ++ lines_behind r left

-- lines that may follow those that were read: any, as long as the end of the input was not found; and then those that are left
abbrev pub MayFollow : Reading → List ℕ → Bool → List RawLine → Type 0
MayFollow r left ends rest = r.ended ≡ true → (ends ≡ ends_at r left) × (rest ≡ lines_behind r left)

-- a line as it is cut out of bytes without an LF
abbrev pub IsRaw : RawLine → Type 0
IsRaw line = (text : List ℕ) × HasNoLf text × (line ≡ raw_line text)

-- Bytes that are cut into this line: those that it kept, a byte for those that were dropped, and the end of a line.
abbrev pub as_bytes : RawLine → List ℕ
as_bytes line = (line.bytes ++ (if line.long then 0 ∷ [] else [])) ++ carriage_return ∷ line_feed ∷ []

abbrev pub bytes_of : List RawLine → List ℕ
bytes_of [] = []
bytes_of (line ∷ lines) = as_bytes line ++ bytes_of lines

-- how many bytes were used by lines
abbrev pub bytes_used : Reading → ℕ
bytes_used r = r.used + length r.ahead

-- An input that a reader may have, where this is left of the real one: that one, or as many bytes of it, where the input goes on behind them.
abbrev pub MayBe : Type 0 → Option ℕ → Reading → List ℕ → Type 0
MayBe tells_input None r left = tells_input
MayBe tells_input (Some n) r left = tells_input × (r.ended ≡ false) × (bytes_used r ≤ n) × (n ≤ r.taken + length left) × (n ≤ r.bound)

-- What a reader of lines tells of such an input: bytes that are cut into the lines that are still to come, up to the bound.
abbrev pub unread_in : Option ℕ → Reading → List ℕ → Unread
unread_in None r left = record { bytes = bytes_of r.ahead ++ (r.pending ++ take (r.bound - r.taken) left); ends = ends_at r left }
unread_in (Some n) r left = record { bytes = bytes_of r.ahead ++ take (n - bytes_used r) (r.pending ++ left); ends = false }

-- with so many bytes of the input in all no line is to come yet
abbrev pub WaitsAt : Type 0 → ℕ → Reading → List ℕ → Type 0
WaitsAt tells_input n r left = MayBe tells_input (Some n) r left × (lines_in (unread_in (Some n) r left) ≡ [])

-- what holds of every reader
pub record IsReader (r : Reading) : Type 0 where
  pub counted : bytes_used r + length r.pending ≡ r.taken
  pub within : r.taken ≤ r.bound
  pub small : r.bound ≤ 2 ^ 64 - 1
  pub raw : AllByRecursion IsRaw r.ahead

-- The next bytes were used, whole lines all of them; so many were taken since.
pub record UsesLines (pending left : List ℕ) (taken : ℕ) (pending_new left_new : List ℕ) (taken_new : ℕ) (lines : List RawLine) : Type 0 where
  pub bytes : List ℕ
  pub cut : (ends : Bool) (more : List ℕ) → raw_lines ends (bytes ++ more) ≡ lines ++ raw_lines ends more
  pub split : pending ++ left ≡ bytes ++ (pending_new ++ left_new)
  pub count : length pending + taken_new ≡ taken + length bytes + length pending_new

-- These lines were read, from one standing of a reader to another: they are the first of those that were left. As long as the end of the
-- input was not found, the bytes that they used are cut into them, whatever follows.
pub record ReadLines (old : Reading) (left : List ℕ) (new : Reading) (left_new : List ℕ) (lines : List RawLine) : Type 0 where
  pub split : lines_behind old left ≡ lines ++ lines_behind new left_new
  pub ends : ends_at new left_new ≡ ends_at old left
  pub bytes : new.ended ≡ false → UsesLines old.pending left old.taken new.pending left_new new.taken lines

-- what was read begins with this item, behind which these lines may follow; or there is no item up to the end of the input
abbrev pub BeginsWith : Reading → List ℕ → List RawLine → Option (List Line) → Type 0
BeginsWith new left_new lines (Some item) = (ends : Bool) (rest : List RawLine) → MayFollow new left_new ends rest → next_item ends (lines ++ rest) ≡ whole_item item (new.ahead ++ rest)
BeginsWith new left_new lines None = (next_item true lines ≡ no_item) × (new.ahead ≡ []) × (lines_behind new left_new ≡ []) × (new.ended ≡ true) × (ends_at new left_new ≡ true)

-- The next item was taken, if there is one.
pub record TookItem (old : Reading) (left : List ℕ) (new : Reading) (left_new : List ℕ) (found : Option (List Line)) : Type 0 where
  pub lines : List RawLine
  pub were_read : ReadLines old left new left_new lines
  pub begins : BeginsWith new left_new (old.ahead ++ lines) found

-- an item has a line at least, and no text of its lines has more bytes than a line may have
abbrev pub IsFit : List Line → Type 0
IsFit item = (0 < length item) × AllByRecursion (λ line. length line.text ≤ MOST_LINE_BYTES) item

-- with these bytes more taken no further item is whole
abbrev pub WantsMore : Reading → List ℕ → ℕ → Type 0
WantsMore r left taken_now = (more : ℕ) × (taken_now ≡ r.taken + more) × (more ≤ length left) × (next_item false (r.ahead ++ raw_lines false (r.pending ++ take more left)) ≡ not_yet)

-- a read where no whole item is in hand, and nothing was said since
abbrev pub AsksMore : Reading → List ℕ → ℕ → ℕ × ℕ → Type 0
AsksMore r left spoken ask = WantsMore r left ask.0 × (ask.1 ≡ spoken)

-- A reader stands so over its host: it has counted the bytes that were taken, which are no more than the bound, and after a read that gave
-- nothing no byte is left.
pub record StandsAt (tells_input : Type 0) (reader : Reading) (now : Outside) : Type 0 where
  pub counts : now.taken ≡ reader.taken
  pub within : reader.taken ≤ reader.bound
  pub small : reader.bound ≤ 2 ^ 64 - 1
  pub no_more : reader.used ≤ reader.taken
  pub at_end : tells_input → reader.ended ≡ true → now.left ≡ []

-- A reader read on, from one standing of itself and of its host to another: it took input from the host and did nothing else.
pub record ReadsOn {H : Type 0} (tells_input tells_said : Type 0) (tell : H → Outside) (clock : H → ℕ) (stopped : H → ℕ → List ℕ → List ℕ → Type 0) (reader_old reader_new : Reading) (old new : H) : Type 0 where
  pub bound : reader_new.bound ≡ reader_old.bound
  pub rises : reader_old.taken ≤ reader_new.taken
  pub total : tells_input → reader_new.taken + length (tell new).left ≡ reader_old.taken + length (tell old).left
  pub stays_ended : reader_old.ended ≡ true → reader_new.ended ≡ true
  pub asks_rise : tells_said → AskedRising (next_ask reader_old.taken reader_old.ended) (next_ask reader_new.taken reader_new.ended) (tell old).asked (tell new).asked
  pub ended_asks : reader_old.ended ≡ true → (tell new).asked ≡ (tell old).asked
  pub rest : KeepsButInput (tell old) (tell new)
  pub stops : Leaves clock stopped old new (stopped old (clock old))
  pub now : (c s : List ℕ) → stopped new (clock new) c s → stopped old (clock old) c s
