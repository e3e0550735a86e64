-- A reader and its host, lent to what takes lines.
use Rattle.std.specs.Prelude.{◌≡◌, ◌⊎◌, ◌≤◌, ℕ, ◌+◌, false, List, [], ◌∷◌, ◌++◌, length}
use Rattle.abc_num.specs.Lines.{line_feed}
use Rattle.abc_outside.specs.Outside.{Outside}
use Rattle.abc_reader.specs.Asking.{Asked}
use Rattle.abc_reader.specs.Reading.{Reading, ReadsOn, WaitsAt, bytes_used}

-- one of these has the property
abbrev pub SomeOf : {L : Type 0} → (L → Type 0) → List L → Type 0
SomeOf P [] = ⊥
SomeOf P (l ∷ ls) = P l ⊎ SomeOf P ls

-- there is none of these bytes, or they end a line
abbrev pub EndsLine : List ℕ → Type 0
EndsLine bytes = (bytes ≡ []) ⊎ ((text : List ℕ) × (bytes ≡ text ++ line_feed ∷ []))

-- From one standing of a reader to another these bytes were used. As long as the end of the input was not found they end a line, or else
-- a call failed in which no line was to come yet.
pub record Used (old : Reading) (left : List ℕ) (new : Reading) (left_new : List ℕ) (has_failed : Type 0) : Type 0 where
  pub bytes : List ℕ
  pub split : old.pending ++ left ≡ bytes ++ (new.pending ++ left_new)
  pub count : bytes_used new ≡ bytes_used old + length bytes
  pub whole : new.ended ≡ false → EndsLine bytes ⊎ has_failed

-- One call for a line: each read of the input was made where no line was to come yet and nothing was said since.
pub record Call {H : Type 0} (tells_input tells_said : Type 0) (tell : H → Outside) (clock : H → ℕ) (stopped : H → ℕ → List ℕ → List ℕ → Type 0) (old new : Reading) (host host_new : H) : Type 0 where
  pub on : ReadsOn tells_input tells_said tell clock stopped old new host host_new
  pub no_fewer : old.used ≤ new.used
  pub used : tells_input → Used old (tell host).left new (tell host_new).left (WaitsAt tells_input (bytes_used new) old (tell host).left)
  pub asked : tells_said → tells_input
      → Asked (λ ask. WaitsAt tells_input ask.0 old (tell host).left × (ask.1 ≡ length (tell host).said)) (tell host).asked (tell host_new).asked

-- calls on these, in order
pub data Calls {L : Type 0} (IsCall : L → L → Type 0) : List L → L → L → Type 0 where
  no_call : (l : L) → Calls IsCall [] l l
  one_call : (old new : L) → IsCall old new → Calls IsCall (old ∷ []) old new
  more_calls : (xs ys : List L) (first later last : L) → Calls IsCall xs first later → Calls IsCall ys later last → Calls IsCall (xs ++ ys) first last

-- What such calls did, where `reader` is the reader of each and `host` its host.
pub record CallsRead {L H : Type 0} (tells_input tells_said : Type 0) (tell : H → Outside) (clock : H → ℕ) (stopped : H → ℕ → List ℕ → List ℕ → Type 0)
    (reader : L → Reading) (host : L → H) (called : List L) (old new : L) : Type 0 where
  pub on : ReadsOn tells_input tells_said tell clock stopped (reader old) (reader new) (host old) (host new)
  pub no_fewer : (reader old).used ≤ (reader new).used
  pub used : tells_input → Used (reader old) (tell (host old)).left (reader new) (tell (host new)).left
      (SomeOf (λ l. WaitsAt tells_input (bytes_used (reader new)) (reader l) (tell (host l)).left) called)
  pub asked : tells_said → tells_input
      → Asked (λ ask. SomeOf (λ l. WaitsAt tells_input ask.0 (reader l) (tell (host l)).left) called × (ask.1 ≡ length (tell (host old)).said)) (tell (host old)).asked (tell (host new)).asked
