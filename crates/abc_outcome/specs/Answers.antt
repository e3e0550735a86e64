-- What the call that answers an item leaves.
use Rattle.std.specs.Prelude.{◌≡◌, ◌⊎◌, ◌≤◌, ℕ, ◌+◌, Bool, true, false, List, ◌++◌, length, take, IfOk, OnOk, IsErrOf, IsTrue, Result}
use Rattle.abc_num.specs.Lines.{raw_lines}
use Rattle.abc_num.specs.declared.lines.RawLine.{RawLine}
use Rattle.abc_outside.specs.Outside.{Outside, RoseByOne, IsFaultless}
use Rattle.abc_outside.specs.Stop.{Leaves, IsQuiet}
use Rattle.abc_turns.specs.Session.{came, wants}
use Rattle.abc_turns.specs.Stops.{IsInCommit}
use Rattle.abc_reader.specs.Asking.{Asked, AskedRising, next_ask}
use Rattle.abc_reader.specs.Reading.{Reading, ends_at, lines_at, MayFollow, ReadLines, StandsAt}
use Rattle.abc_store.specs.Commit.{Work, Holds}
use Rattle.abc_store.specs.Opening.{OpensTo}
use Rattle.abc_store.specs.View.{View, work_of}
use Rattle.abc_outcome.specs.declared.answering.Answer.{Answer}
use Rattle.abc_outcome.specs.declared.answering.AnswerFault.{AnswerFault}
use Rattle.abc_outcome.specs.declared.answering.AnswerFault.TheVariants.{Input, Long, StoreFault, Memory}
use Rattle.abc_outcome.specs.Outcome.{Behind, Outcome}

-- the image opens to the workspace of this work
abbrev pub OpensToWork : List ℕ → Work → Type 0
OpensToWork image work = OpensTo image work.kept

-- an answer, with the work then and the lines left
abbrev pub told : Answer → Work → List RawLine → Outcome
told answer work left = came answer.reply work left answer.quit

-- the work after an item; one that wants a line has done nothing yet
abbrev pub work_in : Work → Outcome → Work
work_in before (came reply work left quits) = work
work_in before wants = before

-- what stands behind an item, as a reader of the input has it
abbrev pub behind_at : Reading → List ℕ → Behind
behind_at r left = record { lines = lines_at r left; ends = ends_at r left }

-- The item came to this answer and work, and took these lines: whatever may follow them, it comes to the same, and leaves what follows.
pub record CameTo (outcome : Behind → Outcome) (reading : Reading) (left : List ℕ) (reading_new : Reading) (left_new : List ℕ) (work : Work) (answer : Answer) : Type 0 where
  pub lines : List RawLine
  pub were_read : ReadLines reading left reading_new left_new lines
  pub comes : (ends : Bool) (rest : List RawLine) → MayFollow reading_new left_new ends rest
      → outcome (record { lines = (reading.ahead ++ lines) ++ rest; ends = ends }) ≡ told answer work (reading_new.ahead ++ rest)

-- with these bytes more taken the item still wants a line
abbrev pub WantsInside : (Behind → Outcome) → Reading → List ℕ → ℕ → Type 0
WantsInside outcome r left taken_now =
    (more : ℕ) × (taken_now ≡ r.taken + more) × (more ≤ length left) × (outcome (record { lines = r.ahead ++ raw_lines false (r.pending ++ take more left); ends = false }) ≡ wants)

-- a read while the item wants a line, and nothing was said since
abbrev pub AsksInside : (Behind → Outcome) → Reading → List ℕ → ℕ → ℕ × ℕ → Type 0
AsksInside outcome r left spoken ask = WantsInside outcome r left ask.0 × (ask.1 ≡ spoken)

-- The reader, from one standing of it and of what its host tells to another, while an item was answered.
pub record ReadsInside (tells_input tells_said : Type 0) (reading reading_new : Reading) (old new : Outside) : Type 0 where
  pub bound : reading_new.bound ≡ reading.bound
  pub rises : reading.taken ≤ reading_new.taken
  pub no_fewer : reading.used ≤ reading_new.used
  pub total : tells_input → reading_new.taken + length new.left ≡ reading.taken + length old.left
  pub stays_ended : reading.ended ≡ true → reading_new.ended ≡ true
  pub asks_rise : tells_said → AskedRising (next_ask reading.taken reading.ended) (next_ask reading_new.taken reading_new.ended) old.asked new.asked
  pub ended_asks : reading.ended ≡ true → new.asked ≡ old.asked
  pub stands : StandsAt tells_input reading_new new

-- nothing was done: the store, the reader and the host are as before
pub record NothingDone {H : Type 0} (before after : View) (reading reading_new : Reading) (old new : H) : Type 0 where
  pub store : after ≡ before
  pub reader : reading_new ≡ reading
  pub host : new ≡ old

-- An item was answered, from one host, reader and store to others; whatever it comes to, this holds.
pub record Keeps {H : Type 0} (tells_image tells_input tells_said : Type 0) (now : H → Outside) (clock : H → ℕ) (stopped : H → ℕ → List ℕ → List ℕ → Type 0)
    (before after : View) (reading reading_new : Reading) (old new : H) (result : Result Answer AnswerFault) : Type 0 where
  -- after Ok the image holds the store, which is sound
  pub holds : tells_image → OnOk result (Holds (now new).image (work_of after))
  pub sound : OnOk result (IsTrue after.sound)
  pub faultless : OnOk result (IsFaultless (now old) (now new))
  -- a call on the store failed: then it isn't sound any more
  pub fault : IsErrOf result StoreFault → RoseByOne (now old).store_faults (now new).store_faults
  pub unsound : IsErrOf result StoreFault → after.sound ≡ false
  -- the input failed, or is too long, while the item wants a line
  pub input : IsErrOf result Input → RoseByOne (now old).input_faults (now new).input_faults
  pub long : IsErrOf result Long → reading_new.taken ≡ reading_new.bound
  pub ended_ends : reading.ended ≡ true → (IsErrOf result Input ⊎ IsErrOf result Long) → ⊥
  -- where nothing was kept and nothing failed in the store, the store is as before, and so are the image and all that a stop may leave
  pub same : (IsErrOf result Memory ⊎ IsErrOf result Input ⊎ IsErrOf result Long) → after ≡ before
  pub same_image : (IsErrOf result Memory ⊎ IsErrOf result Input ⊎ IsErrOf result Long) → (now new).image ≡ (now old).image
  pub idle : (IsErrOf result Memory ⊎ IsErrOf result Input ⊎ IsErrOf result Long) → (c s : List ℕ) → stopped new (clock new) c s → stopped old (clock old) c s
  -- each count of faults is as before but where its own fault is answered
  pub other_input : (IsErrOf result Input → ⊥) → (now new).input_faults ≡ (now old).input_faults
  pub other_store : (IsErrOf result StoreFault → ⊥) → (now new).store_faults ≡ (now old).store_faults
  pub no_input_falls : (now old).input_faults ≤ (now new).input_faults
  pub no_store_falls : (now old).store_faults ≤ (now new).store_faults
  pub sink : (now new).sink_faults ≡ (now old).sink_faults
  -- whatever the answer
  pub bounds : after.bounds ≡ before.bounds
  pub chosen : (now new).chosen ≡ (now old).chosen
  pub said : (now new).said ≡ (now old).said
  pub reads : ReadsInside tells_input tells_said reading reading_new (now old) (now new)
  pub quiet : tells_image → IsQuiet clock stopped old (now old).image → OnOk result (IsQuiet clock stopped new (now new).image)

-- An item that comes to this outcome, by what stands behind it, was answered so: after Ok the answer, the store and the lines left are
-- its outcome; where it was broken off, it still wants a line; and at every moment of the call and at its end.
pub record ComesTo {H : Type 0} (tells_image tells_input tells_said : Type 0) (now : H → Outside) (clock : H → ℕ) (stopped : H → ℕ → List ℕ → List ℕ → Type 0)
    (before after : View) (reading reading_new : Reading) (old new : H) (result : Result Answer AnswerFault) (outcome : Behind → Outcome) : Type 0 where
  pub came : tells_input → IfOk result (CameTo outcome reading (now old).left reading_new (now new).left (work_of after))
  pub waits : tells_input → (IsErrOf result Input ⊎ IsErrOf result Long) → WantsInside outcome reading (now old).left reading_new.taken
  pub asked : tells_said → tells_input → Asked (AsksInside outcome reading (now old).left (length (now old).said)) (now old).asked (now new).asked
  pub stops : tells_image → tells_input → IsQuiet clock stopped old (now old).image
      → Leaves clock stopped old new (IsInCommit OpensToWork (work_of before) (work_in (work_of before) (outcome (behind_at reading (now old).left))) (now old).said)
