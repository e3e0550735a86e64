-- Where a session stands before an item, and how it goes on from there.
use Rattle.std.specs.Prelude.{◌≡◌, ◌≤◌, ◌<◌, ℕ, suc, ◌+◌, Bool, true, false, List, [], ◌++◌, length, take}
use Rattle.abc_num.specs.Lines.{raw_lines}
use Rattle.std.specs.List.{concat}
use Rattle.abc_num.specs.declared.lines.RawLine.{RawLine}
use Rattle.abc_outside.specs.Outside.{Outside}
use Rattle.abc_journal.specs.declared.layout.Bounds.{Bounds}
use Rattle.abc_turns.specs.Session.{Ending, over, quit, waiting, Turn, Session, ends, after_turns, replies_of, replies, work_after}
use Rattle.abc_reader.specs.Reading.{Reading, fresh, ends_at, lines_at, MayFollow, ReadLines}
use Rattle.abc_make.specs.Summary.{Count, with_reply, counted_from}
use Rattle.abc_store.specs.Commit.{Work}
use Rattle.abc_outcome.specs.Outcome.{Behind, Outcome}
use Rattle.abc_outcome.specs.Answers.{CameTo}
use Rattle.abc_outcome.specs.declared.answering.Answer.{Answer}
use Rattle.abc_session.specs.Session.{Told, session_from}
use Rattle.abc_session.specs.Told.{AreTold}

-- So many items were served, which led to this work, and so much was said. The reader of the input stands there, and this is left.
pub record Place : Type 0 where
  pub served : ℕ
  pub work : Work
  pub said : List ℕ
  pub reading : Reading
  pub left : List ℕ

-- the place of a session before its first item
abbrev pub start_place : Work → ℕ → Outside → Place
start_place work bound old = record { served = 0; work = work; said = old.said; reading = fresh bound; left = old.left }

-- the place of a session whose reader stands there
abbrev pub place_at : ℕ → Work → Reading → Outside → Place
place_at served work reading now = record { served = served; work = work; said = now.said; reading = reading; left = now.left }

-- whether the input ends before the bound
abbrev pub input_ends : Place → Bool
input_ends place = ends_at place.reading place.left

-- the lines that are still to come
abbrev pub lines_left : Place → List RawLine
lines_left place = lines_at place.reading place.left

-- the session from there on
abbrev pub session_at : Told → Bounds → ℕ → Place → Session Work
session_at types bounds steps place = session_from types bounds steps (input_ends place) (suc place.served) place.work (lines_left place)

-- the type lines of the next so many items are told
abbrev pub AreToldAt : Told → Bounds → ℕ → Place → ℕ → Type 0
AreToldAt types bounds steps place n = AreTold types bounds steps (input_ends place) (suc place.served) place.work (lines_left place) n

-- there are such type lines
pub record AreThere (bounds : Bounds) (steps : ℕ) (place : Place) (n : ℕ) : Type 0 where
  pub types : Told
  pub are_told : AreToldAt types bounds steps place n

-- This is so by the type line of the next item, which is there, or whatever is told.
pub data WithNext (bounds : Bounds) (steps : ℕ) (place : Place) (X : Told → Type 0) : Type 0 where
  by_any : ((types : Told) → X types) → WithNext bounds steps place X
  by_line : AreThere bounds steps place 1 → ((types : Told) → AreToldAt types bounds steps place 1 → X types) → WithNext bounds steps place X

-- A session went on from a place to another: these lines were read, these turns were served, and the replies of all of them were said.
-- Whatever lines may follow, the session over all of them goes on from there. What is told of the items behind is told of those from the first
-- place on, and the other way round.
pub record WentOn (types : Told) (bounds : Bounds) (steps : ℕ) (tells_said : Type 0) (old new : Place) : Type 0 where
  pub lines : List RawLine
  pub turns : List (Turn Work)
  pub were_read : ReadLines old.reading old.left new.reading new.left lines
  pub goes : (ended : Bool) (rest : List RawLine) → MayFollow new.reading new.left ended rest
      → session_from types bounds steps ended (suc old.served) old.work ((old.reading.ahead ++ lines) ++ rest) ≡ after_turns turns (session_from types bounds steps ended (suc new.served) new.work (new.reading.ahead ++ rest))
  pub work_is : new.work ≡ work_after old.work turns
  pub number : new.served ≡ old.served + length turns
  pub said_is : tells_said → new.said ≡ old.said ++ concat (replies_of turns)
  pub told : (n m : ℕ) → old.served + n ≡ new.served + m → AreToldAt types bounds steps new m → AreToldAt types bounds steps old n
  pub told_later : (n m : ℕ) → old.served + n ≡ new.served + m → AreToldAt types bounds steps old n → AreToldAt types bounds steps new m

-- why a session ends: its input was read to the end, which lies before the bound, or an item quits
abbrev pub IsOver : Ending → Place → Type 0
IsOver over place = (place.left ≡ []) × (input_ends place ≡ true)
IsOver quit place = Unit {0}
IsOver waiting place = ⊥

-- A session went on from a place to its end, by these turns, and the replies of all of them were said.
pub record Ended (types : Told) (bounds : Bounds) (steps : ℕ) (tells_said : Type 0) (old new : Place) : Type 0 where
  pub turns : List (Turn Work)
  pub ending : Ending
  pub is : session_at types bounds steps old ≡ after_turns turns (ends ending)
  pub work_is : new.work ≡ work_after old.work turns
  pub said_is : tells_said → new.said ≡ old.said ++ concat (replies_of turns)
  pub is_over : IsOver ending new

-- An item that comes to this outcome was answered at a place, which led to another, and its whole reply was said and counted.
pub record WasServed (outcome : Behind → Outcome) (tells_said : Type 0) (old new : Place) (counted counted_new : Count) (quit : Bool) : Type 0 where
  pub answer : Answer
  pub answered : CameTo outcome old.reading old.left new.reading new.left new.work answer
  pub quits : answer.quit ≡ quit
  pub counts : counted_new ≡ with_reply counted answer.reply
  pub said_is : tells_said → new.said ≡ old.said ++ answer.reply

-- It was answered, and a front of its reply was said, and not all of it.
pub record WasCut (outcome : Behind → Outcome) (old new : Place) : Type 0 where
  pub answer : Answer
  pub answered : CameTo outcome old.reading old.left new.reading new.left new.work answer
  pub count : ℕ
  pub short : count < length answer.reply
  pub said_is : new.said ≡ old.said ++ take count answer.reply

-- with these bytes more taken no further item is served: the session over them waits
abbrev pub WantsInput : Told → Bounds → ℕ → Place → ℕ → Type 0
WantsInput types bounds steps place taken_now =
    (more : ℕ) × (taken_now ≡ place.reading.taken + more) × (more ≤ length place.left)
    × (session_from types bounds steps false (suc place.served) place.work (place.reading.ahead ++ raw_lines false (place.reading.pending ++ take more place.left)) ≡ ends waiting)

-- a read where the session waits, and nothing was said since
abbrev pub AsksInput : Told → Bounds → ℕ → Place → ℕ × ℕ → Type 0
AsksInput types bounds steps place ask = WantsInput types bounds steps place ask.0 × (ask.1 ≡ length place.said)

-- what is counted with the replies of the session from there on
abbrev pub counted_at : Told → Bounds → ℕ → Place → Count → Count
counted_at types bounds steps place counted = counted_from counted (replies (session_at types bounds steps place))
