-- What the calls that answer an item leave, with what it comes to.
use Rattle.std.specs.Prelude.{◌≡◌, ◌⊎◌, ◌≤◌, ℕ, ◌+◌, Bool, true, false, List, ◌++◌, length, take, IfOk, OnOk, IsErrOf, IsTrue, Result}
use Rattle.abc_num.specs.Lines.{raw_lines}
use Rattle.abc_num.specs.declared.lines.RawLine.{RawLine}
use Rattle.abc_outside.specs.Outside.{Outside, RoseByOne, IsFaultless}
use Rattle.abc_outside.specs.Stop.{Leaves, IsQuiet}
use Rattle.abc_turns.specs.Session.{came, wants}
use Rattle.abc_turns.specs.Stops.{IsInCommit}
use Rattle.abc_reader.specs.Asking.{Asked, AskedRising, next_ask}
use Rattle.abc_reader.specs.Reading.{Reading, ends_at, lines_at, MayFollow, ReadLines, StandsAt}
use Rattle.abc_store.specs.Commit.{Work, Holds}
use Rattle.abc_store.specs.Opening.{OpensTo}
use Rattle.abc_store.specs.View.{View, work_of}
use Rattle.abc_outcome.specs.declared.answering.Answer.{Answer}
use Rattle.abc_outcome.specs.declared.answering.AnswerFault.{AnswerFault}
use Rattle.abc_outcome.specs.declared.answering.AnswerFault.TheVariants.{Input, Long, StoreFault, Memory}
use Rattle.abc_outcome.specs.Outcome.{Behind, Outcome}
use Rattle.abc_outcome.specs.Answers.{CameTo, WantsInside, AsksInside, ReadsInside, OpensToWork, work_in, behind_at}

-- An item that comes to this outcome, by what stands behind it, was answered, from one host, reader and store to others.
pub record Answers {H : Type 0} (tells_image tells_input tells_said : Type 0) (now : H → Outside) (clock : H → ℕ) (stopped : H → ℕ → List ℕ → List ℕ → Type 0)
    (before after : View) (reading reading_new : Reading) (old new : H) (result : Result Answer AnswerFault) (outcome : Behind → Outcome) : Type 0 where
  -- after Ok the answer, the store and the lines left are the item's outcome, and the image holds it
  pub came : tells_input → IfOk result (CameTo outcome reading (now old).left reading_new (now new).left (work_of after))
  pub holds : tells_image → OnOk result (Holds (now new).image (work_of after))
  pub sound : OnOk result (IsTrue after.sound)
  pub faultless : OnOk result (IsFaultless (now old) (now new))
  -- a call on the store failed: then it isn't sound any more
  pub fault : IsErrOf result StoreFault → RoseByOne (now old).store_faults (now new).store_faults
  pub unsound : IsErrOf result StoreFault → after.sound ≡ false
  -- the input failed, or is too long, while the item wants a line
  pub input : IsErrOf result Input → RoseByOne (now old).input_faults (now new).input_faults
  pub long : IsErrOf result Long → reading_new.taken ≡ reading_new.bound
  pub waits : tells_input → (IsErrOf result Input ⊎ IsErrOf result Long) → WantsInside outcome reading (now old).left reading_new.taken
  pub ended_ends : reading.ended ≡ true → (IsErrOf result Input ⊎ IsErrOf result Long) → ⊥
  -- where nothing was kept and nothing failed in the store, the store is as before, and so are the image and all that a stop may leave
  pub same : (IsErrOf result Memory ⊎ IsErrOf result Input ⊎ IsErrOf result Long) → after ≡ before
  pub same_image : (IsErrOf result Memory ⊎ IsErrOf result Input ⊎ IsErrOf result Long) → (now new).image ≡ (now old).image
  pub idle : (IsErrOf result Memory ⊎ IsErrOf result Input ⊎ IsErrOf result Long) → (c s : List ℕ) → stopped new (clock new) c s → stopped old (clock old) c s
  -- each count of faults is as before but where its own fault is answered
  pub other_input : (IsErrOf result Input → ⊥) → (now new).input_faults ≡ (now old).input_faults
  pub other_store : (IsErrOf result StoreFault → ⊥) → (now new).store_faults ≡ (now old).store_faults
  pub no_input_falls : (now old).input_faults ≤ (now new).input_faults
  pub no_store_falls : (now old).store_faults ≤ (now new).store_faults
  pub sink : (now new).sink_faults ≡ (now old).sink_faults
  -- whatever the answer
  pub bounds : after.bounds ≡ before.bounds
  pub chosen : (now new).chosen ≡ (now old).chosen
  pub said : (now new).said ≡ (now old).said
  pub reads : ReadsInside tells_input tells_said reading reading_new (now old) (now new)
  pub asked : tells_said → tells_input → Asked (AsksInside outcome reading (now old).left (length (now old).said)) (now old).asked (now new).asked
  -- at every moment of the call, and at its end
  pub stops : tells_image → tells_input → IsQuiet clock stopped old (now old).image
      → Leaves clock stopped old new (IsInCommit OpensToWork (work_of before) (work_in (work_of before) (outcome (behind_at reading (now old).left))) (now old).said)
  pub quiet : tells_image → IsQuiet clock stopped old (now old).image → OnOk result (IsQuiet clock stopped new (now new).image)

-- whatever the item comes to, it was answered so
abbrev pub IsAnswered : {H : Type 0} (tells_image tells_input tells_said : Type 0) (now : H → Outside) (clock : H → ℕ) (stopped : H → ℕ → List ℕ → List ℕ → Type 0)
    (before after : View) (reading reading_new : Reading) (old new : H) (result : Result Answer AnswerFault) → Type 0
IsAnswered tells_image tells_input tells_said now clock stopped before after reading reading_new old new result =
    (outcome : Behind → Outcome) × Answers tells_image tells_input tells_said now clock stopped before after reading reading_new old new result outcome
