-- What a run answers.
use Rattle.std.specs.Prelude.{◌≡◌, ◌⊎◌, ◌≤◌, ◌<◌, ℕ, suc, List, [], ◌∷◌, ◌++◌, length, take, Option, None, Some, Ok, Err}
use Rattle.abc_num.specs.declared.limits.TheConstants.{DEFAULT_STEPS}
use Rattle.abc_words.specs.Words.{Asked as Request, on_store, on_made, reading}
use Rattle.abc_outside.specs.Outside.{Outside, Rose, RoseByOne, IsFaultless, KeepsButSaid}
use Rattle.abc_outside.specs.Stop.{Now}
use Rattle.abc_journal.specs.declared.layout.Bounds.{Bounds}
use Rattle.abc_journal.specs.Image.{layout_of}
use Rattle.abc_make.specs.Input.{made_input}
use Rattle.abc_make.specs.Summary.{counted, summary}
use Rattle.abc_turns.specs.Session.{Ending, over, quit, waiting, replies, output, works, last_work}
use Rattle.abc_turns.specs.Stops.{IsBetween, IsBroken, IsCutShort}
use Rattle.abc_reader.specs.Asking.{Asked, AskedRising}
use Rattle.abc_store.specs.Workspace.{Workspace}
use Rattle.abc_store.specs.Opening.{Opens}
use Rattle.abc_store.specs.Commit.{Work, Holds}
use Rattle.abc_session.specs.Product.{product_bounds}
use Rattle.abc_session.specs.Session.{Told, session_of}
use Rattle.abc_session.specs.Told.{WithTold}
use Rattle.abc_session.specs.Settled.{AsksSettled, IsWaiting}
use Rattle.abc_session.specs.Serving.{OpensTo, IsSessionPoint, IsStill, NoneFell, OnlyInputFailed, OnlyStoreFailed, OnlySinkFailed}
use Rattle.abc_session.specs.declared.status.TheConstants.{COMPLETE, USAGE, INPUT_FAULT, STORE_FAULT, SINK_FAULT, NOT_A_STORE, MEMORY, INPUT_TOO_LONG}

-- the store that is asked for, and the file of its input if one is
abbrev pub store_in : Option Request → Option (List ℕ × Option (List ℕ))
store_in (Some (on_store store input steps)) = Some (store, input)
store_in _ = None

-- the steps that an item may take
abbrev pub steps_in : Option Request → ℕ
steps_in (Some (on_store store input steps)) = steps
steps_in (Some (on_made count steps)) = steps
steps_in None = DEFAULT_STEPS

-- how many values the made input puts that is asked for
abbrev pub made_in : Option Request → Option ℕ
made_in (Some (on_made count steps)) = Some count
made_in _ = None

-- the store and the file of its input, the made input, and the steps that the words name
abbrev pub store_named : List (List ℕ) → Option (List ℕ × Option (List ℕ))
store_named words = store_in (reading words)

abbrev pub made_named : List (List ℕ) → Option ℕ
made_named words = made_in (reading words)

abbrev pub steps_named : List (List ℕ) → ℕ
steps_named words = steps_in (reading words)

-- the work that a session starts with: what the image opens to, with the layout of the image as it is then settled
pub record IsStart (image : List ℕ) (work : Work) : Type 0 where
  pub kept : OpensTo image work
  pub layout : layout_of image ≡ Ok work.layout

-- A session ended: its lines are over, and the input was read to its end, which lies before the bound; or an item quit.
abbrev pub HasEnded : Ending → ℕ → Outside → Outside → Type 0
HasEnded over bound old new = (new.left ≡ []) × (length old.left < bound)
HasEnded quit bound old new = Unit {0}
HasEnded waiting bound old new = ⊥

-- By these type lines the session was complete: its whole output was said, the image holds the last work, and the session ended.
pub record IsWhole (types : Told) (bounds : Bounds) (steps : ℕ) (start : Work) (old new : Outside) : Type 0 where
  pub said : new.said ≡ old.said ++ output (session_of types bounds steps start old.left)
  pub holds : Holds new.image (last_work start (session_of types bounds steps start old.left))
  pub ended : HasEnded (session_of types bounds steps start old.left).ending bounds.input old new

-- A complete run: it started with what the image opens to, and its session was complete.
pub record IsComplete (bounds : Bounds) (steps : ℕ) (old new : Outside) : Type 0 where
  pub start : Work
  pub is_start : IsStart old.image start
  pub whole : WithTold bounds steps start old.left (λ types. IsWhole types bounds steps start old new)

-- the image, the input, what was said and what was asked are as before
pub record IsUntouched (old new : Outside) : Type 0 where
  pub image : new.image ≡ old.image
  pub left : new.left ≡ old.left
  pub said : new.said ≡ old.said
  pub asked : new.asked ≡ old.asked

-- one choice more: this store, and this file or standard input
abbrev pub chose : List ℕ × Option (List ℕ) → List (List ℕ × Option (List ℕ)) → List (List ℕ × Option (List ℕ))
chose named chosen = chosen ++ named ∷ []

-- one of the statuses of a run on a store
abbrev pub IsRunStatus : ℕ → Type 0
IsRunStatus status = (status ≡ COMPLETE) ⊎ (status ≡ INPUT_FAULT) ⊎ (status ≡ STORE_FAULT) ⊎ (status ≡ SINK_FAULT) ⊎ (status ≡ NOT_A_STORE) ⊎ (status ≡ MEMORY) ⊎ (status ≡ INPUT_TOO_LONG)

-- one of the statuses of a run
abbrev pub IsStatus : ℕ → Type 0
IsStatus status = (status ≡ USAGE) ⊎ IsRunStatus status

-- no count of faults rose, and none stands at its last value
pub record NoneRose (old new : Outside) : Type 0 where
  pub input_faults : Rose old.input_faults new.input_faults → ⊥
  pub store_faults : Rose old.store_faults new.store_faults → ⊥
  pub sink_faults : Rose old.sink_faults new.sink_faults → ⊥

-- Each status has its cause: at a fault of the input, the store or the sink exactly one call failed, and it was one of that kind;
-- at the others none did.
pub record HasCause (tells_image tells_input : Type 0) (bounds : Bounds) (old new : Outside) (status : ℕ) : Type 0 where
  pub input_fault : status ≡ INPUT_FAULT → RoseByOne old.input_faults new.input_faults
  pub store_fault : status ≡ STORE_FAULT → RoseByOne old.store_faults new.store_faults
  pub sink_fault : status ≡ SINK_FAULT → RoseByOne old.sink_faults new.sink_faults
  pub input_alone : status ≡ INPUT_FAULT → OnlyInputFailed old new
  pub store_alone : status ≡ STORE_FAULT → OnlyStoreFailed old new
  pub sink_alone : status ≡ SINK_FAULT → OnlySinkFailed old new
  pub faultless : ((status ≡ COMPLETE) ⊎ (status ≡ NOT_A_STORE) ⊎ (status ≡ MEMORY) ⊎ (status ≡ INPUT_TOO_LONG)) → IsFaultless old new
  pub not_a_store : tells_image → status ≡ NOT_A_STORE → (at : ℕ) × (Opens old.image (Err at))
  pub too_long : status ≡ INPUT_TOO_LONG → new.taken ≡ bounds.input
  pub too_long_input : tells_input → status ≡ INPUT_TOO_LONG → bounds.input ≤ length old.left
  pub none_fell : NoneFell old new

-- The input could not be opened: nothing was taken or said, and a stop now leaves an image that opens to the work of the start.
pub record IsNotBegun (start : Work) (old new : Outside) (now : List ℕ → List ℕ → Type 0) (status : ℕ) : Type 0 where
  pub input_fault : status ≡ INPUT_FAULT
  pub chosen : new.chosen ≡ old.chosen
  pub taken : new.taken ≡ old.taken
  pub said : new.said ≡ old.said
  pub image : (c s : List ℕ) → now c s → OpensTo c start

-- What stands after each status but 0, 2 and 6, of a session that started with this work.
pub record StandsSo (bounds : Bounds) (steps : ℕ) (start : Work) (old new : Outside) (now : List ℕ → List ℕ → Type 0) (status : ℕ) : Type 0 where
  pub waiting : ((status ≡ INPUT_FAULT) ⊎ (status ≡ INPUT_TOO_LONG)) → WithTold bounds steps start old.left (λ types. IsWaiting types bounds steps start old.left old.said new now)
  pub between : status ≡ MEMORY → WithTold bounds steps start old.left (λ types. IsBetween OpensTo (works start (session_of types bounds steps start old.left)) (replies (session_of types bounds steps start old.left)) old.said new.said now)
  pub broken : status ≡ STORE_FAULT → WithTold bounds steps start old.left (λ types. IsBroken OpensTo (works start (session_of types bounds steps start old.left)) (replies (session_of types bounds steps start old.left)) old.said new.said now)
  pub cut_short : status ≡ SINK_FAULT → WithTold bounds steps start old.left (λ types. IsCutShort OpensTo (works start (session_of types bounds steps start old.left)) (replies (session_of types bounds steps start old.left)) old.said new.said now)

-- The line that sums up the session over the made input that puts so many values: it starts with an image without a byte, has the bounds of
-- the product, and an item may take so many steps.
pub record IsSummary (count steps : ℕ) (line : List ℕ) : Type 0 where
  pub start : Work
  pub is_start : IsStart [] start
  pub is : WithTold product_bounds steps start (made_input count) (λ types. line ≡ summary count (counted (replies (session_of types product_bounds steps start (made_input count)))))

-- the whole of it was said
pub record SaidWhole (count steps : ℕ) (said now : List ℕ) : Type 0 where
  pub line : List ℕ
  pub is_summary : IsSummary count steps line
  pub said_is : now ≡ said ++ line

-- so many bytes of it were said, and not all of them
pub record SaidInPart (count steps : ℕ) (said now : List ℕ) : Type 0 where
  pub line : List ℕ
  pub is_summary : IsSummary count steps line
  pub bytes : ℕ
  pub short : bytes < length line
  pub said_is : now ≡ said ++ take bytes line

-- A run on a made input: it says the summary, or a front of it where the sink fails, or nothing for want of memory. The input, the image
-- and what was chosen are as before, and a stop leaves an image that it might have left before.
pub record IsMadeRun {H : Type 0} (tells_said : Type 0) (tell : H → Outside) (clock : H → ℕ) (stopped : H → ℕ → List ℕ → List ℕ → Type 0) (count steps : ℕ) (old new : H) (status : ℕ) : Type 0 where
  pub status_is : (status ≡ COMPLETE) ⊎ (status ≡ SINK_FAULT) ⊎ (status ≡ MEMORY)
  pub whole : tells_said → status ≡ COMPLETE → SaidWhole count steps (tell old).said (tell new).said
  pub in_part : tells_said → status ≡ SINK_FAULT → SaidInPart count steps (tell old).said (tell new).said
  pub nothing : status ≡ MEMORY → new ≡ old
  pub rest : KeepsButSaid (tell old) (tell new)
  pub stops : tells_said → (c s : List ℕ) → stopped new (clock old) c s
      → stopped old (clock old) c (tell old).said × ((s ≡ (tell old).said) ⊎ SaidInPart count steps (tell old).said s ⊎ SaidWhole count steps (tell old).said s)

-- A run with these words, from one state of a host to another, and its status. What the host tells, its clock and its stops are
-- those of the trait Host; IsStill says that nothing is pending when the run begins.
pub record IsRun {H : Type 0} (tells_chosen tells_image tells_input tells_said : Type 0) (tell : H → Outside) (clock : H → ℕ) (stopped : H → ℕ → List ℕ → List ℕ → Type 0)
    (bounds : Bounds) (words : List (List ℕ)) (steps : ℕ) (old new : H) (status : ℕ) : Type 0 where
  -- A complete run.
  pub complete : made_named words ≡ None → tells_image → tells_said → tells_input → status ≡ COMPLETE → IsComplete bounds steps (tell old) (tell new)
  -- When each other status comes. Where the bound on the input is reached, the session waits for more.
  pub status_is : IsStatus status
  pub usage : status ≡ USAGE → reading words ≡ None
  pub unread : reading words ≡ None → (status ≡ USAGE) ⊎ (status ≡ MEMORY)
  pub cause : HasCause tells_image tells_input bounds (tell old) (tell new) status
  pub refused : made_named words ≡ None → tells_image → (at : ℕ) → Opens (tell old).image (Err at) → (status ≡ NOT_A_STORE) ⊎ (status ≡ USAGE) ⊎ (status ≡ INPUT_FAULT) ⊎ (status ≡ STORE_FAULT) ⊎ (status ≡ MEMORY)
  pub waits : tells_image → tells_input → (work : Work) → IsStart (tell old).image work → status ≡ INPUT_TOO_LONG → WithTold bounds steps work (tell old).left (λ types. (session_of types bounds steps work (tell old).left).ending ≡ waiting)
  pub most_taken : ((tell new).taken ≤ bounds.input) ⊎ ((tell new).taken ≡ (tell old).taken)
  pub completeness : tells_image → (kept : Workspace) → Opens (tell old).image (Ok kept) → NoneRose (tell old) (tell new) → (status ≡ COMPLETE) ⊎ (status ≡ USAGE) ⊎ (status ≡ INPUT_TOO_LONG) ⊎ (status ≡ MEMORY)
  -- What stays, and what was chosen.
  pub usage_nothing : status ≡ USAGE → new ≡ old
  pub unread_nothing : reading words ≡ None → new ≡ old
  pub untouched : made_named words ≡ None → tells_image → (at : ℕ) → Opens (tell old).image (Err at) → IsUntouched (tell old) (tell new)
  pub untouched_stops : made_named words ≡ None → tells_image → IsStill clock stopped old (tell old).image → (at : ℕ) → Opens (tell old).image (Err at) → (c s : List ℕ) → stopped new (clock old) c s → (c ≡ (tell old).image) × (s ≡ (tell old).said)
  pub chosen : tells_chosen → (named : List ℕ × Option (List ℕ)) → store_named words ≡ Some named
      → ((tell new).chosen ≡ chose named (tell old).chosen) ⊎ (((tell new).chosen ≡ (tell old).chosen) × ((status ≡ INPUT_FAULT) ⊎ (status ≡ STORE_FAULT) ⊎ (status ≡ MEMORY)))
  pub none_chosen : store_named words ≡ None → (tell new).chosen ≡ (tell old).chosen
  -- What was asked for, and what stands after each status but 0, 2 and 6.
  pub asked : tells_image → tells_said → tells_input → (work : Work) → IsStart (tell old).image work → WithTold bounds steps work (tell old).left (λ types. Asked (AsksSettled types bounds steps work (tell old).left (length (tell old).said)) (tell old).asked (tell new).asked)
  pub asks_rise : tells_said → AskedRising 0 (suc (tell new).taken) (tell old).asked (tell new).asked
  pub stands : made_named words ≡ None → tells_image → tells_said → tells_input → IsStill clock stopped old (tell old).image → (work : Work) → IsStart (tell old).image work
      → IsNotBegun work (tell old) (tell new) (Now clock stopped new) status ⊎ StandsSo bounds steps work (tell old) (tell new) (Now clock stopped new) status
  -- At every moment of the run: what was said is a front of the session's output, and every image that a stop may leave
  -- opens to the workspace after some of the items, which are all of whose reply a byte was said.
  pub headline : made_named words ≡ None → tells_image → tells_said → tells_input → IsStill clock stopped old (tell old).image → (work : Work) → IsStart (tell old).image work
      → WithTold bounds steps work (tell old).left (λ types. (c s : List ℕ) → stopped new (clock old) c s → IsSessionPoint work (session_of types bounds steps work (tell old).left) (tell old).said c s)
  pub last : made_named words ≡ None → tells_image → tells_said → tells_input → IsStill clock stopped old (tell old).image → status ≡ COMPLETE → (work : Work) → IsStart (tell old).image work
      → WithTold bounds steps work (tell old).left (λ types. (c s : List ℕ) → stopped new (clock new) c s → OpensTo c (last_work work (session_of types bounds steps work (tell old).left)))
  -- What is said of a made input.
  pub made : (count : ℕ) → made_named words ≡ Some count → IsMadeRun tells_said tell clock stopped count steps old new status
