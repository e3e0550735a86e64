-- What the bytes that were taken settle.
use Rattle.std.specs.Prelude.{◌≡◌, ℕ, ◌+◌, List, ◌++◌, length, take}
use Rattle.abc_outside.specs.Outside.{Outside}
use Rattle.abc_journal.specs.declared.layout.Bounds.{Bounds}
use Rattle.abc_turns.specs.Session.{waiting, replies, output, works, last_work}
use Rattle.abc_turns.specs.Stops.{IsBetween}
use Rattle.abc_store.specs.Commit.{Work}
use Rattle.abc_session.specs.Session.{Told, session_of, front_session}
use Rattle.abc_session.specs.Serving.{OpensTo}

-- what these bytes settle: the output of the session over the lines that an LF ends
abbrev pub settled : Told → Bounds → ℕ → Work → List ℕ → List ℕ
settled types bounds steps start bytes = output (front_session types bounds steps start bytes)

-- at a read so many bytes had been said as those taken until then settle
abbrev pub AsksSettled : Told → Bounds → ℕ → Work → List ℕ → ℕ → ℕ × ℕ → Type 0
AsksSettled types bounds steps start input spoken ask = ask.1 ≡ spoken + length (settled types bounds steps start (take ask.0 input))

-- A session that waits for input: the bytes taken leave it waiting, so none was taken behind a QUIT; it stands between two items, has
-- said exactly what these bytes settle, and a stop now leaves an image that opens to the workspace that they settle.
pub record IsWaiting (types : Told) (bounds : Bounds) (steps : ℕ) (start : Work) (input said : List ℕ) (new : Outside) (now : List ℕ → List ℕ → Type 0) : Type 0 where
  pub waits : (front_session types bounds steps start (take new.taken input)).ending ≡ waiting
  pub between : IsBetween OpensTo (works start (session_of types bounds steps start input)) (replies (session_of types bounds steps start input)) said new.said now
  pub settled_is : new.said ≡ said ++ settled types bounds steps start (take new.taken input)
  pub image : (c s : List ℕ) → now c s → OpensTo c (last_work start (front_session types bounds steps start (take new.taken input)))
