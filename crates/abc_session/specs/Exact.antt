-- The session by a check that tells exactly the type lines.
use Rattle.std.specs.Prelude.{◌≡◌, ◌≤◌, ℕ, Bool, false, List, length, take, nat_lt}
use Rattle.abc_num.specs.Lines.{raw_lines}
use Rattle.abc_num.specs.declared.lines.Line.{Line}
use Rattle.abc_num.specs.declared.lines.RawLine.{RawLine}
use Rattle.abc_journal.specs.declared.layout.Bounds.{Bounds}
use Rattle.abc_turns.specs.Session.{Came, Session, session}
use Rattle.abc_reader.specs.Items.{next_item}
use Rattle.abc_store.specs.Commit.{Work}
use Rattle.abc_outcome.specs.Checks.{Check, IsExact}
use Rattle.abc_outcome.specs.Outcome as item
use Rattle.abc_session.specs.Session.{Told, lines_of, session_of, front_session}
use Rattle.abc_session.specs.Told.{AreToldOf}

-- what comes of an item, by what a check tells of its lines in the workspace before it
abbrev pub checked_came : Check → Bounds → ℕ → Bool → ℕ → Work → List Line → List RawLine → Came Work RawLine
checked_came check bounds steps ended k work lines left = item.outcome (check work.kept lines) bounds steps k work lines (record { lines = left; ends = ended })

-- the session from item k on over these lines, by that check
abbrev pub checked_from : Check → Bounds → ℕ → Bool → ℕ → Work → List RawLine → Session Work
checked_from check bounds steps ended k work lines = session next_item (checked_came check bounds steps) ended k work lines

-- the session over an input, and that over the first bytes of an input that goes on
abbrev pub checked_session : Check → Bounds → ℕ → Work → List ℕ → Session Work
checked_session check bounds steps start input = checked_from check bounds steps (nat_lt (length input) bounds.input) 1 start (lines_of bounds.input input)

abbrev pub checked_front : Check → Bounds → ℕ → Work → List ℕ → Session Work
checked_front check bounds steps start bytes = checked_from check bounds steps false 1 start (raw_lines false bytes)

-- These are type lines of the first so many items, and by them the session is that of the check, over the input and over its first bytes.
pub record IsChecked (check : Check) (bounds : Bounds) (steps : ℕ) (start : Work) (input : List ℕ) (items : ℕ) (types : Told) : Type 0 where
  pub are_told : AreToldOf types bounds steps start input items
  pub session_is : session_of types bounds steps start input ≡ checked_session check bounds steps start input
  pub front_is : (n : ℕ) → n ≤ bounds.input → front_session types bounds steps start (take n input) ≡ checked_front check bounds steps start (take n input)

-- For an exact check there are such type lines, of as many items as one likes. So what is so of a session by its type lines is so of the
-- session by the check.
abbrev pub ExactChecksTell : Type 0
ExactChecksTell =
    (check : Check) → IsExact check → (bounds : Bounds) (steps : ℕ) (start : Work) (input : List ℕ) (items : ℕ) → (types : Told) × IsChecked check bounds steps start input items types
