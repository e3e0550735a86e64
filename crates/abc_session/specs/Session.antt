-- What comes of each item, and the session over an input.
use Rattle.std.specs.Prelude.{◌≡◌, ◌<◌, ℕ, Bool, false, List, length, take, nat_lt, Option}
use Rattle.abc_num.specs.Lines.{raw_lines}
use Rattle.abc_num.specs.declared.lines.Line.{Line}
use Rattle.abc_num.specs.declared.lines.RawLine.{RawLine}
use Rattle.abc_journal.specs.declared.layout.Bounds.{Bounds}
use Rattle.abc_turns.specs.Session.{Came, came, Session, session}
use Rattle.abc_turns.specs.Steady.{IsSteady}
use Rattle.abc_reader.specs.Items.{next_item}
use Rattle.abc_store.specs.Commit.{Work}
use Rattle.abc_outcome.specs.Outcome.{Behind, Outcome}
use Rattle.abc_outcome.specs.Outcome as item

-- what is told of each item, by its number: its type line, if it has one
abbrev pub Told : Type 0
Told = ℕ → Option ℕ

-- what comes of item k, by what is told of it, by its lines and by what stands behind it, with the steps that it may take
abbrev pub outcome : Told → Bounds → ℕ → ℕ → Work → List Line → Behind → Outcome
outcome types bounds steps k work lines behind = item.outcome (types k) bounds steps k work lines behind

-- it may take lines of those that are left behind it
abbrev pub item_came : Told → Bounds → ℕ → Bool → ℕ → Work → List Line → List RawLine → Came Work RawLine
item_came types bounds steps ended k work lines left = outcome types bounds steps k work lines (record { lines = left; ends = ended })

-- the session from item k on over these lines, behind which the input ends or goes on
abbrev pub session_from : Told → Bounds → ℕ → Bool → ℕ → Work → List RawLine → Session Work
session_from types bounds steps ended k work lines = session next_item (item_came types bounds steps) ended k work lines

-- The lines of an input. An input as long as the bound, or longer, is cut there and has no end.
abbrev pub lines_of : ℕ → List ℕ → List RawLine
lines_of bound input = raw_lines (nat_lt (length input) bound) (take bound input)

-- The session over an input. One as long as the bound on it, or longer, is cut there and has no end.
abbrev pub session_of : Told → Bounds → ℕ → Work → List ℕ → Session Work
session_of types bounds steps start input = session_from types bounds steps (nat_lt (length input) bounds.input) 1 start (lines_of bounds.input input)

-- the session over the first bytes of an input that goes on
abbrev pub front_session : Told → Bounds → ℕ → Work → List ℕ → Session Work
front_session types bounds steps start bytes = session_from types bounds steps false 1 start (raw_lines false bytes)

-- the items are steady, so all laws of sessions hold
abbrev pub ItemsAreSteady : Type 0
ItemsAreSteady = (types : Told) (bounds : Bounds) (steps : ℕ) → IsSteady next_item (item_came types bounds steps)

-- no reply is empty
abbrev pub NoReplyIsEmpty : Type 0
NoReplyIsEmpty = (types : Told) (bounds : Bounds) (steps k : ℕ) (work later : Work) (lines : List Line) (behind : Behind) (reply : List ℕ) (left : List RawLine) (quits : Bool)
    → outcome types bounds steps k work lines behind ≡ came reply later left quits → 0 < length reply
