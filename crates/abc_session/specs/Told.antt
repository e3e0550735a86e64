-- Type lines that are told of the first items of a session, and what is so by them, whatever is told of the items behind.
use Rattle.std.specs.Prelude.{ℕ, zero, suc, Bool, true, false, List, length, nat_lt}
use Rattle.abc_num.specs.declared.lines.Line.{Line}
use Rattle.abc_num.specs.declared.lines.RawLine.{RawLine}
use Rattle.abc_journal.specs.declared.layout.Bounds.{Bounds}
use Rattle.abc_turns.specs.Session.{Next, no_item, not_yet, whole_item, Came, came, wants}
use Rattle.abc_reader.specs.Items.{next_item}
use Rattle.abc_store.specs.Commit.{Work}
use Rattle.abc_outcome.specs.Checks.{IsTypeLineOf}
use Rattle.abc_session.specs.Session.{Told, item_came, lines_of}

-- this is so of the next item and the lines left behind it, if it is whole
abbrev pub IfWhole : Next (List Line) RawLine → (List Line → List RawLine → Type 0) → Type 0
IfWhole no_item P = Unit {0}
IfWhole not_yet P = Unit {0}
IfWhole (whole_item item left) P = P item left

-- this is so of the work after an item and the lines left then, if the session goes on from there
abbrev pub IfGoesOn : Came Work RawLine → (Work → List RawLine → Type 0) → Type 0
IfGoesOn wants P = Unit {0}
IfGoesOn (came reply work left true) P = Unit {0}
IfGoesOn (came reply work left false) P = P work left

-- Of the next so many items of a session, from item k on, the type lines are told, each in the workspace before its item. Where the
-- session has fewer items, of all of them.
abbrev pub AreTold : Told → Bounds → ℕ → Bool → ℕ → Work → List RawLine → ℕ → Type 0
AreTold types bounds steps ended k work lines zero = Unit {0}
AreTold types bounds steps ended k work lines (suc n) =
    IfWhole (next_item ended lines) (λ item left. IsTypeLineOf work.kept item (types k) × IfGoesOn (item_came types bounds steps ended k work item left) (λ v rest. AreTold types bounds steps ended (suc k) v rest n))

-- of the first so many items of the session over an input
abbrev pub AreToldOf : Told → Bounds → ℕ → Work → List ℕ → ℕ → Type 0
AreToldOf types bounds steps start input n = AreTold types bounds steps (nat_lt (length input) bounds.input) 1 start (lines_of bounds.input input) n

-- There are type lines of some first items of the session over an input, and this is so by all such type lines, whatever is told of the
-- items behind. Two such facts hold together, by the type lines of more items.
pub record WithTold (bounds : Bounds) (steps : ℕ) (start : Work) (input : List ℕ) (X : Told → Type 0) : Type 0 where
  pub items : ℕ
  pub types : Told
  pub are_told : AreToldOf types bounds steps start input items
  pub so : (told : Told) → AreToldOf told bounds steps start input items → X told
