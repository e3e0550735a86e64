-- The items of a session: lines of the input, by the rules of abc_layout.
use Rattle.std.specs.Prelude.{◌≡◌, ℕ, Bool, List}
use Rattle.abc_num.specs.declared.lines.Line.{Line}
use Rattle.abc_num.specs.declared.lines.RawLine.{RawLine}
use Rattle.abc_layout.specs.Items as layout
use Rattle.abc_turns.specs.Session.{Next, no_item, not_yet, whole_item, Came, came}
use Rattle.abc_turns.specs.Steady.{IsSteady}

-- the next item, as a session speaks of it
abbrev pub as_next : layout.Next → Next (List Line) RawLine
as_next layout.over = no_item
as_next layout.not_yet = not_yet
as_next (layout.whole item left) = whole_item item left

-- the next item of some lines, behind which the input ends or goes on
abbrev pub next_item : Bool → List RawLine → Next (List Line) RawLine
next_item ended lines = as_next (layout.next ended lines)

-- what comes of an item: its reply, the work after it, and whether it quits
pub record Outcome (W : Type 0) : Type 0 where
  pub reply : List ℕ
  pub work : W
  pub quits : Bool

-- what comes of item k, which takes no line but its own
abbrev pub came_of : {W : Type 0} → (ℕ → W → List Line → Outcome W) → Bool → ℕ → W → List Line → List RawLine → Came W RawLine
came_of outcome ended k work item left = came (outcome k work item).reply (outcome k work item).work left (outcome k work item).quits

-- Whatever comes of them, the items of an input are steady: what is so of some lines stays so whatever lines follow, and none is waited for at
-- the end of the input.
abbrev pub AreSteady : (W : Type 0) → Type 0
AreSteady W = (outcome : ℕ → W → List Line → Outcome W) → IsSteady next_item (came_of outcome)
