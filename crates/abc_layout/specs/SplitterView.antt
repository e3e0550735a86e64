-- What a splitter holds, and what its calls do, in the words of items.
use Rattle.std.specs.Prelude.{◌≡◌, Bool, true, false, List, [], ◌∷◌, ◌++◌, take, Option, Some, None, if◌then◌else◌}
use Rattle.abc_num.specs.declared.lines.Line.{Line}
use Rattle.abc_layout.specs.declared.splitter.Fed.{Fed}
use Rattle.abc_layout.specs.declared.splitter.Fed.TheVariants as fed
use Rattle.abc_num.specs.declared.lines.RawLine.{RawLine}
use Rattle.abc_layout.specs.Items.{line_of, is_blank, is_unit, opens, most_kept, over, not_yet, whole, next}

-- an open item: whether it is a unit, and the lines that it keeps; without lines there is none
pub record Open : Type 0 where
  pub unit : Bool
  pub lines : List Line

-- the lines that aren't blank, as an item keeps them
abbrev pub kept : List RawLine → List Line
kept [] = []
kept (line ∷ lines) = if is_blank line then kept lines else line_of line ∷ kept lines

-- what is held after these lines, of which no item is whole yet
abbrev pub held : List RawLine → Open
held [] = record { unit = false; lines = [] }
held (line ∷ lines) = if is_blank line then held lines else record { unit = is_unit line; lines = take most_kept (line_of line ∷ kept lines) }

-- the splitter holds these lines, of which no item is whole yet
pub record Holds (s : Open) (lines : List RawLine) : Type 0 where
  pub shown_as : s ≡ held lines
  pub open_still : next false lines ≡ not_yet

-- A line was fed behind those that are held. It was taken and nothing is whole; or it was taken and its item is whole,
-- whatever lines follow and whether the input ends; or the item before it is whole, and the line is left.
abbrev pub Feeds : List RawLine → RawLine → Open → Fed → Type 0
Feeds lines line new fed.More = Holds new (lines ++ line ∷ [])
Feeds lines line new (fed.Whole item) = ((ended : Bool) (more : List RawLine) → next ended (lines ++ line ∷ more) ≡ whole item more) × Holds new []
Feeds lines line new (fed.Before item) = ((ended : Bool) (more : List RawLine) → next ended (lines ++ line ∷ more) ≡ whole item (line ∷ more)) × Holds new []

-- the first line of an item was taken: the item is open, or the line is all
abbrev pub Begins : RawLine → Open → Open → Fed → Type 0
Begins line old new fed.More = (opens line ≡ true) × (new ≡ record { unit = is_unit line; lines = old.lines ++ line_of line ∷ [] })
Begins line old new (fed.Whole item) = (opens line ≡ false) × (item ≡ line_of line ∷ []) × (new ≡ old)
Begins line old new (fed.Before item) = ⊥

-- a line that belongs to the open item was taken
abbrev pub GoesOn : RawLine → Open → Open → Fed → Type 0
GoesOn line old new fed.More = new ≡ record { unit = old.unit; lines = take most_kept (old.lines ++ line_of line ∷ []) }
GoesOn line old new (fed.Whole item) = ⊥
GoesOn line old new (fed.Before item) = ⊥

-- the input ended behind the lines that are held
abbrev pub Finishes : List RawLine → Option (List Line) → Type 0
Finishes lines None = next true lines ≡ over
Finishes lines (Some item) = next true lines ≡ whole item []
