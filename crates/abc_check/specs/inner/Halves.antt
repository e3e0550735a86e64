-- What tests of a command or a unit on its first lines tell of its type line.
use Rattle.std.specs.Prelude.{ℕ, ◌≤◌, ◌↔◌, Bool, List, IsTrue}
use Rattle.abc_tree.specs.declared.commands.Command.{Command}
use Rattle.abc_tree.specs.declared.commands.Unit.{Unit as Routine}
use Rattle.abc_ground.specs.Groups.{Cut, with_cut}
use Rattle.abc_ground.specs.Typable.{Values, IsTypable, IsTypableWith, IsTypeLine}
use Rattle.abc_check.specs.declared.types.UnitTypes.{UnitTypes}
use Rattle.abc_check.specs.Cuts.{AllAreSpelled}
use Rattle.abc_check.specs.Standing.{CallsAreSpelled, KnowsTypes}

-- this is the answer for the lines of a command up to n
abbrev pub Tells : UnitTypes → Command → ℕ → Bool → Type 0
Tells types c n answer = (values : Values) (w : List Cut) → KnowsTypes types values w → CallsAreSpelled w c → (IsTrue answer ↔ IsTypableWith values w c n)

-- where it is typable up to one line, if that is one, and not up to another, this is the type line
abbrev pub IsBetween : (ℕ → Type 0) → ℕ → ℕ → ℕ → Type 0
IsBetween typable taken refused line = (1 ≤ taken → typable taken) → (typable refused → ⊥) → IsTypeLine typable line

-- of a command
abbrev pub IsCommandBetween : UnitTypes → Command → ℕ → ℕ → ℕ → Type 0
IsCommandBetween types c taken refused line =
    (values : Values) (w : List Cut) → KnowsTypes types values w → CallsAreSpelled w c → IsBetween (λ n. IsTypableWith values w c n) taken refused line

-- of a unit that takes its place among these
abbrev pub IsUnitBetween : Values → Routine → List Routine → ℕ → ℕ → ℕ → Type 0
IsUnitBetween values unit units taken refused line = AllAreSpelled unit units → 1 ≤ refused → IsBetween (λ n. IsTypable values (with_cut unit n units)) taken refused line
