-- What holds of each part of a run, whatever it runs.
use Rattle.std.specs.Prelude.{◌≡◌, ◌≤◌, ℕ, Bool, true, false, List, [], ◌∷◌, ◌++◌, is_some}
use Rattle.std.specs.List.{AllByRecursion}
use Rattle.abc_num.specs.declared.lines.RawLine.{RawLine}
use Rattle.abc_tree.specs.RegularItems.{parts_of, lines_of, is_among}
use Rattle.abc_tree.specs.declared.formulas.Expr.{Expr}
use Rattle.abc_tree.specs.declared.formulas.Test.{Test}
use Rattle.abc_tree.specs.declared.commands.Action.{Action}
use Rattle.abc_tree.specs.declared.commands.Command.{Command}
use Rattle.abc_tree.specs.declared.commands.Unit.{Unit as Routine}
use Rattle.abc_frames.specs.Maps.{Targets, AreRising, IsRising}
use Rattle.abc_meaning.specs.State.{Formal, State, Stop, wants, Got, gives, stops, Run}
use Rattle.abc_meaning.specs.Here.{Here, Scope, in_command, in_unit}
use Rattle.abc_meaning.specs.Deeper.{Deeper}
use Rattle.abc_meaning.specs.Meaning.{meaning}
use Rattle.abc_meaning.specs.Ran.{Outcome, stopped, ran}

-- the state at the end of a part of a run
abbrev pub end_of : {A : Type 0} → Got A → State
end_of (gives a s) = s
end_of (stops line stop s) = s

-- the state at the end of each node is so related to the state before it
pub record EachKeeps (R : State → State → Type 0) (deep : Deeper) : Type 0 where
  pub value : (here : Here) (e : Expr) (s : State) → R s (end_of (deep.value here e s))
  pub actual : (here : Here) (e : Expr) (s : State) → R s (end_of (deep.actual here e s))
  pub holds : (here : Here) (t : Test) (s : State) → R s (end_of (deep.holds here t s))
  pub turn : (here : Here) (t : Test) (s : State) → R s (end_of (deep.turn here t s))
  pub acts : (here : Here) (a : Action) (s : State) → R s (end_of (deep.acts here a s))

-- the steps left never rise
abbrev pub HasNoMoreSteps : State → State → Type 0
HasNoMoreSteps s t = t.left ≤ s.left

abbrev pub StepsNeverRise : Type 0
StepsNeverRise = (units : List Routine) (levels : ℕ) → EachKeeps HasNoMoreSteps (meaning units levels)

-- output only grows, behind what was there
pub record HasMoreOutput (s t : State) : Type 0 where
  pub more : List ℕ
  pub behind : t.output ≡ s.output ++ more

abbrev pub OutputGrows : Type 0
OutputGrows = (units : List Routine) (levels : ℕ) → EachKeeps HasMoreOutput (meaning units levels)

-- the lines left are an end of those before, and what is known of the end of the input stays
pub record HasFewerLines (s t : State) : Type 0 where
  pub taken : List RawLine
  pub rest : s.lines ≡ taken ++ t.lines
  pub ended : t.ended ≡ s.ended

abbrev pub LinesAreTaken : Type 0
LinesAreTaken = (units : List Routine) (levels : ℕ) → EachKeeps HasFewerLines (meaning units levels)

-- the targets are in the order of their names, and the names of the call in that of their numbers, so none stands twice
pub record IsInOrder (s : State) : Type 0 where
  pub targets : AreRising s.targets
  pub names : IsRising s.names

abbrev pub StaysInOrder : State → State → Type 0
StaysInOrder s t = IsInOrder s → IsInOrder t

abbrev pub NamesStayInOrder : Type 0
NamesStayInOrder = (units : List Routine) (levels : ℕ) → EachKeeps StaysInOrder (meaning units levels)

-- a formal counts as changed only where it has an address
abbrev pub HasPlace : Formal → Type 0
HasPlace f = f.changed ≡ true → is_some f.address ≡ true

abbrev pub StaysInPlace : State → State → Type 0
StaysInPlace s t = AllByRecursion HasPlace s.formals → AllByRecursion HasPlace t.formals

abbrev pub OnlyPlacesAreMarked : Type 0
OnlyPlacesAreMarked = (units : List Routine) (levels : ℕ) → EachKeeps StaysInPlace (meaning units levels)

-- the same state with more lines behind those left, where the input may end behind them
abbrev pub longer : List RawLine → Bool → State → State
longer more ended s = record s { lines = s.lines ++ more; ended = ended }

abbrev pub longer_end : {A : Type 0} → List RawLine → Bool → Got A → Got A
longer_end more ended (gives a s) = gives a (longer more ended s)
longer_end more ended (stops line stop s) = stops line stop (longer more ended s)

-- whether it stopped since it wants a line
abbrev pub is_wanting : Stop → Bool
is_wanting wants = true
is_wanting _ = false

abbrev pub wants_line : {A : Type 0} → Got A → Bool
wants_line (gives a s) = false
wants_line (stops line stop s) = is_wanting stop

-- Where the input may go on behind the lines left, and none is wanted, the run is the same with more lines, and leaves these too.
abbrev pub IsSameWithMore : {A : Type 0} → Run A → Type 0
IsSameWithMore run =
    (more : List RawLine) (ended : Bool) (s : State) → s.ended ≡ false → wants_line (run s) ≡ false → run (longer more ended s) ≡ longer_end more ended (run s)

pub record EachIsSame (deep : Deeper) : Type 0 where
  pub value : (here : Here) (e : Expr) → IsSameWithMore (deep.value here e)
  pub actual : (here : Here) (e : Expr) → IsSameWithMore (deep.actual here e)
  pub holds : (here : Here) (t : Test) → IsSameWithMore (deep.holds here t)
  pub turn : (here : Here) (t : Test) → IsSameWithMore (deep.turn here t)
  pub acts : (here : Here) (a : Action) → IsSameWithMore (deep.acts here a)

abbrev pub MoreLinesChangeNothing : Type 0
MoreLinesChangeNothing = (units : List Routine) (levels : ℕ) → EachIsSame (meaning units levels)

-- Where the input ends behind the lines left, no line is wanted that isn't there.
abbrev pub WantsNone : {A : Type 0} → Run A → Type 0
WantsNone run = (s : State) → s.ended ≡ true → wants_line (run s) ≡ false

pub record EachWantsNone (deep : Deeper) : Type 0 where
  pub value : (here : Here) (e : Expr) → WantsNone (deep.value here e)
  pub actual : (here : Here) (e : Expr) → WantsNone (deep.actual here e)
  pub holds : (here : Here) (t : Test) → WantsNone (deep.holds here t)
  pub turn : (here : Here) (t : Test) → WantsNone (deep.turn here t)
  pub acts : (here : Here) (a : Action) → WantsNone (deep.acts here a)

abbrev pub NoneIsWantedAtTheEnd : Type 0
NoneIsWantedAtTheEnd = (units : List Routine) (levels : ℕ) → EachWantsNone (meaning units levels)

-- the same of an immediate command
abbrev pub wants_more : Outcome → Bool
wants_more (stopped line stop) = is_wanting stop
wants_more _ = false

abbrev pub CommandIsSameWithMore : Type 0
CommandIsSameWithMore =
    (units : List Routine) (deepest : ℕ) (c : Command) (targets : Targets) (lines more : List RawLine) (ended : Bool) (budget : ℕ)
    → wants_more (ran units deepest c targets lines false budget).outcome ≡ false
    → ran units deepest c targets (lines ++ more) ended budget
    ≡ record (ran units deepest c targets lines false budget) { lines = (ran units deepest c targets lines false budget).lines ++ more }

abbrev pub CommandWantsNone : Type 0
CommandWantsNone =
    (units : List Routine) (deepest : ℕ) (c : Command) (targets : Targets) (lines : List RawLine) (budget : ℕ) → wants_more (ran units deepest c targets lines true budget).outcome ≡ false

-- the lines of a command: its own, and those of the commands and alternatives in it
abbrev pub lines_in : Action → List ℕ
lines_in a = lines_of (parts_of a)

-- The lines that a command may tell where it stops: that of its place, and in an immediate command its own. In a unit it is the line
-- of the call.
abbrev pub told_by : Scope → ℕ → Action → List ℕ
told_by (in_command c) line a = line ∷ lines_in a
told_by (in_unit u) line a = line ∷ []

-- where a part of a run stops, it tells this line
abbrev pub StopsAt : {A : Type 0} → ℕ → Got A → Type 0
StopsAt n (gives a s) = Unit {0}
StopsAt n (stops line stop s) = line ≡ n

-- or one of these lines
abbrev pub StopsAmong : {A : Type 0} → List ℕ → Got A → Type 0
StopsAmong lines (gives a s) = Unit {0}
StopsAmong lines (stops line stop s) = is_among lines line ≡ true

pub record EachTellsItsLine (deep : Deeper) : Type 0 where
  pub value : (here : Here) (e : Expr) (s : State) → StopsAt here.line (deep.value here e s)
  pub actual : (here : Here) (e : Expr) (s : State) → StopsAt here.line (deep.actual here e s)
  pub holds : (here : Here) (t : Test) (s : State) → StopsAt here.line (deep.holds here t s)
  pub turn : (here : Here) (t : Test) (s : State) → StopsAt here.line (deep.turn here t s)
  pub acts : (here : Here) (a : Action) (s : State) → StopsAmong (told_by here.scope here.line a) (deep.acts here a s)

abbrev pub StopsTellTheirLine : Type 0
StopsTellTheirLine = (units : List Routine) (levels : ℕ) → EachTellsItsLine (meaning units levels)

-- an immediate command that stops tells one of its own lines
abbrev pub CommandTellsItsLine : Type 0
CommandTellsItsLine =
    (units : List Routine) (deepest : ℕ) (c : Command) (targets : Targets) (lines : List RawLine) (ended : Bool) (budget : ℕ) (line : ℕ) (stop : Stop)
    → (ran units deepest c targets lines ended budget).outcome ≡ stopped line stop → is_among (lines_in c.action) line ≡ true
