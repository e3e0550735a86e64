-- All values of a run are values that a program can have, so that what is stored can be spelled.
use Rattle.std.specs.Prelude.{ℕ, ◌≤◌, Bool, List, length, map}
use Rattle.std.specs.List.{AllByRecursion}
use Rattle.std.specs.Option.{IfSome}
use Rattle.abc_num.specs.Lines.{raw_lines}
use Rattle.abc_num.specs.Number.{IsNumber}
use Rattle.abc_num.specs.declared.limits.TheConstants.{MOST_LINE_BYTES}
use Rattle.abc_num.specs.declared.lines.RawLine.{RawLine}
use Rattle.abc_tree.specs.declared.formulas.Expr.{Expr}
use Rattle.abc_tree.specs.declared.formulas.Test.{Test}
use Rattle.abc_tree.specs.declared.commands.Action.{Action}
use Rattle.abc_tree.specs.declared.commands.Command.{Command}
use Rattle.abc_tree.specs.declared.commands.Unit.{Unit as Routine}
use Rattle.abc_value.specs.Tree.{Tree}
use Rattle.abc_value.specs.Regular.{IsRegular}
use Rattle.abc_frames.specs.Maps.{Targets, Frame, AreRegular}
use Rattle.abc_meaning.specs.State.{Step, key, Address, place, several, Addresses, no_addresses, more_addresses, Formal, State, Got, gives, stops, Flow, returns}
use Rattle.abc_meaning.specs.Here.{Here, Scope, in_command, in_unit}
use Rattle.abc_meaning.specs.Deeper.{Deeper, Actual}
use Rattle.abc_meaning.specs.Meaning.{meaning}
use Rattle.abc_meaning.specs.Ran.{ran}
use Rattle.abc_meaning.specs.Written.{Numbers, numbers_in, numbers_in_test, numbers_in_action, numbers_in_unit}

module _ (P : Tree → Type 0) where
  -- the key of a step
  abbrev pub OfStep : Step → Type 0
  OfStep (key k) = P k

  abbrev mutual
    -- each key of an address
    pub OfKeys : Address → Type 0
    OfKeys (place i steps) = AllByRecursion OfStep steps
    OfKeys (several all) = OfAllKeys all

    pub OfAllKeys : Addresses → Type 0
    OfAllKeys no_addresses = Unit {0}
    OfAllKeys (more_addresses a rest) = OfKeys a × OfAllKeys rest

  -- the value that a command left with, if it did
  abbrev pub OfFlow : Flow → Type 0
  OfFlow (returns v) = P v
  OfFlow _ = Unit {0}

  -- the value of an actual, and the keys of its address
  abbrev pub OfActual : Actual → Type 0
  OfActual a = IfSome a.value P × IfSome a.address OfKeys

-- the names of a call have values
abbrev pub AreValues : Frame → Type 0
AreValues names = AllByRecursion IsRegular (map (λ p. p.1) names)

-- the address of a formal has keys that are values
abbrev pub HasKeys : Formal → Type 0
HasKeys f = IfSome f.address (OfKeys IsRegular)

-- no line has more bytes than one may have
abbrev pub IsShort : RawLine → Type 0
IsShort line = length line.bytes ≤ MOST_LINE_BYTES

-- a state in which all values are regular, and no line is too long to be one
pub record HasValues (s : State) : Type 0 where
  pub targets : AreRegular s.targets
  pub names : AreValues s.names
  pub formals : AllByRecursion HasKeys s.formals
  pub lines : AllByRecursion IsShort s.lines

-- the numbers that are written in a tree are numbers
abbrev pub AreNumbers : Numbers → Type 0
AreNumbers ns = AllByRecursion IsNumber ns

abbrev pub IsNumbered : Routine → Type 0
IsNumbered u = AreNumbers (numbers_in_unit u)

abbrev pub IsNumberedScope : Scope → Type 0
IsNumberedScope (in_command c) = Unit {0}
IsNumberedScope (in_unit u) = IsNumbered u

-- such a state is left, and what is given is so
abbrev pub Leaves : {A : Type 0} → (A → Type 0) → Got A → Type 0
Leaves Q (gives a s) = Q a × HasValues s
Leaves Q (stops line stop s) = HasValues s

-- each node gives values, where those of the state are
pub record EachGivesValues (deep : Deeper) : Type 0 where
  pub value : (here : Here) (e : Expr) (s : State) → IsNumberedScope here.scope → AreNumbers (numbers_in e) → HasValues s → Leaves IsRegular (deep.value here e s)
  pub actual : (here : Here) (e : Expr) (s : State) → IsNumberedScope here.scope → AreNumbers (numbers_in e) → HasValues s → Leaves (OfActual IsRegular) (deep.actual here e s)
  pub holds : (here : Here) (t : Test) (s : State) → IsNumberedScope here.scope → AreNumbers (numbers_in_test t) → HasValues s → Leaves (λ b. Unit {0}) (deep.holds here t s)
  pub turn : (here : Here) (t : Test) (s : State) → IsNumberedScope here.scope → AreNumbers (numbers_in_test t) → HasValues s → Leaves (λ b. Unit {0}) (deep.turn here t s)
  pub acts : (here : Here) (a : Action) (s : State) → IsNumberedScope here.scope → AreNumbers (numbers_in_action a) → HasValues s → Leaves (OfFlow IsRegular) (deep.acts here a s)

abbrev pub ValuesStayRegular : Type 0
ValuesStayRegular = (units : List Routine) (levels : ℕ) → AllByRecursion IsNumbered units → EachGivesValues (meaning units levels)

-- the targets after an immediate command
abbrev pub TargetsStayRegular : Type 0
TargetsStayRegular =
    (units : List Routine) (deepest : ℕ) (c : Command) (targets : Targets) (lines : List RawLine) (ended : Bool) (budget : ℕ)
    → AllByRecursion IsNumbered units → AreNumbers (numbers_in_action c.action) → AreRegular targets → AllByRecursion IsShort lines
    → AreRegular (ran units deepest c targets lines ended budget).targets

-- the lines of an input are short
abbrev pub InputLinesAreShort : Type 0
InputLinesAreShort = (ends : Bool) (bytes : List ℕ) → AllByRecursion IsShort (raw_lines ends bytes)
