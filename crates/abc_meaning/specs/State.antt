-- The state of a run, and how a part of a run ends.
use Rattle.std.specs.Prelude.{ℕ, Bool, List, [], ◌∷◌, Option}
use Rattle.abc_value.specs.Tree.{Tree}
use Rattle.abc_value.specs.declared.faults.RunFault.{RunFault}
use Rattle.abc_frames.specs.Maps.{Targets, Frame}
use Rattle.abc_num.specs.declared.lines.RawLine.{RawLine}

-- a step from a value to a part of it: to the associate at a key
pub data Step : Type 0 where
  key : Tree → Step

mutual
  -- where a value is put: at the end of some steps from a name's value, or each field of a compound at a place of its own
  pub data Address : Type 0 where
    place : ℕ → List Step → Address
    several : Addresses → Address

  pub data Addresses : Type 0 where
    no_addresses : Addresses
    more_addresses : Address → Addresses → Addresses

-- addresses in a row
abbrev pub row : List Address → Addresses
row [] = no_addresses
row (a ∷ rest) = more_addresses a (row rest)

-- a formal of a command unit: its name, the address of its actual if that is one, and whether it was changed
pub record Formal : Type 0 where
  pub name : ℕ
  pub address : Option Address
  pub changed : Bool

-- What a run works on: the targets; the values of the names of the call that is under way, and its formals; the lines left, and
-- whether the input ends behind them; the output; and how many steps are left.
pub record State : Type 0 where
  pub targets : Targets
  pub names : Frame
  pub formals : List Formal
  pub lines : List RawLine
  pub ended : Bool
  pub output : List ℕ
  pub left : ℕ

-- why a run stops before its end: a run fault; no types fit what a node works on; or it wants a line that isn't there yet
pub data Stop : Type 0 where
  faulty : RunFault → Stop
  wrong : Stop
  wants : Stop

-- what a part of a run gives, or the line of the item on which it stops, each with the state then
pub data Got (A : Type 0) : Type 0 where
  gives : A → State → Got A
  stops : ℕ → Stop → State → Got A

-- a part of a run
abbrev pub Run : Type 0 → Type 0
Run A = State → Got A

-- goes on with what was given
abbrev pub after : {A B : Type 0} → Got A → (A → Run B) → Got B
after (gives a s) go = go a s
after (stops line stop s) go = stops line stop s

infixl 10 ◌>>=◌
infixl 10 ◌>>◌
abbrev pub ◌>>=◌ : {A B : Type 0} → Run A → (A → Run B) → Run B
◌>>=◌ run go s = after (run s) go

abbrev pub ◌>>◌ : {A B : Type 0} → Run A → Run B → Run B
◌>>◌ run go s = after (run s) (λ _. go)

-- nothing but a new state
abbrev pub becomes : (State → State) → Run (Unit {0})
becomes change s = gives tt (change s)

-- how a command ends: it went on, or left the unit or refinement, with a value, with a truth value, or with neither
pub data Flow : Type 0 where
  goes_on : Flow
  quits : Flow
  returns : Tree → Flow
  reports : Bool → Flow
