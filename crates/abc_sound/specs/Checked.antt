-- What the type check promises: a command that is accepted never works on values that no types fit, and the workspace stays
-- typable.
use Rattle.std.specs.Prelude.{◌≡◌, ◌≢◌, ◌≤◌, ℕ, Bool, true, List, IsSome}
use Rattle.std.specs.List.{Contains, AllByRecursion}
use Rattle.abc_num.specs.declared.lines.RawLine.{RawLine}
use Rattle.abc_num.specs.declared.types.Ground.{Ground}
use Rattle.abc_tree.specs.Calls.{command_called_upto}
use Rattle.abc_tree.specs.RegularItems.{is_regular_unit, is_regular_command}
use Rattle.abc_tree.specs.declared.templates.Template.{Template}
use Rattle.abc_tree.specs.declared.commands.Command.{Command}
use Rattle.abc_tree.specs.declared.commands.Unit.{Unit as Routine}
use Rattle.abc_frames.specs.Maps.{Targets, AreRegular}
use Rattle.abc_meaning.specs.State.{wrong}
use Rattle.abc_meaning.specs.Laws.{lines_in}
use Rattle.abc_meaning.specs.Ran.{Outcome, stopped, ran}
use Rattle.abc_meaning.specs.Regular.{IsShort, IsNumbered, AreNumbers}
use Rattle.abc_meaning.specs.Written.{numbers_in_action}
use Rattle.abc_ground.specs.Groups.{Cut, whole, cut_of, LeadsTo}
use Rattle.abc_ground.specs.Typable.{AreTypes, IsTypable, IsTypableWith, CommandMayFit}

-- ---- units and commands as they are read from lines

pub record IsReadUnit (u : Routine) : Type 0 where
  pub regular : is_regular_unit u ≡ true
  pub numbers : IsNumbered u

pub record IsReadCommand (c : Command) : Type 0 where
  pub regular : is_regular_command c ≡ true
  pub numbers : AreNumbers (numbers_in_action c.action)

-- ---- what is accepted

-- all its lines count
abbrev pub EndsBy : ℕ → Command → Type 0
EndsBy n c = AllByRecursion (λ line. line ≤ n) (lines_in c.action)

-- each template that it calls, and each that is reached from one of these by calls, has a unit
abbrev pub ReachesNoMissing : List Cut → Command → ℕ → Type 0
ReachesNoMissing w c n = (t u : Template) → Contains (command_called_upto n c) t → LeadsTo w t u → IsSome (cut_of u w)

-- units and targets as a store holds them, and a command that reaches no missing unit, with all its lines
pub record IsSessionItem (units : List Routine) (targets : Targets) (c : Command) (n : ℕ) : Type 0 where
  pub read : AllByRecursion IsReadUnit units
  pub command : IsReadCommand c
  pub regular : AreRegular targets
  pub ends : EndsBy n c
  pub reaches : ReachesNoMissing (whole units) c n

-- ---- the laws

abbrev pub IsNeverWrong : Outcome → Type 0
IsNeverWrong outcome = (line : ℕ) → outcome ≢ stopped line wrong

-- For every bound on the depth, list of lines and budget, an accepted command is never wrong, whatever units it calls.
abbrev pub AcceptedIsNeverWrong : Type 0
AcceptedIsNeverWrong =
    (units : List Routine) (targets : Targets) (c : Command) (n : ℕ) → IsSessionItem units targets c n → IsTypableWith targets (whole units) c n
    → (deepest : ℕ) (lines : List RawLine) (ended : Bool) (budget : ℕ) → AllByRecursion IsShort lines
    → IsNeverWrong (ran units deepest c targets lines ended budget).outcome

-- and the types of the targets are their types after it too
abbrev pub TargetsKeepTheirTypes : Type 0
TargetsKeepTheirTypes =
    (units : List Routine) (targets : Targets) (c : Command) (n : ℕ) (types : List ℕ → Ground) → IsSessionItem units targets c n
    → AreTypes targets (whole units) types → CommandMayFit (whole units) types c n
    → (deepest : ℕ) (lines : List RawLine) (ended : Bool) (budget : ℕ) → AllByRecursion IsShort lines
    → AreTypes (ran units deepest c targets lines ended budget).targets (whole units) types

-- so the workspace after it is typable
abbrev pub WorkspaceStaysTypable : Type 0
WorkspaceStaysTypable =
    (units : List Routine) (targets : Targets) (c : Command) (n : ℕ) → IsSessionItem units targets c n → IsTypableWith targets (whole units) c n
    → (deepest : ℕ) (lines : List RawLine) (ended : Bool) (budget : ℕ) → AllByRecursion IsShort lines
    → IsTypable (ran units deepest c targets lines ended budget).targets (whole units)
