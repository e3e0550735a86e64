-- An accepted command is never wrong, and the targets keep their types.
use Rattle.std.proofs.Common.{◌≡◌, refl, ℕ, zero, suc, Bool, List, [], ◌∷◌, arith}
use Rattle.std.specs.List.{All, AllByRecursion}
use Rattle.abc_num.specs.declared.lines.RawLine.{RawLine}
use Rattle.abc_num.specs.declared.types.Ground.{Ground}
use Rattle.abc_value.specs.Types.{has}
use Rattle.abc_tree.specs.declared.commands.Command.{Command}
use Rattle.abc_tree.specs.declared.commands.Unit.{Unit as Routine}
use Rattle.abc_frames.specs.Maps.{Targets}
use Rattle.abc_ground.specs.Seen.{leaf, result}
use Rattle.abc_ground.specs.Groups.{whole}
use Rattle.abc_ground.specs.Typable.{AreTypes, CommandMayFit, IsOffered}
use Rattle.abc_meaning.specs.State.{State, Stop, faulty, wrong, wants, Got, gives, stops, Flow, goes_on, quits, returns, reports}
use Rattle.abc_meaning.specs.Here.{in_command}
use Rattle.abc_meaning.specs.Meaning.{meaning}
use Rattle.abc_meaning.specs.Ran.{stopped, outcome_of, ran, ran_as, starting, standing}
use Rattle.abc_meaning.specs.Regular.{IsShort, IsNumbered, ValuesStayRegular}
use Rattle.abc_sound.specs.Checked.{IsReadUnit, IsSessionItem, IsNeverWrong, AcceptedIsNeverWrong, TargetsKeepTheirTypes, WorkspaceStaysTypable}
use Rattle.abc_sound.proofs.Leaving.{Sure, IsFine, Leaves}
use Rattle.abc_sound.proofs.States.{IsReady}
use Rattle.abc_sound.proofs.Nodes.{FlowIs, all_good}
use Rattle.abc_sound.proofs.Units.{Allowed, Present, offered_allowed, command_more}
use Rattle.abc_sound.proofs.Places.{most, called_is, plain_is, command_place, command_ok}
use Rattle.abc_sound.proofs.Stable.{surely_has}

-- ---- lists of targets

to_each : {X : Type 0} (P : X → Type 0) (xs : List X) → All P xs → AllByRecursion P xs
to_each P [] h = tt
to_each P (x ∷ xs) h = (h 0 x (omega arith), to_each P xs (λ k d l. h (suc k) d (omega (arith, l))))

from_each : {X : Type 0} (P : X → Type 0) (xs : List X) → AllByRecursion P xs → All P xs
from_each P [] h k d l = absurd (omega (arith, l))
from_each P (x ∷ xs) h zero d l = h.0
from_each P (x ∷ xs) h (suc k) d l = from_each P xs h.1 k d (omega (arith, l))

surely_held : (types : List ℕ → Ground) (targets : Targets) → Sure (AllByRecursion (λ e. has e.1 (types e.0)) targets) → AllByRecursion (λ e. has e.1 (types e.0)) targets
surely_held types [] h = tt
surely_held types (e ∷ targets) h = (surely_has e.1 (types e.0) (λ no. h (λ k. no k.0)), surely_held types targets (λ no. h (λ k. no k.1)))

-- ---- the end of a run

fine_end : (before : Targets) (budget : ℕ) (J : State → Type 0) (Q : Flow → Type 0) (g : Got Flow) → Leaves J Q g → IsNeverWrong (ran_as before budget g).outcome
fine_end before budget J Q (gives flow s) h line e = by flow e
  where
    by : (flow : Flow) → outcome_of flow ≡ stopped line wrong → ⊥
    by goes_on e = cc
    by quits e = cc
    by (returns v) e = cc
    by (reports b) e = cc
fine_end before budget J Q (stops n stop s) h line e = by stop h e
  where
    by : (stop : Stop) → IsFine stop → stopped n stop ≡ stopped line wrong → ⊥
    by wrong h e = h
    by wants h e = cc
    by (faulty f) h e = cc

module _ (types : List ℕ → Ground) (names : List Ground) where
  typed_end : (before : Targets) (budget : ℕ) (Q : Flow → Type 0) (g : Got Flow) → AllByRecursion (λ e. has e.1 (types e.0)) before → Leaves (IsReady types names []) Q g
      → AllByRecursion (λ e. has e.1 (types e.0)) (ran_as before budget g).targets
  typed_end before budget Q (gives flow s) h k = surely_held types s.targets (λ no. k (λ p. no p.1.0.targets))
  typed_end before budget Q (stops n stop s) h k = h

numbered_units : (units : List Routine) → AllByRecursion IsReadUnit units → AllByRecursion IsNumbered units
numbered_units [] h = tt
numbered_units (u ∷ units) h = (h.0.numbers, numbered_units units h.1)

-- ---- the laws

module _ (regular : ValuesStayRegular) (units : List Routine) (targets : Targets) (c : Command) (n : ℕ) (types : List ℕ → Ground) (item : IsSessionItem units targets c n)
    (typed : AreTypes targets (whole units) types) (fits : CommandMayFit (whole units) types c n) (deepest : ℕ) (lines : List RawLine) (ended : Bool) (budget : ℕ) (short : AllByRecursion IsShort lines) where
  held : AllByRecursion (λ e. has e.1 (types e.0)) targets
  held = to_each (λ e. has e.1 (types e.0)) targets typed.held

  run_leaves : Leaves (IsReady types fits.0.names []) (FlowIs units types (Allowed (whole units) types) (Present (whole units) types) (most units types n) (in_command c) fits.0 (leaf result)) ((meaning units (suc deepest)).acts (standing c) c.action (starting targets lines ended budget))
  run_leaves =
      let offered = command_more (λ t o. IsOffered (whole units) types t o) (Allowed (whole units) types) (offered_allowed (whole units) types) types n c fits.0 fits.1 in
      let good = all_good units types (Allowed (whole units) types) (Present (whole units) types) (most units types n) (called_is units types n item.read) (plain_is units types n item.read) (λ levels. regular units levels (numbered_units units item.read)) (suc deepest) in
      (good.acts (standing c) fits.0 (command_place units types n c item.command item.ends fits.0 offered) [] (leaf result) c.action (command_ok units types n c item.command item.ends fits.0 offered item.reaches)).leaves
      (starting targets lines ended budget) (record { targets = held; frame = tt; formals = refl }, record { targets = item.regular; names = tt; formals = tt; lines = short })

  never : IsNeverWrong (ran units deepest c targets lines ended budget).outcome
  never = fine_end targets budget _ _ ((meaning units (suc deepest)).acts (standing c) c.action (starting targets lines ended budget)) run_leaves

  keeps : AreTypes (ran units deepest c targets lines ended budget).targets (whole units) types
  keeps = record {
    proper = typed.proper;
    held = from_each (λ e. has e.1 (types e.0)) (ran units deepest c targets lines ended budget).targets
        (typed_end types fits.0.names targets budget _ ((meaning units (suc deepest)).acts (standing c) c.action (starting targets lines ended budget)) held run_leaves);
    units = typed.units;
  }

pub never_wrong : ValuesStayRegular → AcceptedIsNeverWrong
never_wrong regular units targets c n item typable deepest lines ended budget short = never regular units targets c n typable.0 item typable.1 typable.2 deepest lines ended budget short

pub types_kept : ValuesStayRegular → TargetsKeepTheirTypes
types_kept regular units targets c n types item typed fits deepest lines ended budget short = keeps regular units targets c n types item typed fits deepest lines ended budget short

pub stays_typable : ValuesStayRegular → WorkspaceStaysTypable
stays_typable regular units targets c n item typable deepest lines ended budget short = (typable.0, keeps regular units targets c n typable.0 item typable.1 typable.2 deepest lines ended budget short)
