-- What a law of all runs says of lines and values, and what is asked of it.
use Rattle.std.proofs.Common.{◌≡◌, ℕ, Bool, true, false, List, [], ◌∷◌, Option, Some, Ok, is_some}
use Rattle.std.specs.Prelude.{length, nat_le}
use Rattle.std.specs.List.{AllByRecursion}
use Rattle.std.specs.Option.{IfSome}
use Rattle.abc_num.specs.Characters.{are_characters}
use Rattle.abc_num.specs.declared.lines.RawLine.{RawLine}
use Rattle.abc_tree.specs.RegularItems.{Part, line, value, address, test, parts_of_unit}
use Rattle.abc_tree.specs.declared.operations.Op.{Op}
use Rattle.abc_tree.specs.declared.formulas.Expr.{Expr}
use Rattle.abc_tree.specs.declared.formulas.Test.{Test}
use Rattle.abc_tree.specs.declared.commands.Action.{Action}
use Rattle.abc_tree.specs.declared.commands.Unit.{Unit as Routine}
use Rattle.abc_value.specs.declared.faults.RunFault.{RunFault}
use Rattle.abc_value.specs.Tree.{Tree, number, text, compound, list, empty, trees, table_of}
use Rattle.abc_value.specs.Parts.{parts_of as parts_of_value, pairs_of}
use Rattle.abc_value.specs.Changes.{in_order, placed, associate_of}
use Rattle.abc_value.specs.Items.{if_small, elements_of, range_of}
use Rattle.abc_predef.specs.Rows.{row_of_one, row_of_two}
use Rattle.abc_print.specs.Computed.{literal_of}
use Rattle.abc_frames.specs.Maps.{Targets, Frame, value_of, with_value, without, value_at, with_value_at, without_at}
use Rattle.abc_meaning.specs.State.{Step, key, Address, place, several, Addresses, no_addresses, more_addresses, Formal, State, Stop, gives, stops, Run, after, becomes, Flow, returns}
use Rattle.abc_meaning.specs.Here.{Here, Scope, in_command, in_unit, spend}
use Rattle.abc_meaning.specs.Deeper.{Deeper, Actual}
use Rattle.abc_meaning.specs.Changing.{Change, puts, inserts, removes, deletes, Part as Place, changed, formal_named, marked}
use Rattle.abc_meaning.specs.Reading.{take_line}
use Rattle.abc_meaning.specs.Acts.{say}
use Rattle.abc_meaning.specs.Laws.{is_wanting}
use Rattle.abc_meaning.proofs.Opened.{InExpr, InTest, InAction, InSuite, AllParts}

-- What is said of the lines of stops, of values, of lines of the input, and of targets, names and formals.
pub record Facts : Type 1 where
  pub IsLine : ℕ → Type 0
  pub HasTree : Tree → Type 0
  pub HasRaw : RawLine → Type 0
  pub HasTargets : Targets → Type 0
  pub HasNames : Frame → Type 0
  pub HasFormals : List Formal → Type 0

-- targets, names and formals are these from now on
abbrev pub placing : Targets → Frame → List Formal → State → State
placing targets names formals s = record s { targets = targets; names = names; formals = formals }

-- nothing is said
abbrev pub Any : {A : Type 0} → A → Type 0
Any a = Unit {0}

module _ (facts : Facts) where
  -- ---- of what is made of values

  abbrev pub HasAny : Option Tree → Type 0
  HasAny v = IfSome v facts.HasTree

  abbrev pub HaveAll : List Tree → Type 0
  HaveAll vs = AllByRecursion facts.HasTree vs

  abbrev pub HavePairs : List (Tree × Tree) → Type 0
  HavePairs ps = AllByRecursion (λ p. facts.HasTree p.0 × facts.HasTree p.1) ps

  abbrev pub HasStep : Step → Type 0
  HasStep (key k) = facts.HasTree k

  abbrev pub HaveSteps : List Step → Type 0
  HaveSteps steps = AllByRecursion HasStep steps

  abbrev mutual
    pub HasAddress : Address → Type 0
    HasAddress (place i steps) = HaveSteps steps
    HasAddress (several all) = HaveAddresses all

    pub HaveAddresses : Addresses → Type 0
    HaveAddresses no_addresses = Unit {0}
    HaveAddresses (more_addresses a rest) = HasAddress a × HaveAddresses rest

  abbrev pub HasAddressIfAny : Option Address → Type 0
  HasAddressIfAny a = IfSome a HasAddress

  abbrev pub HasPlace : Place → Type 0
  HasPlace part = HaveSteps part.steps

  abbrev pub HasChange : Change → Type 0
  HasChange (puts v) = facts.HasTree v
  HasChange (inserts v) = facts.HasTree v
  HasChange (removes v) = facts.HasTree v
  HasChange deletes = Unit {0}

  abbrev pub HasFlow : Flow → Type 0
  HasFlow (returns v) = facts.HasTree v
  HasFlow _ = Unit {0}

  abbrev pub HasActual : Actual → Type 0
  HasActual a = HasAny a.value × HasAddressIfAny a.address

  -- ---- of where a node stands, and of what is written in it

  -- the lines that count: those of the immediate command
  abbrev pub OwnLine : Scope → ℕ → Type 0
  OwnLine (in_command c) = facts.IsLine
  OwnLine (in_unit u) = Any

  abbrev pub FitsExpr : Expr → Type 0
  FitsExpr = InExpr (λ n. facts.HasTree (number n))

  abbrev pub FitsTest : Test → Type 0
  FitsTest = InTest (λ n. facts.HasTree (number n))

  abbrev pub FitsPart : Scope → Part → Type 0
  FitsPart scope (line n) = OwnLine scope n
  FitsPart scope (value e) = FitsExpr e
  FitsPart scope (address e) = FitsExpr e
  FitsPart scope (test t) = FitsTest t
  FitsPart scope _ = Unit {0}

  abbrev pub FitsAction : Scope → Action → Type 0
  FitsAction scope = InAction (FitsPart scope)

  abbrev pub FitsSuite : Scope → List Action → Type 0
  FitsSuite scope = InSuite (FitsPart scope)

  abbrev pub FitsUnit : Routine → Type 0
  FitsUnit u = AllParts (FitsPart (in_unit u)) (parts_of_unit u)

  abbrev pub FitsScope : Scope → Type 0
  FitsScope (in_command c) = Unit {0}
  FitsScope (in_unit u) = FitsUnit u

  pub record IsPlace (here : Here) : Type 0 where
    pub line : facts.IsLine here.line
    pub scope : FitsScope here.scope

  -- ---- what is asked

  -- What is said of values has to be so of each that is made.
  pub record AreKept : Type 0 where
    pub nothing : facts.HasTree empty
    pub composed : (vs : List Tree) (v : Tree) → HaveAll vs → nat_le 2 (length vs) ≡ true → if_small (compound (trees vs)) ≡ Ok v → facts.HasTree v
    pub worded : (b : List ℕ) (v : Tree) → are_characters b ≡ true → if_small (text b) ≡ Ok v → facts.HasTree v
    pub listed : (es : List Tree) (v : Tree) → HaveAll es → if_small (list (trees (in_order es))) ≡ Ok v → facts.HasTree v
    pub tabled : (ps : List (Tree × Tree)) (v : Tree) → HavePairs ps → if_small (table_of (placed ps)) ≡ Ok v → facts.HasTree v
    pub ranged : (p q v : Tree) → facts.HasTree p → facts.HasTree q → range_of p q ≡ Ok v → facts.HasTree v
    pub parts : (t : Tree) → facts.HasTree t → HaveAll (parts_of_value t)
    pub elements : (t : Tree) → facts.HasTree t → HaveAll (elements_of t)
    pub found : (k t : Tree) → facts.HasTree t → HasAny (associate_of k (pairs_of t))
    pub one : (op : Op) (v w : Tree) → facts.HasTree v → row_of_one op v ≡ Ok w → facts.HasTree w
    pub two : (op : Op) (u v w : Tree) → facts.HasTree u → facts.HasTree v → row_of_two op u v ≡ Ok w → facts.HasTree w
    pub raw : (line : RawLine) → facts.HasRaw line → are_characters line.bytes ≡ true → facts.HasTree (text line.bytes)
    pub literal : (line : RawLine) → facts.HasRaw line → HasAny (literal_of line.bytes)
    pub changes : (c : Change) (missing : RunFault) (steps : List Step) (old : Option Tree) (v : Tree) → HasChange c → HaveSteps steps → HasAny old
        → changed c missing steps old ≡ Ok (Some v) → facts.HasTree v

  module _ (P : (A : Type 0) → (A → Type 0) → Run A → Type 0) where
    -- the run has it, where what it gives has Q
    abbrev pub Good : {A : Type 0} → (A → Type 0) → Run A → Type 0
    Good {A} Q run = P A Q run

    -- What is asked of a law: the ends of a run, one part after another, and each thing that a run does to its state. What is said of
    -- targets, names and formals of a state has to stay so where one changes.
    pub record IsLaw : Type 1 where
      pub giving : {A : Type 0} {Q : A → Type 0} (a : A) → Q a → Good Q (λ s. gives a s)
      pub stopping : {A : Type 0} {Q : A → Type 0} (line : ℕ) (stop : Stop) → is_wanting stop ≡ false → facts.IsLine line → Good Q (λ s. stops line stop s)
      pub going_on : {A B : Type 0} {Q : A → Type 0} {R : B → Type 0} (run : Run A) (go : A → Run B) → Good Q run → ((a : A) → Q a → Good R (go a)) → Good R (λ s. after (run s) go)
      pub seeing : {A : Type 0} {Q : A → Type 0} (go : Targets → Frame → List Formal → Run A)
          → ((targets : Targets) (names : Frame) (formals : List Formal) → facts.HasTargets targets → facts.HasNames names → facts.HasFormals formals → Good Q (go targets names formals))
          → Good Q (λ s. go s.targets s.names s.formals s)
      pub setting : (targets : Targets) (names : Frame) (formals : List Formal) → facts.HasTargets targets → facts.HasNames names → facts.HasFormals formals → Good Any (becomes (placing targets names formals))
      pub metering : {A : Type 0} {Q : A → Type 0} (go : ℕ → Run A) → ((left : ℕ) → Good Q (go left)) → Good Q (λ s. go s.left s)
      pub spending : (here : Here) → facts.IsLine here.line → Good Any (spend here)
      pub saying : (here : Here) (b : List ℕ) → facts.IsLine here.line → Good Any (say here b)
      pub taking : (here : Here) → facts.IsLine here.line → Good facts.HasRaw (take_line here)
      pub value : (name : List ℕ) (targets : Targets) → facts.HasTargets targets → HasAny (value_of name targets)
      pub valued : (name : List ℕ) (v : Tree) (targets : Targets) → facts.HasTree v → facts.HasTargets targets → facts.HasTargets (with_value name v targets)
      pub emptied : (name : List ℕ) (targets : Targets) → facts.HasTargets targets → facts.HasTargets (without name targets)
      pub nameless : facts.HasNames []
      pub name_value : (i : ℕ) (names : Frame) → facts.HasNames names → HasAny (value_at i names)
      pub name_valued : (i : ℕ) (v : Tree) (names : Frame) → facts.HasTree v → facts.HasNames names → facts.HasNames (with_value_at i v names)
      pub name_emptied : (i : ℕ) (names : Frame) → facts.HasNames names → facts.HasNames (without_at i names)
      pub formalless : facts.HasFormals []
      pub formal_addresses : (formals : List Formal) → facts.HasFormals formals → AllByRecursion (λ (f : Formal). HasAddressIfAny f.address) formals
      pub formal_more : (i : ℕ) (a : Option Address) (formals : List Formal) → HasAddressIfAny a → facts.HasFormals formals → facts.HasFormals (record { name = i; address = a; changed = false } ∷ formals)
      pub formal_marked : (i : ℕ) (formals : List Formal) (f : Formal) → formal_named i formals ≡ Some f → is_some f.address ≡ true → facts.HasFormals formals → facts.HasFormals (marked i formals)

    -- each node has it
    pub record IsGood (deep : Deeper) : Type 0 where
      pub value : {here : Here} → IsPlace here → (e : Expr) → FitsExpr e → Good facts.HasTree (deep.value here e)
      pub actual : {here : Here} → IsPlace here → (e : Expr) → FitsExpr e → Good HasActual (deep.actual here e)
      pub holds : {here : Here} → IsPlace here → (t : Test) → FitsTest t → Good Any (deep.holds here t)
      pub turn : {here : Here} → IsPlace here → (t : Test) → FitsTest t → Good Any (deep.turn here t)
      pub acts : {here : Here} → IsPlace here → (a : Action) → FitsAction here.scope a → Good HasFlow (deep.acts here a)
