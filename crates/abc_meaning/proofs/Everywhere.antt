-- Laws that say nothing of values: for these every tree fits.
use Rattle.std.proofs.Common.{ℕ, Bool, List, [], ◌∷◌, Option, Some, None}
use Rattle.std.specs.List.{AllByRecursion}
use Rattle.std.specs.Option.{IfSome}
use Rattle.abc_tree.specs.RegularItems.{Part, Parts, line, value, address, example, test, bound, quits, returns, reports, calls, refinement, early_else, parts_of, parts_of_unit}
use Rattle.abc_tree.specs.declared.formulas.Expr.{Expr}
use Rattle.abc_tree.specs.declared.formulas.Test.{Test}
use Rattle.abc_tree.specs.declared.commands.Action.{Action}
use Rattle.abc_tree.specs.declared.commands.Unit.{Unit as Routine}
use Rattle.abc_value.specs.Tree.{Tree, number}
use Rattle.abc_value.specs.Parts.{parts_of as parts_of_value, pairs_of}
use Rattle.abc_value.specs.Changes.{associate_of}
use Rattle.abc_value.specs.Items.{elements_of}
use Rattle.abc_print.specs.Computed.{literal_of}
use Rattle.abc_frames.specs.Maps.{Targets, Frame}
use Rattle.abc_meaning.specs.State.{Step, key, Address, Addresses, place, several, no_addresses, more_addresses, Formal, State, Got, gives, stops, Run, Flow}
use Rattle.abc_meaning.specs.Here.{Here, Scope, in_command, in_unit}
use Rattle.abc_meaning.specs.Deeper.{Deeper, Actual}
use Rattle.abc_meaning.specs.Meaning.{meaning}
use Rattle.abc_meaning.specs.Laws.{end_of}
use Rattle.abc_meaning.specs.Written.{Numbers, numbers_in, numbers_in_test}
use Rattle.abc_meaning.proofs.Asked.{Facts, Any, HasAddress, HaveAddresses, HaveSteps, HasAddressIfAny, HasActual, HasFlow, OwnLine, FitsPart, FitsUnit, FitsScope, IsPlace, AreKept}
use Rattle.abc_meaning.proofs.Asked as asked
use Rattle.abc_meaning.proofs.Nodes.{all_nodes}

-- nothing is said of values
abbrev pub unvalued : (ℕ → Type 0) → (Targets → Type 0) → (Frame → Type 0) → (List Formal → Type 0) → Facts
unvalued is_line has_targets has_names has_formals =
    record { IsLine = is_line; HasTree = Any; HasRaw = Any; HasTargets = has_targets; HasNames = has_names; HasFormals = has_formals }

all_any : {A : Type 0} (xs : List A) → AllByRecursion Any xs
all_any [] = tt
all_any (x ∷ xs) = (tt, all_any xs)

pub some_any : {A : Type 0} (o : Option A) → IfSome o Any
some_any None = tt
some_any (Some a) = tt

module _ (is_line : ℕ → Type 0) (has_targets : Targets → Type 0) (has_names : Frame → Type 0) (has_formals : List Formal → Type 0) where
  abbrev pub facts : Facts
  facts = unvalued is_line has_targets has_names has_formals

  pub any_kept : AreKept facts
  any_kept = record {
    nothing = tt;
    composed = λ vs v h two is. tt;
    worded = λ b v are is. tt;
    listed = λ es v h is. tt;
    tabled = λ ps v h is. tt;
    ranged = λ p q v h k is. tt;
    parts = λ t h. all_any (parts_of_value t);
    elements = λ t h. all_any (elements_of t);
    found = λ k t h. some_any (associate_of k (pairs_of t));
    one = λ op v w h is. tt;
    two = λ op u v w h k is. tt;
    raw = λ l h are. tt;
    literal = λ l h. some_any (literal_of l.bytes);
    changes = λ c missing steps old v h k o is. tt;
  }

  any_numbers : (ns : Numbers) → AllByRecursion (λ n. facts.HasTree (number n)) ns
  any_numbers [] = tt
  any_numbers (n ∷ ns) = (tt, any_numbers ns)

  part_fits : (scope : Scope) → ((n : ℕ) → OwnLine facts scope n) → (part : Part) → FitsPart facts scope part
  part_fits scope own (line n) = own n
  part_fits scope own (value e) = any_numbers (numbers_in e)
  part_fits scope own (address e) = any_numbers (numbers_in e)
  part_fits scope own (test t) = any_numbers (numbers_in_test t)
  part_fits scope own (example e) = tt
  part_fits scope own (bound b) = tt
  part_fits scope own quits = tt
  part_fits scope own returns = tt
  part_fits scope own reports = tt
  part_fits scope own (calls t n) = tt
  part_fits scope own (refinement name) = tt
  part_fits scope own early_else = tt

  pub parts_fit : (scope : Scope) → ((n : ℕ) → OwnLine facts scope n) → (parts : Parts) → AllByRecursion (λ part. FitsPart facts scope part.1) parts
  parts_fit scope own [] = tt
  parts_fit scope own (part ∷ parts) = (part_fits scope own part.1, parts_fit scope own parts)

  unit_fits : (u : Routine) → FitsUnit facts u
  unit_fits u = parts_fit (in_unit u) (λ n. tt) (parts_of_unit u)

  pub units_fit : (units : List Routine) → AllByRecursion (FitsUnit facts) units
  units_fit [] = tt
  units_fit (u ∷ units) = (unit_fits u, units_fit units)

  pub scope_fits : (scope : Scope) → FitsScope facts scope
  scope_fits (in_command c) = tt
  scope_fits (in_unit u) = unit_fits u

  -- each number and test fits
  pub expr_fits : (e : Expr) → AllByRecursion (λ n. facts.HasTree (number n)) (numbers_in e)
  expr_fits e = any_numbers (numbers_in e)

  pub test_fits : (t : Test) → AllByRecursion (λ n. facts.HasTree (number n)) (numbers_in_test t)
  test_fits t = any_numbers (numbers_in_test t)

  any_steps : (steps : List Step) → HaveSteps facts steps
  any_steps [] = tt
  any_steps (key k ∷ steps) = (tt, any_steps steps)

  mutual
    any_address : (a : Address) → HasAddress facts a
    any_address (place i steps) = any_steps steps
    any_address (several all) = any_addresses all

    any_addresses : (all : Addresses) → HaveAddresses facts all
    any_addresses no_addresses = tt
    any_addresses (more_addresses a rest) = (any_address a, any_addresses rest)

  address_if_any : (a : Option Address) → HasAddressIfAny facts a
  address_if_any None = tt
  address_if_any (Some a) = any_address a

  pub all_addresses : (formals : List Formal) → AllByRecursion (λ (f : Formal). HasAddressIfAny facts f.address) formals
  all_addresses [] = tt
  all_addresses (f ∷ formals) = (address_if_any f.address, all_addresses formals)

-- ---- the end of a part of a run

-- the state then, and what is given
abbrev pub Ends : {A : Type 0} → (State → Type 0) → (A → Type 0) → Got A → Type 0
Ends K Q (gives a s) = K s × Q a
Ends K Q (stops n stop s) = K s

pub at_end : {A : Type 0} (K : State → Type 0) (Q : A → Type 0) (g : Got A) → Ends K Q g → K (end_of g)
at_end K Q (gives a s) h = h.0
at_end K Q (stops n stop s) h = h

pub any_ends : {A : Type 0} (K : State → Type 0) (g : Got A) → K (end_of g) → Ends K Any g
any_ends K (gives a s) h = (h, tt)
any_ends K (stops n stop s) h = h

-- ---- laws that say nothing of lines either

module _ (P : (A : Type 0) → (A → Type 0) → Run A → Type 0) (HasTargets : Targets → Type 0) (HasNames : Frame → Type 0) (HasFormals : List Formal → Type 0) where
  abbrev pub unsaid : Facts
  unsaid = unvalued Any HasTargets HasNames HasFormals

  -- each node has it
  pub record IsGood (deep : Deeper) : Type 0 where
    pub value : (here : Here) (e : Expr) → P Tree Any (deep.value here e)
    pub actual : (here : Here) (e : Expr) → P Actual (HasActual unsaid) (deep.actual here e)
    pub holds : (here : Here) (t : Test) → P Bool Any (deep.holds here t)
    pub turn : (here : Here) (t : Test) → P Bool Any (deep.turn here t)
    pub acts : (here : Here) (a : Action) → P Flow (HasFlow unsaid) (deep.acts here a)

  is_place : (here : Here) → IsPlace unsaid here
  is_place here = record { line = tt; scope = scope_fits Any HasTargets HasNames HasFormals here.scope }

  own_lines : (scope : Scope) (n : ℕ) → OwnLine unsaid scope n
  own_lines (in_command c) n = tt
  own_lines (in_unit u) n = tt

  -- all nodes at all levels
  pub everywhere : asked.IsLaw unsaid P → (units : List Routine) (levels : ℕ) → IsGood (meaning units levels)
  everywhere law units levels = told (all_nodes unsaid P law (any_kept Any HasTargets HasNames HasFormals) units (units_fit Any HasTargets HasNames HasFormals units) levels)
    where
      told : {deep : Deeper} → asked.IsGood unsaid P deep → IsGood deep
      told good = record {
        value = λ here e. good.value (is_place here) e (expr_fits Any HasTargets HasNames HasFormals e);
        actual = λ here e. good.actual (is_place here) e (expr_fits Any HasTargets HasNames HasFormals e);
        holds = λ here t. good.holds (is_place here) t (test_fits Any HasTargets HasNames HasFormals t);
        turn = λ here t. good.turn (is_place here) t (test_fits Any HasTargets HasNames HasFormals t);
        acts = λ here a. good.acts (is_place here) a (parts_fit Any HasTargets HasNames HasFormals here.scope (own_lines here.scope) (parts_of a));
      }
