-- Calls of command units: actuals are copied in, and what was changed is put back. Calls of command refinements.
use Rattle.std.specs.Prelude.{ℕ, Bool, false, List, [], ◌∷◌, Option, Some, None, is_some, if◌then◌else◌}
use Rattle.std.specs.List.{list_all}
use Rattle.abc_tree.specs.RegularItems.{formal_names}
use Rattle.abc_tree.specs.declared.formulas.Expr.{Expr}
use Rattle.abc_tree.specs.declared.commands.Refinement.{Refinement}
use Rattle.abc_tree.specs.declared.commands.Unit.{Unit as Routine}
use Rattle.abc_value.specs.Tree.{Tree}
use Rattle.abc_value.specs.Parts.{pairs_of}
use Rattle.abc_value.specs.Forms.{anything}
use Rattle.abc_meaning.specs.Fits.{fits_table}
use Rattle.abc_value.specs.Changes.{associate_of}
use Rattle.abc_frames.specs.Maps.{Frame, value_at, with_value_at}
use Rattle.abc_meaning.specs.State.{State, Step, key, Address, Formal, Run, gives, after, ◌>>=◌, ◌>>◌, Flow, goes_on}
use Rattle.abc_meaning.specs.Here.{Here, Scope, within, look, spend, mistake}
use Rattle.abc_meaning.specs.Deeper.{Deeper, Actual}
use Rattle.abc_meaning.specs.Calls.{suite}
use Rattle.abc_meaning.specs.Changing.{Part, parts, put, delete, mark}
use Rattle.abc_meaning.specs.Actuals.{actuals}

-- the names of the call: the formals whose actuals have values
abbrev pub named : ℕ → Option Tree → Frame → Frame
named i None names = names
named i (Some v) names = with_value_at i v names

-- what a call begins with
pub record Entry : Type 0 where
  pub names : Frame
  pub formals : List Formal

abbrev pub with_formal : ℕ → Actual → Option Entry → Option Entry
with_formal i a None = None
with_formal i a (Some e) = Some (record { names = named i a.value e.names; formals = record { name = i; address = a.address; changed = false } ∷ e.formals })

-- each formal with its actual, where they are equally many
abbrev pub entry : List ℕ → List Actual → Option Entry
entry [] [] = Some (record { names = []; formals = [] })
entry (i ∷ names) (a ∷ found) = with_formal i a (entry names found)
entry _ _ = None

-- the part has a value
abbrev pub along : List Step → Option Tree → Option Tree
along [] v = v
along (key k ∷ steps) None = None
along (key k ∷ steps) (Some t) = if fits_table t k (Some anything) then along steps (associate_of k (pairs_of t)) else None

abbrev pub has_value : Scope → State → Part → Bool
has_value scope s part = is_some (along part.steps (look scope part.name s))

module _ (here : Here) where
  abbrev pub mark_all : List Part → Run (Unit {0})
  mark_all [] = gives tt
  mark_all (p ∷ ps) = do
    mark here p.name
    mark_all ps

  abbrev pub delete_there : List Part → Run (Unit {0})
  delete_there ps s = if list_all (has_value here.scope s) ps then delete here ps s else gives tt s

  -- a formal's value is put back to its address, and a formal without one is deleted there if the address has a value
  abbrev pub put_at : Address → Option Tree → Run (Unit {0})
  put_at a (Some v) = put here a v
  put_at a None = do
    mark_all (parts a)
    delete_there (parts a)

  abbrev pub put_formal : Option Address → Option Tree → Run (Unit {0})
  put_formal None v = gives tt
  put_formal (Some a) v = put_at a v

  -- a formal that was changed
  abbrev pub put_one : Frame → Formal → Run (Unit {0})
  put_one names f = if f.changed then put_formal f.address (value_at f.name names) else gives tt

  -- the formals from left to right
  abbrev pub put_back : List Formal → Frame → Run (Unit {0})
  put_back [] names = gives tt
  put_back (f ∷ fs) names = do
    put_one names f
    put_back fs names

  -- the end of a call: names and formals are again those of the caller
  abbrev pub leaving : State → Flow → Run Flow
  leaving before flow s = after (put_back s.formals s.names (record s { names = before.names; formals = before.formals })) (λ _. gives goes_on)

module _ (deep : Deeper) (here : Here) where
  abbrev pub body_with : Routine → Option Entry → Run Flow
  body_with u None = mistake here
  body_with u (Some e) =
      λ before. after (suite deep (within u here) u.body (record before { names = e.names; formals = e.formals })) (leaving here before)

  abbrev pub called_with : Option Routine → List Actual → Run Flow
  called_with None found = mistake here
  called_with (Some u) found = do
    spend here
    body_with u (entry (formal_names u) found)

  abbrev pub command_call : Option Routine → List Expr → Run Flow
  command_call unit es = do
    found ← actuals deep here es []
    called_with unit found

  -- a command refinement works on the unit's own names and targets, and its changes stay
  abbrev pub command_refinement : Option Refinement → Run Flow
  command_refinement None = mistake here
  command_refinement (Some r) = do
    spend here
    flow ← suite deep here r.suite
    gives goes_on
