-- Parts of what calls and trains mean.
use Rattle.std.specs.Prelude.{◌≡◌, Result, Ok, Err, List, [], Option, Some, None, option_map, map}
use Rattle.abc_tree.specs.declared.commands.Unit.{Unit as Routine}
use Rattle.abc_value.specs.Tree.{Tree, trees}
use Rattle.abc_frames.specs.Maps.{Frame}
use Rattle.abc_meaning.specs.State.{Formal, Run}
use Rattle.abc_meaning.specs.Here.{Here}
use Rattle.abc_meaning.specs.Bindings.{bindings, at_fields}
use Rattle.abc_meaning.specs.Calls.{with_bindings}
use Rattle.abc_meaning.specs.PutBack.{Entry, put_back}
use Rattle.abc_value.specs.declared.faults.RunFault.TheVariants.{Memory}
use Rattle.abc_state.specs.declared.halt.Halt.{Halt}
use Rattle.abc_state.specs.declared.halt.Halt.TheVariants.{Fault, Wrong}
use Rattle.abc_acts.specs.declared.calls.Entry.{Entry as HeldEntry}
use Rattle.abc_state.specs.Views.{formal_of}

-- the names that a function or predicate begins with, where its formals match the actuals
abbrev pub formal_frame : Routine → List Tree → Option Frame
formal_frame u vs = option_map (λ bs. with_bindings bs []) (at_fields (map bindings u.formals) (trees vs))

-- the end of a call of a command unit: names and formals are those of its caller, and what was changed is put back
abbrev pub leaving_to : Here → Frame → List Formal → Run (Unit {0})
leaving_to here names formals s = put_back here s.formals s.names (record s { names = names; formals = formals })

-- The answer is what may be there, or it is Wrong where nothing is; want of memory may come at any time.
abbrev pub GivesIf : {A B : Type 0} → (A → B) → Result A Halt → Option B → Type 0
GivesIf view (Ok a) o = o ≡ Some (view a)
GivesIf view (Err (Fault f)) o = f ≡ Memory
GivesIf view (Err Wrong) o = o ≡ None

-- the elements of a train
abbrev pub GivesTrain : Result (List Tree) Halt → Option (List Tree) → Type 0
GivesTrain r o = GivesIf (λ all. all) r o

-- the names that a call begins with
abbrev pub GivesNames : Result Frame Halt → Option Frame → Type 0
GivesNames r o = GivesIf (λ names. names) r o

abbrev pub entry_view : HeldEntry → Entry
entry_view e = record { names = e.names; formals = map formal_of e.formals }

-- the names and formals of a call
abbrev pub GivesEntry : Result HeldEntry Halt → Option Entry → Type 0
GivesEntry r o = GivesIf entry_view r o
