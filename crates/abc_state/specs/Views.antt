-- How the state of a run is seen that the code holds.
use Rattle.std.specs.Prelude.{ℕ, Bool, List, [], ◌∷◌, map, option_map, Result, Ok, Err, if◌then◌else◌}
use Rattle.std.specs.List.{flat_map}
use Rattle.abc_value.specs.declared.faults.ValueFault.{ValueFault}
use Rattle.abc_value.specs.Tree.{Tree}
use Rattle.abc_value.specs.Parts.{parts_of}
use Rattle.abc_value.specs.Items.{range_of}
use Rattle.abc_value.specs.Printed.{outer}
use Rattle.abc_frames.specs.Maps.{Targets}
use Rattle.abc_num.specs.declared.lines.RawLine.{RawLine}
use Rattle.abc_meaning.specs.State.{State, Step, key, Address, place, several, row, Formal, Flow, goes_on, quits, returns, reports}
use Rattle.abc_meaning.specs.Here.{Here, Scope}
use Rattle.abc_meaning.specs.Deeper.{Actual}
use Rattle.abc_meaning.specs.Fits.{have_range}
use Rattle.abc_meaning.specs.Value.{Filling, Tabling, Wording}
use Rattle.abc_state.specs.declared.spots.Step.{Step as HeldStep}
use Rattle.abc_state.specs.declared.spots.Step.TheVariants.{Key}
use Rattle.abc_state.specs.declared.spots.Spot.{Spot, fold-Spot}
use Rattle.abc_state.specs.declared.spots.Spot.TheOpen.{Spot-F, Place, Several}
use Rattle.abc_state.specs.declared.run.Formal.{Formal as HeldFormal}
use Rattle.abc_state.specs.declared.run.Run.{Run}
use Rattle.abc_state.specs.declared.halt.Exit.{Exit}
use Rattle.abc_state.specs.declared.halt.Exit.TheVariants.{GoesOn, Quits, Returns, Reports}
use Rattle.abc_state.specs.declared.scope.Scope.{Scope as Table}
use Rattle.abc_state.specs.Routines.{routine_of}
use Rattle.abc_state.specs.declared.actuals.Actual.{Actual as HeldActual}
use Rattle.abc_state.specs.declared.displays.Filler.{Filler}
use Rattle.abc_state.specs.declared.displays.Filler.TheVariants.{One, Range}
use Rattle.abc_state.specs.declared.displays.Filling.{Filling as HeldFilling}
use Rattle.abc_state.specs.declared.displays.Tabling.{Tabling as HeldTabling}
use Rattle.abc_state.specs.declared.texts.Stretch.{Stretch}
use Rattle.abc_state.specs.declared.texts.Stretch.TheVariants.{Characters, Outer}
use Rattle.abc_state.specs.declared.texts.Wording.{Wording as HeldWording}

-- a step from a value to a part of it
abbrev pub step_of : HeldStep → Step
step_of (Key v) = key v

abbrev pub address_over : Spot-F Address → Address
address_over (Place i steps) = place i (map step_of steps)
address_over (Several all) = several (row all)

-- an address
abbrev pub address_of : Spot → Address
address_of = fold-Spot Address address_over

-- a formal of the command unit that is under way
abbrev pub formal_of : HeldFormal → Formal
formal_of f = record { name = f.name; address = option_map address_of f.address; changed = f.changed }

-- The state: what the run holds, the targets, and the lines that are left with whether the input ends behind them.
abbrev pub state_of : Run → Targets → List RawLine → Bool → State
state_of run targets lines ended =
    record { targets = targets; names = run.names; formals = map formal_of run.formals; lines = lines; ended = ended; output = run.output; left = run.left }

-- how a command ends
abbrev pub flow_of : Exit → Flow
flow_of GoesOn = goes_on
flow_of Quits = quits
flow_of (Returns v) = returns v
flow_of (Reports b) = reports b

-- the immediate command or the unit whose names these are
abbrev pub scope_of : Table → Scope
scope_of table = routine_of table.routine

-- among these names, on this line of the immediate command
abbrev pub at : Scope → ℕ → Here
at scope line = record { scope = scope; line = line }

-- what an actual gives
abbrev pub actual_of : HeldActual → Actual
actual_of a = record { value = a.value; address = option_map address_of a.address }

-- the elements of a range that was made; none where that was a fault
abbrev pub made_elements : Result Tree ValueFault → List Tree
made_elements (Ok t) = parts_of t
made_elements (Err f) = []

-- the elements from one value to another; none where these make no range
abbrev pub range_elements : Tree → Tree → List Tree
range_elements p q = if have_range p q then made_elements (range_of p q) else []

-- the elements of a filler
abbrev pub filler_elements : Filler → List Tree
filler_elements (One v) = v ∷ []
filler_elements (Range p q) = range_elements p q

-- what was found of a display or of a text
abbrev pub filling_of : HeldFilling → Filling
filling_of f = record { elements = flat_map filler_elements f.fillers; form = f.shape }

abbrev pub tabling_of : HeldTabling → Tabling
tabling_of t = record { pairs = t.pairs; keys = t.keys; associates = t.associates }

-- the characters of a stretch of a text
abbrev pub stretch_text : Stretch → List ℕ
stretch_text (Characters b) = b
stretch_text (Outer v) = outer v

abbrev pub wording_of : HeldWording → Wording
wording_of w = record { characters = flat_map stretch_text w.stretches; typed = w.typed }
