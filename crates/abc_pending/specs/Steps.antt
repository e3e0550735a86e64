-- What a step of the pending work comes to.
use Rattle.std.specs.Prelude.{◌≡◌, ℕ, List, Result, Ok, Err}
use Rattle.abc_tree.specs.declared.commands.Unit.{Unit as Routine}
use Rattle.abc_frames.specs.Maps.{Targets}
use Rattle.abc_outside.specs.Lines.{Unread, lines_in}
use Rattle.abc_meaning.specs.State.{State, Got, stops, wants}
use Rattle.abc_meaning.specs.Here.{Scope}
use Rattle.abc_state.specs.Views.{state_of}
use Rattle.abc_state.specs.Agrees.{Halts}
use Rattle.abc_state.specs.declared.run.Run.{Run}
use Rattle.abc_state.specs.declared.halt.Halt.TheVariants.{Fault}
use Rattle.abc_state.specs.declared.reading.LineHalt.{LineHalt}
use Rattle.abc_state.specs.declared.reading.LineHalt.TheVariants.{Fault as LineFault, Long as NoEnd, Input as NoInput}
use Rattle.abc_tree.specs.declared.formulas.Expr.{Expr}
use Rattle.abc_tree.specs.declared.formulas.Fill.{Fill}
use Rattle.abc_tree.specs.declared.formulas.Piece.{Piece}
use Rattle.abc_tree.specs.declared.formulas.Pair.{Pair}
use Rattle.abc_tree.specs.declared.formulas.Expr.TheOpen.{Expr-F}
use Rattle.abc_tree.specs.declared.commands.Action.{Action}
use Rattle.abc_tree.specs.declared.commands.Alternative.{Alternative}
use Rattle.abc_tree.specs.declared.commands.ActionNode.{ActionNode}
use Rattle.abc_tree.specs.declared.commands.ActionNode.TheOpen.{ActionNode-F}
use Rattle.abc_pending.specs.Pending.{Answer, val, truth, flow, actual, address, Job, perform}
use Rattle.abc_pending.specs.Views.{begin_of}
use Rattle.abc_pending.specs.declared.pending.Next.{Next}
use Rattle.abc_pending.specs.declared.stopped.Halted.{Halted}
use Rattle.abc_pending.specs.declared.stopped.Stopped.{Stopped}
use Rattle.abc_pending.specs.declared.stopped.Stopped.TheVariants.{Halted as OnLine, Long, Input}

-- the state, with the lines of what is unread
abbrev pub state_with : Run → Targets → Unread → State
state_with run targets unread = state_of run targets (lines_in unread) unread.ends

-- the meaning wants a line that isn't there yet, in this state
abbrev pub WantsLine : {B : Type 0} → Got B → State → Type 0
WantsLine g s = (line : ℕ) × (g ≡ stops line wants s)

-- The work goes on and leads to the same in this scope, or the meaning stops as it does, on the line that it tells.
abbrev pub Resumes : List Routine → Scope → Result Next Halted → State → Got Answer → Type 0
Resumes units scope (Ok next) s g = g ≡ begin_of units scope next s
Resumes units scope (Err h) s g = Halts h.line h.halt s g

-- The same where READ may take a line. The state old has the lines from before; a fault of the input says nothing of the meaning.
abbrev pub Starts : List Routine → Scope → Result Next Stopped → State → State → Got Answer → Type 0
Starts units scope (Ok next) old new g = g ≡ begin_of units scope next new
Starts units scope (Err (OnLine h)) old new g = Halts h.line h.halt new g
Starts units scope (Err Long) old new g = WantsLine g old
Starts units scope (Err Input) old new g = Unit {0}

-- why no line was taken, told on this line
abbrev pub stop_of : ℕ → LineHalt → Stopped
stop_of line (LineFault f) = OnLine (record { line = line; halt = Fault f })
stop_of line NoEnd = Long
stop_of line NoInput = Input

-- an expression whose form is no address
abbrev pub IsPlain : Expr-F Expr Fill Piece Pair → Type 0
IsPlain (Expr-F.Name i) = ⊥
IsPlain (Expr-F.Select t k) = ⊥
IsPlain (Expr-F.Compound es) = ⊥
IsPlain e = Unit {0}

-- a command that takes no line, and work that is no command
abbrev pub TakesNoLine : ActionNode-F ActionNode Action Alternative → Type 0
TakesNoLine (ActionNode-F.ReadExample a e) = ⊥
TakesNoLine (ActionNode-F.ReadRaw a) = ⊥
TakesNoLine node = Unit {0}

abbrev pub IsNoCommand : Job → Type 0
IsNoCommand (perform body) = ⊥
IsNoCommand job = Unit {0}

-- answers of another kind
abbrev pub IsNoValue : Answer → Type 0
IsNoValue (val v) = ⊥
IsNoValue a = Unit {0}

abbrev pub IsNoTruth : Answer → Type 0
IsNoTruth (truth b) = ⊥
IsNoTruth a = Unit {0}

abbrev pub IsNoFlow : Answer → Type 0
IsNoFlow (flow f) = ⊥
IsNoFlow a = Unit {0}

abbrev pub IsNoActual : Answer → Type 0
IsNoActual (actual x) = ⊥
IsNoActual a = Unit {0}

abbrev pub IsNoAddress : Answer → Type 0
IsNoAddress (address x) = ⊥
IsNoAddress a = Unit {0}
