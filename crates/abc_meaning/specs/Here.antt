-- Where a node stands: among which names, and on which line its faults are.
use Rattle.std.specs.Prelude.{ℕ, zero, suc, Bool, not, List, Option, Some, None, slice_get, option_and_then, if◌then◌else◌}
use Rattle.abc_tree.specs.RegularItems.{parts_of, parts_of_unit, bounds_of, shared_names, is_among, refinement_by}
use Rattle.abc_tree.specs.declared.commands.Command.{Command}
use Rattle.abc_tree.specs.declared.commands.Unit.{Unit as Routine}
use Rattle.abc_tree.specs.declared.commands.Refinement.{Refinement}
use Rattle.abc_value.specs.Tree.{Tree}
use Rattle.abc_value.specs.declared.faults.RunFault.{RunFault}
use Rattle.abc_value.specs.declared.faults.RunFault.TheVariants.{BudgetSpent}
use Rattle.abc_frames.specs.Maps.{value_of, with_value, without, value_at, with_value_at, without_at}
use Rattle.abc_meaning.specs.State.{State, Stop, faulty, wrong, gives, stops, Run}

-- an immediate command, or a unit
pub data Scope : Type 0 where
  in_command : Command → Scope
  in_unit : Routine → Scope

-- and the line of the immediate command's node that is being evaluated
pub record Here : Type 0 where
  pub scope : Scope
  pub line : ℕ

abbrev pub line_in : Scope → ℕ → ℕ → ℕ
line_in (in_command c) line outer = line
line_in (in_unit u) line outer = outer

-- At a line of the command. Within a unit the line stays that of its call.
abbrev pub at_line : ℕ → Here → Here
at_line line here = record here { line = line_in here.scope line here.line }

-- in a unit that is called from here
abbrev pub within : Routine → Here → Here
within unit here = record here { scope = in_unit unit }

abbrev pub names_in : Scope → List (List ℕ)
names_in (in_command c) = c.names
names_in (in_unit u) = u.names

-- the names that FOR and quantifiers bind
abbrev pub bound_in : Scope → List ℕ
bound_in (in_command c) = bounds_of (parts_of c.action)
bound_in (in_unit u) = bounds_of (parts_of_unit u)

abbrev pub is_bound : Scope → ℕ → Bool
is_bound scope i = is_among (bound_in scope) i

-- in an immediate command a name is a target unless it is bound, and in a unit where it is shared
abbrev pub is_target : Scope → ℕ → Bool
is_target (in_command c) i = not (is_bound (in_command c) i)
is_target (in_unit u) i = is_among (shared_names u) i

-- the target that a name is, if it is one
abbrev pub target_at : Scope → ℕ → Option (List ℕ)
target_at scope i = if is_target scope i then slice_get (names_in scope) i else None

-- the refinement of the unit that has this name, if there is one
abbrev pub refinement_named : Scope → List ℕ → Option Refinement
refinement_named (in_command c) name = None
refinement_named (in_unit u) name = refinement_by name u.refinements

abbrev pub refinement_at : Scope → ℕ → Option Refinement
refinement_at scope i = option_and_then (refinement_named scope) (slice_get (names_in scope) i)

-- the value of a name, where it has one: of a target, or of a name of the call that is under way
abbrev pub value_in : Option (List ℕ) → ℕ → State → Option Tree
value_in (Some name) i s = value_of name s.targets
value_in None i s = value_at i s.names

abbrev pub look : Scope → ℕ → State → Option Tree
look scope i s = value_in (target_at scope i) i s

-- the name has this value, or none, from now on
abbrev pub assign_in : Option (List ℕ) → ℕ → Option Tree → State → State
assign_in (Some name) i (Some v) s = record s { targets = with_value name v s.targets }
assign_in (Some name) i None s = record s { targets = without name s.targets }
assign_in None i (Some v) s = record s { names = with_value_at i v s.names }
assign_in None i None s = record s { names = without_at i s.names }

abbrev pub assign : Scope → ℕ → Option Tree → State → State
assign scope i v s = assign_in (target_at scope i) i v s

-- a stop at the line of the node
abbrev pub halt : {A : Type 0} → Here → Stop → Run A
halt here stop = stops here.line stop

-- a run fault, and that no types fit
abbrev pub fault : {A : Type 0} → Here → RunFault → Run A
fault here f = stops here.line (faulty f)

abbrev pub mistake : {A : Type 0} → Here → Run A
mistake here = stops here.line wrong

-- one step more
abbrev pub spend_of : ℕ → Here → Run (Unit {0})
spend_of zero here s = fault here BudgetSpent s
spend_of (suc n) here s = gives tt (record s { left = n })

abbrev pub spend : Here → Run (Unit {0})
spend here s = spend_of s.left here s
