-- The immediate command or the unit whose names are looked up.
use Rattle.std.specs.Prelude.{ℕ, List, []}
use Rattle.abc_tree.specs.RegularItems.{shared_names}
use Rattle.abc_meaning.specs.Here.{Scope, in_command, in_unit}
use Rattle.abc_state.specs.declared.scope.Routine.{Routine}
use Rattle.abc_state.specs.declared.scope.Routine.TheVariants as names_of

abbrev pub routine_of : Routine → Scope
routine_of (names_of.Command c) = in_command c.now
routine_of (names_of.Unit u) = in_unit u.now

-- the names that a unit shares; an immediate command shares none
abbrev pub shared_in : Scope → List ℕ
shared_in (in_command c) = []
shared_in (in_unit u) = shared_names u
