-- Names that are added with the values to which they are set.
use Rattle.std.specs.Prelude.{◌≡◌, Result, Ok, Err, List, ◌++◌, Option, Some, None, map, option_map}
use Rattle.abc_tree.specs.declared.formulas.Bound.{Bound}
use Rattle.abc_value.specs.declared.faults.RunFault.TheVariants.{Memory}
use Rattle.abc_value.specs.Tree.{Tree, trees}
use Rattle.abc_meaning.specs.Bindings.{Bindings, bindings, at_fields}
use Rattle.abc_state.specs.declared.halt.Halt.{Halt}
use Rattle.abc_state.specs.declared.halt.Halt.TheVariants.{Fault, Wrong}

-- They were added where they match. The answer is Wrong where they don't; want of memory may come at any time.
abbrev pub Adds : Result (Unit {0}) Halt → Option Bindings → Bindings → Bindings → Type 0
Adds (Ok u) o old new = option_map (λ bs. old ++ bs) o ≡ Some new
Adds (Err (Fault f)) o old new = f ≡ Memory
Adds (Err Wrong) o old new = o ≡ None

-- those of each part at a field of its own
abbrev pub bindings_all : List Bound → List Tree → Option Bindings
bindings_all bounds vs = at_fields (map bindings bounds) (trees vs)
