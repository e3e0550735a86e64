-- How names are seen that are kept.
use Rattle.std.specs.Prelude.{ℕ, List, Option, map}
use Rattle.abc_value.specs.Tree.{Tree}
use Rattle.abc_acts.specs.declared.binding.Held.{Held}

-- names, each with the value that it had, or none
abbrev pub held_of : List Held → List (ℕ × Option Tree)
held_of all = map (λ h. (h.name, h.value)) all
