-- The names of a choice.
use Rattle.std.specs.Prelude.{ℕ, List, Option, option_map, string_bytes}
use Rattle.abc_outside.specs.declared.chosen.Chosen.{Chosen}

abbrev pub names_of : Chosen → List ℕ × Option (List ℕ)
names_of choice = (string_bytes choice.store, option_map string_bytes choice.input)
