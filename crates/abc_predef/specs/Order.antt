-- The order of the rows of a table, and the row of a name.
use Rattle.std.specs.Prelude.{ℕ, List, [], ◌∷◌, Bool, true, ◌&&◌, nat_eq, Option}
use Rattle.std.specs.Option.{option_map}
use Rattle.std.specs.List.{before_first, find}
use Rattle.std.specs.declared.cmp.Ordering.{Ordering}
use Rattle.std.specs.Ordering.{nat_cmp, ordering_then, is_lt}
use Rattle.abc_num.specs.Text.{text_cmp, text_eq}
use Rattle.abc_tree.specs.declared.operations.Op.{Op}
use Rattle.abc_predef.specs.declared.table.Row.{Row}
use Rattle.abc_predef.specs.declared.table.Operands.{Operands}
use Rattle.abc_predef.specs.declared.table.Operands.TheVariants.{One, Two}
use Rattle.abc_predef.specs.Characters.{space}

abbrev pub places_of : Operands → ℕ
places_of (One a) = 1
places_of (Two a b) = 2

-- the name of a row, without the spaces behind it
abbrev pub name_of : Row → List ℕ
name_of r = before_first (λ c. nat_eq c space) r.name

-- a name and a number of places
abbrev pub Key : Type 0
Key = List ℕ × ℕ

abbrev pub key_of : Row → Key
key_of r = (name_of r, places_of r.operands)

-- by name, and under one name by the number of places
abbrev pub key_order : Key → Key → Ordering
key_order j k = ordering_then (text_cmp j.0 k.0) (nat_cmp j.1 k.1)

-- each row is less than the next
abbrev pub are_rising : List Row → Bool
are_rising [] = true
are_rising (r ∷ []) = true
are_rising (r ∷ s ∷ rows) = is_lt (key_order (key_of r) (key_of s)) && are_rising (s ∷ rows)

-- whether a row has this name and number of places
abbrev pub is_named : Key → Row → Bool
is_named k r = text_eq (name_of r) k.0 && nat_eq (places_of r.operands) k.1

-- the operation of the row that has this name and number of places, if there is one
abbrev pub named : List Row → Key → Option Op
named rows k = option_map (λ r. r.op) (find (is_named k) rows)
