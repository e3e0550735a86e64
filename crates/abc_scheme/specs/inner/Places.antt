-- A table of the places of variables in a list.
use Rattle.std.specs.Prelude.{◌≡◌, ℕ, ◌<◌, List, map, length, Some, slice_get}
use Rattle.abc_terms.specs.declared.term.VarId.{VarId}
use Rattle.abc_terms.specs.Renamed.{variable, number_in}
use Rattle.abc_unify.specs.declared.forms.Known.{Known}

-- the numbers of the known variables
abbrev pub numbers : List Known → List ℕ
numbers all = map (λ e. e.at.0) all

-- for each of the first k variables of the list the table has a place at which it stands; all that it has are places
pub record PlacedUpto (known : List ℕ) (k : ℕ) (table : List VarId) : Type 0 where
  pub at_place : (i x : ℕ) → i < k → slice_get known i ≡ Some x → slice_get known (number_in table x) ≡ Some x
  pub within : 0 < length known → (x : ℕ) → number_in table x < length known

abbrev pub ArePlaces : List ℕ → List VarId → Type 0
ArePlaces known table = PlacedUpto known (length known) table

-- the variables with others in their place
abbrev pub placed_vars : (ℕ → ℕ) → List VarId → List VarId
placed_vars f vars = map (λ a. variable (f a.0)) vars
