-- Which variables slots name, so that no search begins at what none names.
use Rattle.std.specs.Prelude.{◌≡◌, ℕ, List, [], ◌∷◌, Bool, true, false, length, slice_index_or}
use Rattle.std.specs.List.{All}
use Rattle.abc_terms.specs.declared.term.VarId.{VarId}
use Rattle.abc_unify.specs.declared.kind.Slot.{Slot}
use Rattle.abc_unify.specs.declared.kind.Slot.TheVariants.{Root, Link}
use Rattle.abc_unify.specs.declared.log.Entry.{Entry}
use Rattle.abc_unify.specs.inner.Kinds.{children}

-- the variables that a slot names
abbrev pub slot_names : Slot → List VarId
slot_names (Root k) = children k
slot_names (Link b) = b ∷ []

-- the variable counts as named
abbrev pub IsNamed : List Bool → ℕ → Type 0
IsNamed named x = slice_index_or named x false ≡ true

-- all that the slot names counts as named
abbrev pub NamesNoted : List Bool → Slot → Type 0
NamesNoted named s = All (λ x. IsNamed named x.0) (slot_names s)

-- what slots name, now or at an earlier point of the log, counts as named
pub record AreNoted (slots : List Slot) (log : List Entry) (named : List Bool) : Type 0 where
  pub room : length named ≡ length slots
  pub now : All (NamesNoted named) slots
  pub before : All (λ e. NamesNoted named e.was) log

-- what counted as named still does
pub record HasGrown (named named2 : List Bool) : Type 0 where
  pub same_length : length named2 ≡ length named
  pub kept : (x : ℕ) → IsNamed named x → IsNamed named2 x
