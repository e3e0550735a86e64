-- What is known of the names that a line may speak of.
use Rattle.std.specs.Prelude.{ℕ, Bool, true, ◌&&◌, List, length, Option, Some, None, slice_get, is_some}
use Rattle.abc_num.specs.Names.{number_of}
use Rattle.abc_tree.specs.Regular.{Names}
use Rattle.abc_tree.specs.declared.commands.RefinementKind.{RefinementKind}
use Rattle.abc_tree.specs.declared.formulas.Test.{Test, fold-Test}
use Rattle.abc_tree.specs.declared.formulas.Test.TheOpen.{Test-F}

-- for each own name, by its number, the kind of the refinement that it is, if it is one
abbrev pub Kinds : Type 0
Kinds = List (Option RefinementKind)

abbrev pub kind_there : Option (Option RefinementKind) → Option RefinementKind
kind_there None = None
kind_there (Some kind) = kind

-- the kind of the refinement that the own name of this number is
abbrev pub refinement_at : Kinds → ℕ → Option RefinementKind
refinement_at kinds i = kind_there (slice_get kinds i)

-- what trees may know of the names
abbrev pub names_with : List (List ℕ) → Kinds → Names
names_with own kinds = record { count = length own; refinement = refinement_at kinds }

-- whether the keyword is a command refinement of the unit
abbrev pub is_refinement : List (List ℕ) → List ℕ → Bool
is_refinement commands x = is_some (number_of commands x)

module _ (kinds : Kinds) where
  abbrev pub lone_is : Test-F Bool → Bool
  lone_is (Test-F.And a b) = a && b
  lone_is (Test-F.Or a b) = a && b
  lone_is (Test-F.Not a) = a
  lone_is (Test-F.Quantified q bound train test) = test
  lone_is (Test-F.Refinement i) = is_some (refinement_at kinds i.0)
  lone_is _ = true

  -- each lone own name that stands as a test is a refinement
  abbrev pub lone_names_refine : Test → Bool
  lone_names_refine = fold-Test Bool lone_is
