-- The groups of templates that reach each other.
use Rattle.std.specs.Prelude.{◌≡◌, ◌≢◌, ◌<◌, ◌≤◌, ◌↔◌, ℕ, List, [], None, length, slice_index_or}
use Rattle.std.specs.List.{Contains}
use Rattle.abc_groups.specs.Reach.{AreTogether, DoesCall}
use Rattle.abc_groups.specs.Program.{Program, called}

abbrev pub group_at : List (List (List ℕ)) → ℕ → List (List ℕ)
group_at groups g = slice_index_or groups g []

pub record AreGroups (program : Program) (groups : List (List (List ℕ))) : Type 0 where
  -- with each member a group has exactly those that reach it and are reached from it
  pub exact : (g : ℕ) (x y : List ℕ) → g < length groups → Contains (group_at groups g) x → (Contains (group_at groups g) y ↔ AreTogether (called program) x y)
  -- none is empty
  pub some : (g : ℕ) → g < length groups → (x : List ℕ) × Contains (group_at groups g) x
  -- they have the templates whose unit is there, each in one group
  pub there : (g : ℕ) (x : List ℕ) → g < length groups → Contains (group_at groups g) x → program x ≢ None
  pub found : (x : List ℕ) → program x ≢ None → (g : ℕ) × (g < length groups) × Contains (group_at groups g) x
  pub once : (g h : ℕ) (x : List ℕ) → g < length groups → h < length groups → Contains (group_at groups g) x → Contains (group_at groups h) x → g ≡ h
  -- what a member calls is in its own group or in one before it
  pub order : (g : ℕ) (x y : List ℕ) → g < length groups → Contains (group_at groups g) x → DoesCall (called program) x y → program y ≢ None → (h : ℕ) × (h ≤ g) × Contains (group_at groups h) y
