-- The search in depth for the groups of numbered templates, and what holds between two of its steps.
use Rattle.std.specs.Prelude.{◌≡◌, ℕ, zero, suc, ◌+◌, ◌<◌, ◌≤◌, ◌⊎◌, ◌↔◌, Bool, true, false, List, length, slice_index_or}
use Rattle.std.specs.List.{All, AllPairs, Contains, sum_by}
use Rattle.abc_groups.specs.Reach.{AreTogether, DoesCall, Leads}
use Rattle.abc_groups.specs.inner.Explored.{row_of}
use Rattle.abc_groups.specs.inner.Least.{IsHere, IsAway}

abbrev pub IsInside : List (List ℕ) → Type 0
IsInside graph = (a : ℕ) → All (λ b. b < length graph) (row_of graph a)

abbrev pub away_mark : Bool → ℕ
away_mark true = 0
away_mark false = 1

abbrev pub mark : List ℕ → ℕ → ℕ
mark marks x = slice_index_or marks x 0

-- 0 is new, 1 is done, and from 2 on stands the place on the path; what is missing is done from the beginning
pub record IsPath (graph : List (List ℕ)) (marks path starts : List ℕ) : Type 0 where
  pub same_length : length marks ≡ length graph
  pub inside : All (λ x. x < length graph) path
  pub at : (p : ℕ) → p < length path → mark marks (slice_index_or path p 0) ≡ p + 2
  pub back : (x p : ℕ) → mark marks x ≡ p + 2 → (p < length path) × (slice_index_or path p 0 ≡ x)
  pub starts_in : All (λ s. s < length path) starts
  pub rising : AllPairs (λ s t. s < t) starts
  pub covers : (p : ℕ) → p < length path → (i : ℕ) × (i < length starts) × (slice_index_or starts i 0 ≤ p)
  pub leads : (p q : ℕ) → p < length path → q < length path → ((i : ℕ) → i < length starts → slice_index_or starts i 0 ≤ p → slice_index_or starts i 0 ≤ q) → Leads (row_of graph) (slice_index_or path p 0) (slice_index_or path q 0)
  pub closed : (x : ℕ) → mark marks x ≡ 1 → All (λ y. mark marks y ≡ 1) (row_of graph x)

-- each row is a class of those that reach each other, and calls itself and earlier ones alone
pub record AreClasses (graph : List (List ℕ)) (there : List Bool) (marks : List ℕ) (groups : List (List ℕ)) : Type 0 where
  pub exact : (g x y : ℕ) → g < length groups → Contains (row_of groups g) x → (Contains (row_of groups g) y ↔ AreTogether (row_of graph) x y)
  pub done : (g x : ℕ) → g < length groups → Contains (row_of groups g) x → mark marks x ≡ 1
  pub found : (x : ℕ) → mark marks x ≡ 1 → IsHere there x → (g : ℕ) × (g < length groups) × Contains (row_of groups g) x
  pub some : (g : ℕ) → g < length groups → 0 < length (row_of groups g)
  pub present : (g x : ℕ) → g < length groups → Contains (row_of groups g) x → IsHere there x
  pub once : (g h x : ℕ) → g < length groups → h < length groups → Contains (row_of groups g) x → Contains (row_of groups h) x → g ≡ h
  pub order : (g x y : ℕ) → g < length groups → Contains (row_of groups g) x → DoesCall (row_of graph) x y → IsHere there y → (h : ℕ) × (h ≤ g) × Contains (row_of groups h) y

-- what stands on the path from a place on
abbrev pub IsTop : List ℕ → ℕ → ℕ → Type 0
IsTop path start x = (p : ℕ) × (start ≤ p) × (p < length path) × (slice_index_or path p 0 ≡ x)

abbrev pub path_weight : ℕ → ℕ
path_weight zero = 3
path_weight (suc zero) = 0
path_weight (suc (suc p)) = 1

-- the row has what stood there, and is done
pub record IsTaken (marks path : List ℕ) (start : ℕ) (marks2 path2 row : List ℕ) : Type 0 where
  pub same_length : length marks2 ≡ length marks
  pub rest_length : length path2 ≡ start
  pub late : start ≤ length path
  pub light : sum_by path_weight marks2 ≤ sum_by path_weight marks
  pub rest : (p : ℕ) → p < start → slice_index_or path2 p 0 ≡ slice_index_or path p 0
  pub from : (x : ℕ) → Contains row x → IsTop path start x
  pub to : (x : ℕ) → IsTop path start x → Contains row x
  pub marked : (x : ℕ) → (Contains row x × (mark marks2 x ≡ 1)) ⊎ ((Contains row x → ⊥) × (mark marks2 x ≡ mark marks x))

-- a call out of the top of the path to what is not done
abbrev pub IsOpenMark : ℕ → ℕ → Type 0
IsOpenMark start m = (m ≡ 0) ⊎ ((2 ≤ m) × (m < start + 2))

abbrev pub IsShutMark : ℕ → ℕ → Type 0
IsShutMark start m = (m ≡ 1) ⊎ (start + 2 ≤ m)

abbrev pub IsShut : List (List ℕ) → List ℕ → List ℕ → ℕ → ℕ → Type 0
IsShut graph marks path start k = All (λ y. IsShutMark start (mark marks y)) (row_of graph (slice_index_or path k 0))

-- nothing is on the path
pub record IsIdle (graph : List (List ℕ)) (there : List Bool) (marks : List ℕ) : Type 0 where
  pub same_length : length marks ≡ length graph
  pub none : (x p : ℕ) → mark marks x ≡ p + 2 → ⊥
  pub away : (x : ℕ) → x < length marks → IsAway there x → mark marks x ≡ 1
  pub closed : (x : ℕ) → mark marks x ≡ 1 → All (λ y. mark marks y ≡ 1) (row_of graph x)

-- the classes of those that reach each other, each after those that it calls
pub record AreNumberGroups (graph : List (List ℕ)) (there : List Bool) (groups : List (List ℕ)) : Type 0 where
  pub exact : (g x y : ℕ) → g < length groups → Contains (row_of groups g) x → (Contains (row_of groups g) y ↔ AreTogether (row_of graph) x y)
  pub found : (x : ℕ) → x < length graph → IsHere there x → (g : ℕ) × (g < length groups) × Contains (row_of groups g) x
  pub some : (g : ℕ) → g < length groups → 0 < length (row_of groups g)
  pub present : (g x : ℕ) → g < length groups → Contains (row_of groups g) x → IsHere there x
  pub once : (g h x : ℕ) → g < length groups → h < length groups → Contains (row_of groups g) x → Contains (row_of groups h) x → g ≡ h
  pub order : (g x y : ℕ) → g < length groups → Contains (row_of groups g) x → DoesCall (row_of graph) x y → IsHere there y → (h : ℕ) × (h ≤ g) × Contains (row_of groups h) y

-- between two steps of the search from a root
pub record IsState (graph : List (List ℕ)) (there : List Bool) (before : List ℕ) (root : ℕ) (marks path starts : List ℕ) (groups : List (List ℕ)) : Type 0 where
  pub on_path : IsPath graph marks path starts
  pub classes : AreClasses graph there marks groups
  pub away : (x : ℕ) → x < length marks → IsAway there x → mark marks x ≡ 1
  pub begun : 1 ≤ mark marks root
  pub kept : (x : ℕ) → mark before x ≡ 1 → mark marks x ≡ 1
