-- What the search for a cycle of classes finds.
use Rattle.std.specs.Prelude.{◌≡◌, ℕ, zero, suc, ◌+◌, ◌*◌, ◌<◌, ◌≤◌, ◌⊎◌, List, [], length, slice_index, slice_index_or, Bool, false}
use Rattle.std.specs.List.{All, AllPairs, Contains, sum_by}
use Rattle.abc_num.specs.declared.types.Ground.{Ground}
use Rattle.abc_terms.specs.Sizes.{size}
use Rattle.abc_unify.specs.Outer.{IsText}
use Rattle.abc_unify.specs.declared.kind.Kind.{Kind}
use Rattle.abc_unify.specs.declared.kind.Kind.TheVariants.{Free}
use Rattle.abc_unify.specs.declared.kind.Slot.{Slot}
use Rattle.abc_unify.specs.declared.kind.Slot.TheVariants.{Root}
use Rattle.abc_unify.specs.declared.log.Entry.{Entry}
use Rattle.abc_unify.specs.declared.cycle.Walk.{Walk}
use Rattle.abc_unify.specs.declared.cycle.Walk.TheVariants.{Cycle, Done}
use Rattle.abc_unify.specs.inner.Slots.{Meets, IsRoot, IsChild, root_of}

-- along an edge a type gets smaller, or both are text
abbrev pub LeadsTo : Ground → Ground → Type 0
LeadsTo g h = (IsText g × IsText h) ⊎ (size h < size g)

-- the class of a variable that the kind names
abbrev pub IsBelow : List Slot → Kind → ℕ → Type 0
IsBelow slots k r = (x : ℕ) × IsChild k x × (r ≡ root_of slots x)

-- how often a class is still to be marked: 2 where it is to be visited, 1 on the way, 0 where it is done
abbrev pub mark_weight : ℕ → ℕ
mark_weight zero = 2
mark_weight (suc zero) = 1
mark_weight (suc (suc m)) = 0

-- all classes that the class names are done, and were so before it
abbrev pub IsDone : List Slot → List ℕ → ℕ → Type 0
IsDone slots marks i = (k : Kind) (x : ℕ) → slice_index_or slots i (Root Free) ≡ Root k → IsChild k x → (2 ≤ slice_index marks (root_of slots x)) × (slice_index marks (root_of slots x) < slice_index marks i)

-- the marks of a search in depth, which stands at the end of the stack
pub record Marked (slots : List Slot) (marks stack : List ℕ) (next : ℕ) : Type 0 where
  pub same_length : length marks ≡ length slots
  pub from_two : 2 ≤ next
  pub inside : All (λ i. i < length slots) stack
  pub roots : All (λ i. IsRoot (slice_index_or slots i (Root Free))) stack
  pub on_the_way : All (λ i. slice_index marks i ≡ 1) stack
  pub all_on_the_way : (i : ℕ) → slice_index marks i ≡ 1 → Contains stack i
  pub early : (i : ℕ) → slice_index marks i < next
  pub done : (i : ℕ) → 2 ≤ slice_index marks i → IsDone slots marks i
  pub distinct : AllPairs (λ i j. i ≡ j → ⊥) stack
  pub path : (v : ℕ → Ground) → Meets v slots → AllPairs (λ i j. LeadsTo (v i) (v j)) stack
  pub room : next + sum_by mark_weight marks ≤ 2 * length slots + 2

-- the class names others, and is text wherever the slots hold
pub record IsOnCycle (slots : List Slot) (top : ℕ) : Type 0 where
  pub inside : top < length slots
  pub root : IsRoot (slice_index_or slots top (Root Free))
  pub names_others : (k : Kind) → slice_index_or slots top (Root Free) ≡ Root k → (r : ℕ) × IsBelow slots k r
  pub is_text : (v : ℕ → Ground) → Meets v slots → IsText (v top)

-- the class is done, or no slot names it
abbrev pub IsPassed : List Bool → List ℕ → ℕ → Type 0
IsPassed named marks r = (2 ≤ slice_index marks r) ⊎ (slice_index_or named r false ≡ false)

-- what a search from one class says: a cycle, or that this class and those that were done are done
abbrev pub IsVisit : List Slot → List ℕ → List ℕ → ℕ → Walk → Type 0
IsVisit slots before marks start (Cycle top) = IsOnCycle slots top
IsVisit slots before marks start (Done next) = Marked slots marks [] next × (2 ≤ slice_index marks start) × ((i : ℕ) → 2 ≤ slice_index before i → 2 ≤ slice_index marks i)

-- the same of a search that is made only where slots name the class
abbrev pub IsTurn : List Slot → List Bool → List ℕ → List ℕ → ℕ → Walk → Type 0
IsTurn slots named before marks start (Cycle top) = IsOnCycle slots top
IsTurn slots named before marks start (Done next) = Marked slots marks [] next × IsPassed named marks start × ((i : ℕ) → 2 ≤ slice_index before i → 2 ≤ slice_index marks i)

-- all classes that are reached from what was written are done, but those that no slot names, and no cycle was found
pub record IsSearched (slots : List Slot) (named : List Bool) (written : List Entry) : Type 0 where
  pub marks : List ℕ
  pub next : ℕ
  pub marked : Marked slots marks [] next
  pub found : All (λ e. IsPassed named marks (root_of slots e.at.0)) written
