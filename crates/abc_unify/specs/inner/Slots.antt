-- What slots and the pending constraints say together.
use Rattle.std.specs.Prelude.{◌≡◌, ℕ, zero, suc, ◌+◌, ◌<◌, ◌⊎◌, List, [], ◌∷◌, slice_index_or, length}
use Rattle.std.specs.List.{sum_by}
use Rattle.abc_num.specs.declared.types.Ground.{Ground, out-Ground}
use Rattle.abc_unify.specs.declared.kind.Kind.{Kind}
use Rattle.abc_unify.specs.declared.kind.Kind.TheVariants.{Free}
use Rattle.abc_unify.specs.declared.kind.Slot.{Slot}
use Rattle.abc_unify.specs.declared.kind.Slot.TheVariants.{Root, Link}
use Rattle.abc_unify.specs.declared.kind.Constraint.{Constraint}
use Rattle.abc_unify.specs.declared.kind.Solving.{Solving}
use Rattle.abc_unify.specs.declared.kind.Solving.TheVariants.{Solved, Clash}
use Rattle.abc_terms.specs.declared.term.VarId.{VarId}
use Rattle.abc_unify.specs.inner.Kinds.{Fits, ConstraintsHold, KindIn, children, kind_weight, constraint_weight}

-- a slot is itself a demand on its variable
abbrev pub SlotHolds : (ℕ → Ground) → Ground → Slot → Type 0
SlotHolds v g (Root k) = Fits v (out-Ground g) k
SlotHolds v g (Link b) = g ≡ v b.0

-- the types `v` meet all slots
abbrev pub Meets : (ℕ → Ground) → List Slot → Type 0
Meets v slots = (i : ℕ) → SlotHolds v (v i) (slice_index_or slots i (Root Free))

-- no types meet the slots and the constraints
abbrev pub HasNoSolution : List Slot → List Constraint → Type 0
HasNoSolution slots work = (v : ℕ → Ground) → Meets v slots → ConstraintsHold v work → ⊥

-- the types that meet the one meet the other
pub record KeepsSolutions (slots : List Slot) (work : List Constraint) (slots2 : List Slot) (work2 : List Constraint) : Type 0 where
  pub onward : (v : ℕ → Ground) → Meets v slots → ConstraintsHold v work → Meets v slots2 × ConstraintsHold v work2
  pub back : (v : ℕ → Ground) → Meets v slots2 → ConstraintsHold v work2 → Meets v slots × ConstraintsHold v work

-- what a step did: it kept the solutions, or there are none
abbrev pub Stepped : Solving → List Slot → List Constraint → List Slot → List Constraint → Type 0
Stepped Solved slots work slots2 work2 = KeepsSolutions slots work slots2 work2
Stepped Clash slots work slots2 work2 = HasNoSolution slots work

-- a kind names only some of the first n variables; a link leads to a smaller number than i
abbrev pub SlotIn : ℕ → ℕ → Slot → Type 0
SlotIn n i (Root k) = KindIn n k
SlotIn n i (Link b) = b.0 < i

-- the slots name only variables that were made, and their links fall
abbrev pub SlotsIn : List Slot → Type 0
SlotsIn slots = (i : ℕ) → SlotIn (length slots) i (slice_index_or slots i (Root Free))

-- the slot stands for its class
abbrev pub IsRoot : Slot → Type 0
IsRoot (Root k) = Unit {0}
IsRoot (Link b) = ⊥

-- what is still to do at a slot, as a number that falls
abbrev pub slot_weight : Slot → ℕ
slot_weight (Root k) = kind_weight k
slot_weight (Link b) = 0

-- the same of all slots and all constraints
abbrev pub weight : List Slot → List Constraint → ℕ
weight slots work = sum_by slot_weight slots + sum_by constraint_weight work

-- two links in a row lead from the one variable to the other
abbrev pub LeadsPast : List Slot → ℕ → VarId → Type 0
LeadsPast slots a beyond = (next : VarId) × (slice_index_or slots a (Root Free) ≡ Link next) × (slice_index_or slots next.0 (Root Free) ≡ Link beyond)

-- some links lead further: the same types meet the slots, and no more is to do
pub record IsShortened (slots slots2 : List Slot) : Type 0 where
  pub same_length : length slots2 ≡ length slots
  pub inside : SlotsIn slots2
  pub onward : (v : ℕ → Ground) → Meets v slots → Meets v slots2
  pub back : (v : ℕ → Ground) → Meets v slots2 → Meets v slots
  pub same_weight : sum_by slot_weight slots2 ≡ sum_by slot_weight slots

-- where a link leads, and a root stays
abbrev pub follow : (ℕ → ℕ) → ℕ → Slot → ℕ
follow go a (Root k) = a
follow go a (Link b) = go b.0

-- the variable that is reached from another over at most so many links
abbrev pub root_within : List Slot → ℕ → ℕ → ℕ
root_within slots zero a = a
root_within slots (suc f) a = follow (root_within slots f) a (slice_index_or slots a (Root Free))

-- the variable that stands for the class of a variable
unfoldable pub root_of : List Slot → ℕ → ℕ
root_of slots a = root_within slots (suc a) a

-- the variable is one of these
abbrev pub IsAmong : ℕ → List VarId → Type 0
IsAmong x [] = ⊥
IsAmong x (y ∷ ys) = (x ≡ y.0) ⊎ IsAmong x ys

-- the kind names the variable
abbrev pub IsChild : Kind → ℕ → Type 0
IsChild k x = IsAmong x (children k)

-- each class ranks above those that its kind names
pub record IsRanked (slots : List Slot) (rank : ℕ → ℕ) : Type 0 where
  pub falls : (i : ℕ) (k : Kind) (x : ℕ) → slice_index_or slots i (Root Free) ≡ Root k → IsChild k x → rank (root_of slots x) < rank i
