-- Demands as constraints, one after the other.
use Rattle.std.proofs.Common.{◌≡◌, ℕ, ◌<◌, ◌↔◌, List, [], ◌∷◌, ◌++◌, sym, subst}
use Rattle.std.proofs.lemmas.List.Elements.{All-head, All-push}
use Rattle.std.specs.List.{All}
use Rattle.abc_num.specs.declared.types.Ground.{Ground}
use Rattle.abc_num.proofs.Parts.{All-front, All-behind}
use Rattle.abc_terms.specs.declared.term.VarId.{VarId}
use Rattle.abc_terms.specs.declared.term.Term.{Term}
use Rattle.abc_terms.specs.declared.demand.Demand.{Demand}
use Rattle.abc_terms.specs.declared.demand.Demand.TheVariants as demand
use Rattle.abc_terms.specs.Demands.{stands_for, Holds, MeetsAll}
use Rattle.abc_terms.specs.Nodes.{IsNode, DemandIn}
use Rattle.abc_unify.specs.declared.kind.Slot.{Slot}
use Rattle.abc_unify.specs.declared.kind.Slot.TheVariants.{Root, Link}
use Rattle.abc_unify.specs.declared.kind.Constraint.{Constraint}
use Rattle.abc_unify.specs.declared.kind.Constraint.TheVariants.{Equal, Is}
use Rattle.abc_unify.specs.inner.Kinds.{ConstraintHolds, ConstraintIn, ConstraintsHold, ConstraintsIn}
use Rattle.abc_unify.specs.inner.Slots.{SlotHolds, SlotIn}

-- what the slot of a term says of its variable
abbrev pub slot_constraint : VarId → Slot → Constraint
slot_constraint a (Root k) = Is a k
slot_constraint a (Link b) = Equal a b

term_slot : (v : ℕ → Ground) (a : VarId) (s : Slot) → SlotHolds v (v a.0) s ↔ ConstraintHolds v (slot_constraint a s)
term_slot v a (Root k) = (λ h. h, λ h. h)
term_slot v a (Link b) = (λ h. h, λ h. h)

slot_in : (n : ℕ) (a : VarId) (s : Slot) → a.0 < n → SlotIn n n s → ConstraintIn n (slot_constraint a s)
slot_in n a (Root k) h i = (h, i)
slot_in n a (Link b) h i = (h, i)

module _ (d : Demand) (a : VarId) (t : Term) (s r : Slot) (is : d ≡ demand.Is a t) (read : s ≡ r) where
  pub term_means : ((v : ℕ → Ground) (g : Ground) → (g ≡ stands_for v t) ↔ SlotHolds v g s) → (v : ℕ → Ground) → Holds v d ↔ ConstraintHolds v (slot_constraint a r)
  term_means means v =
      let here : (v a.0 ≡ stands_for v t) ↔ SlotHolds v (v a.0) r = subst (λ x. (v a.0 ≡ stands_for v t) ↔ SlotHolds v (v a.0) x) read (means v (v a.0)) in
      let on : SlotHolds v (v a.0) r ↔ ConstraintHolds v (slot_constraint a r) = term_slot v a r in
      subst (λ x. Holds v x ↔ ConstraintHolds v (slot_constraint a r)) (sym is) (λ h. on.0 (here.0 h), λ h. here.1 (on.1 h))

  pub term_inside : ((n : ℕ) → IsNode n t → SlotIn n n s) → (n : ℕ) → DemandIn n d → ConstraintIn n (slot_constraint a r)
  term_inside inside n d_in =
      let both : (a.0 < n) × IsNode n t = subst (λ x. DemandIn n x) is d_in in
      slot_in n a r both.0 (subst (λ x. SlotIn n n x) read (inside n both.1))

pub means_more : (ds : List Demand) (qs : List Constraint) (d : Demand) (q : Constraint) → ((v : ℕ → Ground) → MeetsAll v ds ↔ ConstraintsHold v qs) → ((v : ℕ → Ground) → Holds v d ↔ ConstraintHolds v q) → (v : ℕ → Ground) → MeetsAll v (ds ++ d ∷ []) ↔ ConstraintsHold v (qs ++ q ∷ [])
means_more ds qs d q old one v = (
  λ m. All-push (ConstraintHolds v) qs q ((old v).0 (All-front (Holds v) ds (d ∷ []) m)) ((one v).0 (All-head (Holds v) d [] (All-behind (Holds v) ds (d ∷ []) m))),
  λ m. All-push (Holds v) ds d ((old v).1 (All-front (ConstraintHolds v) qs (q ∷ []) m)) ((one v).1 (All-head (ConstraintHolds v) q [] (All-behind (ConstraintHolds v) qs (q ∷ []) m))),
)

pub inside_more : (ds : List Demand) (qs : List Constraint) (d : Demand) (q : Constraint) → ((n : ℕ) → All (DemandIn n) ds → ConstraintsIn n qs) → ((n : ℕ) → DemandIn n d → ConstraintIn n q) → (n : ℕ) → All (DemandIn n) (ds ++ d ∷ []) → ConstraintsIn n (qs ++ q ∷ [])
inside_more ds qs d q old one n i = All-push (ConstraintIn n) qs q (old n (All-front (DemandIn n) ds (d ∷ []) i)) (one n (All-head (DemandIn n) d [] (All-behind (DemandIn n) ds (d ∷ []) i)))
