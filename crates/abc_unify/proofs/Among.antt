-- A variable is among others where it has a place among them.
use Rattle.std.proofs.Common.{◌≡◌, ℕ, zero, suc, ◌<◌, ◌≤◌, inl, inr, List, [], ◌∷◌, length, get_or, sym, subst, arith, refl}
use Rattle.abc_terms.specs.declared.term.VarId.{VarId}
use Rattle.abc_terms.specs.Nodes.{AreIn}
use Rattle.abc_unify.specs.declared.kind.Slot.{Slot}
use Rattle.abc_unify.specs.declared.kind.Slot.TheVariants.{Root, Link}
use Rattle.abc_unify.specs.inner.Kinds.{children}
use Rattle.abc_unify.specs.inner.Slots.{IsAmong, SlotIn}
use Rattle.abc_unify.specs.inner.Naming.{slot_names}

pub among_place : (xs : List VarId) (x : ℕ) (d : VarId) → IsAmong x xs → (k : ℕ) × (k < length xs) × (x ≡ (get_or xs k d).0)
among_place [] x d c = absurd c
among_place (y ∷ ys) x d (inl e) = (0, omega arith, e)
among_place (y ∷ ys) x d (inr c) =
    let rest : (k : ℕ) × (k < length ys) × (x ≡ (get_or ys k d).0) = among_place ys x d c in
    (suc rest.0, omega (arith, rest.1), rest.2)

pub place_among : (xs : List VarId) (k : ℕ) (d : VarId) → k < length xs → IsAmong (get_or xs k d).0 xs
place_among [] k d h = absurd (omega arith)
place_among (y ∷ ys) zero d h = inl refl
place_among (y ∷ ys) (suc k) d h = inr (place_among ys k d (omega arith))

pub are_in_place : (n : ℕ) (xs : List VarId) (k : ℕ) (d : VarId) → AreIn n xs → k < length xs → (get_or xs k d).0 < n
are_in_place n [] k d i h = absurd (omega arith)
are_in_place n (y ∷ ys) zero d i h = i.0
are_in_place n (y ∷ ys) (suc k) d i h = are_in_place n ys k d i.1 (omega arith)

pub among_in : (n : ℕ) (xs : List VarId) (x : ℕ) → AreIn n xs → IsAmong x xs → x < n
among_in n [] x i c = absurd c
among_in n (y ∷ ys) x i (inl e) = subst (λ z. z < n) (sym e) i.0
among_in n (y ∷ ys) x i (inr c) = among_in n ys x i.1 c

pub are_in_more : (n m : ℕ) (xs : List VarId) → n ≤ m → AreIn n xs → AreIn m xs
are_in_more n m [] h i = tt
are_in_more n m (y ∷ ys) h i = (omega (arith, i.0), are_in_more n m ys h i.1)

pub slot_in_more : (n m i : ℕ) → n ≤ m → (s : Slot) → SlotIn n i s → SlotIn m i s
slot_in_more n m i h (Root k) inside = are_in_more n m (children k) h inside
slot_in_more n m i h (Link b) inside = inside

-- a slot names only some of the first n variables
pub names_in : (n i : ℕ) → i < n → (s : Slot) → SlotIn n i s → AreIn n (slot_names s)
names_in n i h (Root k) inside = inside
names_in n i h (Link b) inside = (omega (arith, inside), tt)
