-- Where all that slots name is noted, the classes that they name are.
use Rattle.std.proofs.Common.{◌≡◌, ◌∙◌, ℕ, zero, suc, ◌<◌, ◌≤◌, ◌⊎◌, inl, inr, List, [], ◌∷◌, Bool, true, false, length, get_or, set, sym, ap, subst, arith, refl, get_or-set_other, get_or-set_same}
use Rattle.std.proofs.Math.ListN.{length-set, get_or-eq_default}
use Rattle.std.proofs.lemmas.Bool.{cases_eq, cases_lt}
use Rattle.std.proofs.lemmas.List.Elements.{All-head, All-tail, All-nil, All-weaker}
use Rattle.std.specs.List.{All}
use Rattle.abc_terms.specs.declared.term.VarId.{VarId}
use Rattle.abc_unify.specs.declared.kind.Kind.{Kind}
use Rattle.abc_unify.specs.declared.kind.Kind.TheVariants.{Free}
use Rattle.abc_unify.specs.declared.kind.Slot.{Slot}
use Rattle.abc_unify.specs.declared.kind.Slot.TheVariants.{Link, Root}
use Rattle.abc_unify.specs.inner.Kinds.{children}
use Rattle.abc_unify.specs.inner.Slots.{SlotsIn, SlotIn, root_of, IsAmong, IsChild}
use Rattle.abc_unify.specs.inner.Naming.{slot_names, IsNamed, NamesNoted, HasGrown}
use Rattle.abc_unify.proofs.Solutions.{root_of-link, root_of-root}

among_named : (named : List Bool) (xs : List VarId) (x : ℕ) → All (λ y. IsNamed named y.0) xs → IsAmong x xs → IsNamed named x
among_named named [] x all c = absurd c
among_named named (y ∷ ys) x all (inl e) = subst (λ z. IsNamed named z) (sym e) (All-head (λ z. IsNamed named z.0) y ys all)
among_named named (y ∷ ys) x all (inr c) = among_named named ys x (All-tail (λ z. IsNamed named z.0) y ys all) c

pub slot_noted : (named : List Bool) (slots : List Slot) → All (NamesNoted named) slots → (i : ℕ) → NamesNoted named (get_or slots i (Root Free))
slot_noted named slots noted i = elim (cases_lt i (length slots)) [
  | inl low ↦ noted i (Root Free) low
  | inr high ↦ subst (λ s. NamesNoted named s) (sym (get_or-eq_default slots (Root Free) high)) (All-nil (λ x. IsNamed named x.0))
]

module _ (slots : List Slot) (inside : SlotsIn slots) (named : List Bool) (noted : All (NamesNoted named) slots) where
  root_named : (f x : ℕ) → x < f → IsNamed named x → IsNamed named (root_of slots x)
  root_named zero x h n = absurd (omega arith)
  root_named (suc f) x h n = by_slot (λ y below. root_named f y (omega arith)) (get_or slots x (Root Free)) refl
    where
      by_slot : ((y : ℕ) → y < x → IsNamed named y → IsNamed named (root_of slots y)) → (t : Slot) → get_or slots x (Root Free) ≡ t → IsNamed named (root_of slots x)
      by_slot again (Root k) is = subst (λ r. IsNamed named r) (sym (root_of-root slots x k is)) n
      by_slot again (Link b) is =
          let below : b.0 < x = subst (λ t. SlotIn (length slots) x t) is (inside x) in
          let here : IsNamed named b.0 = All-head (λ y. IsNamed named y.0) b [] (subst (λ t. NamesNoted named t) is (slot_noted named slots noted x)) in
          subst (λ r. IsNamed named r) (sym (root_of-link slots x b inside is)) (again b.0 below here)

  pub child_named : (i : ℕ) (k : Kind) (x : ℕ) → get_or slots i (Root Free) ≡ Root k → IsChild k x → IsNamed named (root_of slots x)
  child_named i k x is c = root_named (suc x) x (omega arith) (among_named named (children k) x (subst (λ t. NamesNoted named t) is (slot_noted named slots noted i)) c)

pub still_noted : (named named2 : List Bool) → ((x : ℕ) → IsNamed named x → IsNamed named2 x) → (s : Slot) → NamesNoted named s → NamesNoted named2 s
still_noted named named2 more s noted = All-weaker (λ x. IsNamed named x.0) (λ x. IsNamed named2 x.0) (λ x n. more x.0 n) (slot_names s) noted

pub grown_nothing : (named : List Bool) → HasGrown named named
grown_nothing named = record { same_length = refl; kept = λ x n. n }

pub grown_then : (a b c : List Bool) → HasGrown a b → HasGrown b c → HasGrown a c
grown_then a b c one two = record { same_length = two.same_length ∙ one.same_length; kept = λ x n. two.kept x (one.kept x n) }

pub grown_set : (named : List Bool) (i : ℕ) → HasGrown named (set named i true)
grown_set named i = record { same_length = length-set named i true; kept = λ x n. here x n (cases_eq x i) (cases_lt i (length named)) }
  where
    here : (x : ℕ) → IsNamed named x → ((x ≡ i) ⊎ (x ≡ i → ⊥)) → ((i < length named) ⊎ (length named ≤ i)) → IsNamed (set named i true) x
    here x n (inr apart) h = get_or-set_other named i x true false apart ∙ n
    here x n (inl same) (inl low) = ap (λ j. get_or (set named i true) j false) same ∙ get_or-set_same named i true false low
    here x n (inl same) (inr high) = absurd (let out : get_or named x false ≡ false = ap (λ j. get_or named j false) same ∙ get_or-eq_default named false high in cc)
