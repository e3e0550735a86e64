-- A class whose kind leaves its form open takes each type of the kind, while others keep theirs.
use Rattle.std.proofs.Common.{◌≡◌, ◌∙◌, ℕ, zero, suc, ◌<◌, ◌≤◌, ◌⊎◌, Bool, true, false, inl, inr, List, get_or, ap, sym, subst, refl, arith}
use Rattle.std.proofs.lemmas.Bool.{cases_eq}
use Rattle.abc_num.specs.declared.types.Ground.{Ground, out-Ground}
use Rattle.abc_unify.specs.declared.kind.Kind.{Kind}
use Rattle.abc_unify.specs.declared.kind.Kind.TheVariants.{Free}
use Rattle.abc_unify.specs.declared.kind.Slot.TheVariants.{Root}
use Rattle.abc_unify.specs.declared.kind.Slot.{Slot}
use Rattle.abc_unify.specs.inner.Kinds.{Fits}
use Rattle.abc_unify.specs.inner.Slots.{SlotHolds, Meets, SlotsIn, root_of, IsChild, IsRanked}
use Rattle.abc_unify.proofs.Solutions.{IsClosed, assignment, has_solution, solution_is_given, fits_same, root_of-root}
use Rattle.abc_unify.proofs.Walking.{meets_root}

at_most : ℕ → ℕ → Bool
at_most zero n = true
at_most (suc m) zero = false
at_most (suc m) (suc n) = at_most m n

at_most_le : (m n : ℕ) → at_most m n ≡ true → m ≤ n
unfolding at_most
at_most_le zero n e = omega arith
at_most_le (suc m) zero e = absurd (cc)
at_most_le (suc m) (suc n) e = let h : m ≤ n = at_most_le m n e in omega arith

le_at_most : (m n : ℕ) → m ≤ n → at_most m n ≡ true
unfolding at_most
le_at_most zero n h = refl
le_at_most (suc m) zero h = absurd (omega arith)
le_at_most (suc m) (suc n) h = le_at_most m n (omega arith)

pick : {i r : ℕ} → ((i ≡ r) ⊎ (i ≡ r → ⊥)) → Ground → Ground → Ground
pick (inl e) g h = g
pick (inr ne) g h = h

pick_same : {i r : ℕ} (p : (i ≡ r) ⊎ (i ≡ r → ⊥)) (g h : Ground) → i ≡ r → pick p g h ≡ g
unfolding pick
pick_same (inl e) g h same = refl
pick_same (inr ne) g h same = absurd (ne same)

pick_other : {i r : ℕ} (p : (i ≡ r) ⊎ (i ≡ r → ⊥)) (g h : Ground) → (i ≡ r → ⊥) → pick p g h ≡ h
unfolding pick
pick_other (inl e) g h apart = absurd (apart e)
pick_other (inr ne) g h apart = refl

module _ (slots : List Slot) (inside : SlotsIn slots) (rank : ℕ → ℕ) (ranked : IsRanked slots rank) (v : ℕ → Ground) (meets : Meets v slots) (r : ℕ) (kind : Kind) (is : get_or slots r (Root Free) ≡ Root kind) (g : Ground) (fits : Fits v (out-Ground g) kind) where
  held : ℕ → Bool
  held i = at_most (rank i) (rank r)

  turned : ℕ → Ground
  turned i = pick (cases_eq i r) g (v i)

  turned_child : (i x : ℕ) (k : Kind) → rank i ≤ rank r → get_or slots i (Root Free) ≡ Root k → IsChild k x → v x ≡ turned (root_of slots x)
  unfolding turned
  turned_child i x k h is_k c =
      let below : rank (root_of slots x) < rank i = ranked.falls i k x is_k c in
      let apart : root_of slots x ≡ r → ⊥ = λ e. let s : rank (root_of slots x) ≡ rank r = ap rank e in absurd (omega arith) in
      meets_root v slots x meets ∙ sym (pick_other (cases_eq (root_of slots x) r) g (v (root_of slots x)) apart)

  closed : IsClosed slots held turned
  unfolding held turned pick
  closed = record {
    meets = λ i k on is_k. here i k (at_most_le (rank i) (rank r) on) is_k (cases_eq i r);
    closed = λ i k x on is_k c.
        let below : rank (root_of slots x) < rank i = ranked.falls i k x is_k c in
        let low : rank i ≤ rank r = at_most_le (rank i) (rank r) on in
        le_at_most (rank (root_of slots x)) (rank r) (omega arith);
  }
    where
      here : (i : ℕ) (k : Kind) → rank i ≤ rank r → get_or slots i (Root Free) ≡ Root k → (p : (i ≡ r) ⊎ (i ≡ r → ⊥)) → Fits (λ x. turned (root_of slots x)) (out-Ground (pick p g (v i))) k
      here i k low is_k (inl e) =
          let same : kind ≡ k = let a : get_or slots i (Root Free) ≡ get_or slots r (Root Free) = ap (λ j. get_or slots j (Root Free)) e in cc in
          fits_same v (λ x. turned (root_of slots x)) (out-Ground g) k (λ x c. turned_child i x k low is_k c) (subst (λ y. Fits v (out-Ground g) y) same fits)
      here i k low is_k (inr ne) =
          fits_same v (λ x. turned (root_of slots x)) (out-Ground (v i)) k (λ x c. turned_child i x k low is_k c) (subst (λ s. SlotHolds v (v i) s) is_k (meets i))

  -- the root takes the type, and what does not rank above it and is of another class keeps its own
  pub can_vary : (w : ℕ → Ground) × Meets w slots × (w r ≡ g) × ((x : ℕ) → (root_of slots x ≡ r → ⊥) → rank (root_of slots x) ≤ rank r → w x ≡ v x)
  unfolding held turned
  can_vary = (
    assignment slots held turned rank,
    has_solution slots held turned rank ranked closed inside,
    at_r,
    λ x apart low.
        solution_is_given slots held turned rank ranked x (le_at_most (rank (root_of slots x)) (rank r) low)
        ∙ (pick_other (cases_eq (root_of slots x) r) g (v (root_of slots x)) apart ∙ sym (meets_root v slots x meets)),
  )
    where
      at_r : assignment slots held turned rank r ≡ g
      at_r =
          let root : root_of slots r ≡ r = root_of-root slots r kind is in
          let low : at_most (rank (root_of slots r)) (rank r) ≡ true = le_at_most (rank (root_of slots r)) (rank r) (let s : rank (root_of slots r) ≡ rank r = ap rank root in omega arith) in
          solution_is_given slots held turned rank ranked r low ∙ pick_same (cases_eq (root_of slots r) r) g (v (root_of slots r)) root
