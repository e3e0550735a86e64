-- Slots whose classes rank have a solution: types are built from below.
use Rattle.std.proofs.Common.{◌≡◌, ℕ, zero, suc, ◌<◌, Bool, true, false, cond, inl, inr, List, [], ◌∷◌, length, get_or, sym, ◌∙◌, ap, subst, arith, refl}
use Rattle.std.proofs.lemmas.Bool.{cases_Bool}
use Rattle.abc_num.specs.declared.types.Ground.{Ground}
use Rattle.abc_num.specs.declared.types.Ground.TheOpen.{Ground-F}
use Rattle.abc_num.specs.declared.types.Ground.TheViews.{out-Ground, roll-Ground, out-roll-Ground}
use Rattle.abc_num.specs.declared.types.Ground.TheVariants as type
use Rattle.abc_terms.specs.declared.term.VarId.{VarId}
use Rattle.abc_unify.specs.declared.kind.Kind.{Kind}
use Rattle.abc_unify.specs.declared.kind.Kind.TheVariants.{Free, Number, Text, NumberOrText, ListOf, TableOf, TrainOf, CollectionOf, Compound}
use Rattle.abc_unify.specs.declared.kind.Slot.{Slot}
use Rattle.abc_unify.specs.declared.kind.Slot.TheVariants.{Link, Root}
use Rattle.abc_unify.specs.Outer.{types, IsTrain, IsCollection}
use Rattle.abc_unify.specs.inner.Kinds.{Fits}
use Rattle.abc_unify.specs.inner.Slots.{SlotHolds, Meets, SlotsIn, SlotIn, follow, root_within, root_of, IsAmong, IsChild, IsRanked}

-- two ways to go on that agree below a lead to one variable
follow_same : (n a : ℕ) (s : Slot) (go other : ℕ → ℕ) → SlotIn n a s → ((b : ℕ) → b < a → go b ≡ other b) → follow go a s ≡ follow other a s
follow_same n a (Root k) go other h same = refl
follow_same n a (Link b) go other h same = same b.0 h

root_stable : (slots : List Slot) → SlotsIn slots → (f g a : ℕ) → a < f → a < g → root_within slots f a ≡ root_within slots g a
root_stable slots inside zero g a h k = absurd (omega arith)
root_stable slots inside (suc f) zero a h k = absurd (omega arith)
root_stable slots inside (suc f) (suc g) a h k =
    follow_same (length slots) a (get_or slots a (Root Free)) (root_within slots f) (root_within slots g) (inside a)
    (λ b below. root_stable slots inside f g b (omega arith) (omega arith))

pub root_of-link : (slots : List Slot) (a : ℕ) (b : VarId) → SlotsIn slots → get_or slots a (Root Free) ≡ Link b → root_of slots a ≡ root_of slots b.0
unfolding root_of
root_of-link slots a b inside is =
    let below : b.0 < a = subst (λ x. SlotIn (length slots) a x) is (inside a) in
    ap (follow (root_within slots a) a) is ∙ root_stable slots inside a (suc b.0) b.0 below (omega arith)

pub root_of-root : (slots : List Slot) (a : ℕ) (k : Kind) → get_or slots a (Root Free) ≡ Root k → root_of slots a ≡ a
unfolding root_of
root_of-root slots a k is = ap (follow (root_within slots a) a) is

pub types_same : (v w : ℕ → Ground) (xs : List VarId) → ((x : ℕ) → IsAmong x xs → v x ≡ w x) → types v xs ≡ types w xs
types_same v w [] same = refl
types_same v w (x ∷ xs) same =
    let one : v x.0 ≡ w x.0 = same x.0 (inl refl) in
    let rest : types v xs ≡ types w xs = types_same v w xs (λ y among. same y (inr among)) in
    cc

-- the outer form of the type of a class, where those that its kind names have the types `v`
abbrev pub built : (ℕ → Ground) → Kind → Ground-F Ground
built v Free = Ground-F.Number
built v Number = Ground-F.Number
built v Text = Ground-F.Text
built v NumberOrText = Ground-F.Number
built v (ListOf c) = Ground-F.List (v c.0)
built v (TableOf k a) = Ground-F.Table (v k.0) (v a.0)
built v (TrainOf e) = Ground-F.List (v e.0)
built v (CollectionOf e) = Ground-F.List (v e.0)
built v (Compound fields) = Ground-F.Compound (types v fields)

built_same : (v w : ℕ → Ground) (k : Kind) → ((x : ℕ) → IsChild k x → v x ≡ w x) → built v k ≡ built w k
built_same v w Free same = refl
built_same v w Number same = refl
built_same v w Text same = refl
built_same v w NumberOrText same = refl
built_same v w (ListOf c) same = ap Ground-F.List (same c.0 (inl refl))
built_same v w (TableOf k a) same = let one : v k.0 ≡ w k.0 = same k.0 (inl refl) in let two : v a.0 ≡ w a.0 = same a.0 (inr (inl refl)) in cc
built_same v w (TrainOf e) same = ap Ground-F.List (same e.0 (inl refl))
built_same v w (CollectionOf e) same = ap Ground-F.List (same e.0 (inl refl))
built_same v w (Compound fields) same = ap Ground-F.Compound (types_same v w fields same)

built_fits : (v : ℕ → Ground) (k : Kind) → Fits v (built v k) k
built_fits v Free = tt
built_fits v Number = refl
built_fits v Text = refl
built_fits v NumberOrText = tt
built_fits v (ListOf c) = refl
built_fits v (TableOf k a) = refl
built_fits v (TrainOf e) = refl
built_fits v (CollectionOf e) = refl
built_fits v (Compound fields) = refl

pub fits_same : (v w : ℕ → Ground) (g : Ground-F Ground) (k : Kind) → ((x : ℕ) → IsChild k x → v x ≡ w x) → Fits v g k → Fits w g k
fits_same v w g Free same f = tt
fits_same v w g Number same f = f
fits_same v w g Text same f = f
fits_same v w g NumberOrText same f = f
fits_same v w g (ListOf c) same f = f ∙ ap Ground-F.List (same c.0 (inl refl))
fits_same v w g (TableOf k a) same f = let one : v k.0 ≡ w k.0 = same k.0 (inl refl) in let two : v a.0 ≡ w a.0 = same a.0 (inr (inl refl)) in cc
fits_same v w g (TrainOf e) same f = subst (λ h. IsTrain g h) (same e.0 (inl refl)) f
fits_same v w g (CollectionOf e) same f = subst (λ h. IsCollection g h) (same e.0 (inl refl)) f
fits_same v w g (Compound fields) same f = f ∙ ap Ground-F.Compound (types_same v w fields same)

abbrev pub slot_built : (ℕ → Ground) → Slot → Ground
slot_built v (Root k) = roll-Ground (built v k)
slot_built v (Link b) = type.Number

-- a type for each root; where some are given, those
abbrev pub solution : List Slot → (ℕ → Bool) → (ℕ → Ground) → ℕ → ℕ → Ground
solution slots given u zero r = cond (given r) (u r) type.Number
solution slots given u (suc f) r = cond (given r) (u r) (slot_built (λ c. solution slots given u f (root_of slots c)) (get_or slots r (Root Free)))

-- types for all variables, from types for the roots
abbrev pub assignment : List Slot → (ℕ → Bool) → (ℕ → Ground) → (ℕ → ℕ) → ℕ → Ground
assignment slots given u rank i = solution slots given u (suc (rank (root_of slots i))) (root_of slots i)

-- the given types of roots meet their kinds, and what these name is given too
pub record IsClosed (slots : List Slot) (given : ℕ → Bool) (u : ℕ → Ground) : Type 0 where
  pub meets : (r : ℕ) (k : Kind) → given r ≡ true → get_or slots r (Root Free) ≡ Root k → Fits (λ x. u (root_of slots x)) (out-Ground (u r)) k
  pub closed : (r : ℕ) (k : Kind) (x : ℕ) → given r ≡ true → get_or slots r (Root Free) ≡ Root k → IsChild k x → given (root_of slots x) ≡ true

module _ (slots : List Slot) (given : ℕ → Bool) (u : ℕ → Ground) (rank : ℕ → ℕ) (ranked : IsRanked slots rank) where
  slot_same : (v w : ℕ → Ground) (r : ℕ) (s : Slot) → get_or slots r (Root Free) ≡ s → ((k : Kind) (x : ℕ) → get_or slots r (Root Free) ≡ Root k → IsChild k x → v x ≡ w x) → slot_built v s ≡ slot_built w s
  slot_same v w r (Root k) is same = ap roll-Ground (built_same v w k (λ x c. same k x is c))
  slot_same v w r (Link b) is same = refl

  solution_stable : (f g r : ℕ) → rank r < f → rank r < g → solution slots given u f r ≡ solution slots given u g r
  solution_stable zero g r h k = absurd (omega arith)
  solution_stable (suc f) zero r h k = absurd (omega arith)
  solution_stable (suc f) (suc g) r h k =
      ap (cond (given r) (u r))
      (slot_same (λ c. solution slots given u f (root_of slots c)) (λ c. solution slots given u g (root_of slots c)) r (get_or slots r (Root Free)) refl
      (λ kind x is c.
      let below : rank (root_of slots x) < rank r = ranked.falls r kind x is c in
      solution_stable f g (root_of slots x) (omega arith) (omega arith)))

  solution_given : (f r : ℕ) → given r ≡ true → solution slots given u f r ≡ u r
  solution_given zero r h = ap (λ b. cond b (u r) type.Number) h
  solution_given (suc f) r h = ap (λ b. cond b (u r) (slot_built (λ c. solution slots given u f (root_of slots c)) (get_or slots r (Root Free)))) h

  solution_open : (f r : ℕ) (k : Kind) → given r ≡ false → get_or slots r (Root Free) ≡ Root k → solution slots given u (suc f) r ≡ roll-Ground (built (λ c. solution slots given u f (root_of slots c)) k)
  solution_open f r k h is =
      ap (λ b. cond b (u r) (slot_built (λ c. solution slots given u f (root_of slots c)) (get_or slots r (Root Free)))) h
      ∙ ap (slot_built (λ c. solution slots given u f (root_of slots c))) is

  at_child : (i x : ℕ) (k : Kind) → get_or slots i (Root Free) ≡ Root k → IsChild k x → solution slots given u (rank i) (root_of slots x) ≡ assignment slots given u rank x
  at_child i x k is c =
      let below : rank (root_of slots x) < rank i = ranked.falls i k x is c in
      solution_stable (rank i) (suc (rank (root_of slots x))) (root_of slots x) below (omega arith)

  root_holds : (closed : IsClosed slots given u) (i : ℕ) (k : Kind) → get_or slots i (Root Free) ≡ Root k → Fits (assignment slots given u rank) (out-Ground (solution slots given u (suc (rank i)) i)) k
  root_holds closed i k is =
      elim (cases_Bool (given i)) [
        | inl set ↦
            let here : solution slots given u (suc (rank i)) i ≡ u i = solution_given (suc (rank i)) i set in
            let old : Fits (λ x. u (root_of slots x)) (out-Ground (u i)) k = closed.meets i k set is in
            let now : Fits (assignment slots given u rank) (out-Ground (u i)) k =
            fits_same (λ x. u (root_of slots x)) (assignment slots given u rank) (out-Ground (u i)) k
            (λ x c. sym (solution_given (suc (rank (root_of slots x))) (root_of slots x) (closed.closed i k x set is c))) old in
            subst (λ g. Fits (assignment slots given u rank) (out-Ground g) k) (sym here) now
        | inr unset ↦
            let here : solution slots given u (suc (rank i)) i ≡ roll-Ground (built (λ c. solution slots given u (rank i) (root_of slots c)) k) = solution_open (rank i) i k unset is in
            let there : built (λ c. solution slots given u (rank i) (root_of slots c)) k ≡ built (assignment slots given u rank) k =
            built_same (λ c. solution slots given u (rank i) (root_of slots c)) (assignment slots given u rank) k (λ x c. at_child i x k is c) in
            let form : out-Ground (solution slots given u (suc (rank i)) i) ≡ built (assignment slots given u rank) k =
            ap out-Ground here ∙ (out-roll-Ground (built (λ c. solution slots given u (rank i) (root_of slots c)) k) ∙ there) in
            subst (λ g. Fits (assignment slots given u rank) g k) (sym form) (built_fits (assignment slots given u rank) k)
      ]

  -- where no type is given, a class has the type that is built of its kind
  pub built_at : (i : ℕ) (k : Kind) → given i ≡ false → get_or slots i (Root Free) ≡ Root k → out-Ground (assignment slots given u rank i) ≡ built (assignment slots given u rank) k
  built_at i k unset is =
      let same : root_of slots i ≡ i = root_of-root slots i k is in
      let here : solution slots given u (suc (rank i)) i ≡ roll-Ground (built (λ c. solution slots given u (rank i) (root_of slots c)) k) = solution_open (rank i) i k unset is in
      let there : built (λ c. solution slots given u (rank i) (root_of slots c)) k ≡ built (assignment slots given u rank) k =
      built_same (λ c. solution slots given u (rank i) (root_of slots c)) (assignment slots given u rank) k (λ x c. at_child i x k is c) in
      ap (λ r. out-Ground (solution slots given u (suc (rank r)) r)) same ∙ (ap out-Ground here ∙ (out-roll-Ground (built (λ c. solution slots given u (rank i) (root_of slots c)) k) ∙ there))

  slot_holds : (closed : IsClosed slots given u) (inside : SlotsIn slots) (i : ℕ) (s : Slot) → get_or slots i (Root Free) ≡ s → SlotHolds (assignment slots given u rank) (assignment slots given u rank i) s
  slot_holds closed inside i (Root k) is =
      let same : root_of slots i ≡ i = root_of-root slots i k is in
      subst (λ r. Fits (assignment slots given u rank) (out-Ground (solution slots given u (suc (rank r)) r)) k) (sym same) (root_holds closed i k is)
  slot_holds closed inside i (Link b) is =
      let same : root_of slots i ≡ root_of slots b.0 = root_of-link slots i b inside is in
      ap (λ r. solution slots given u (suc (rank r)) r) same

  -- ranked slots have a solution, which is as given where some is given
  pub has_solution : IsClosed slots given u → SlotsIn slots → Meets (assignment slots given u rank) slots
  has_solution closed inside i = slot_holds closed inside i (get_or slots i (Root Free)) refl

  pub solution_is_given : (r : ℕ) → given (root_of slots r) ≡ true → assignment slots given u rank r ≡ u (root_of slots r)
  solution_is_given r h = solution_given (suc (rank (root_of slots r))) (root_of slots r) h

pub nothing_given : (slots : List Slot) (u : ℕ → Ground) → IsClosed slots (λ _. false) u
nothing_given slots u = record {
  meets = λ r k set is. absurd (cc);
  closed = λ r k x set is c. absurd (cc);
}

pub ranked_has_solution : (slots : List Slot) (rank : ℕ → ℕ) → SlotsIn slots → IsRanked slots rank → (v : ℕ → Ground) × Meets v slots
ranked_has_solution slots rank inside ranked = (
  assignment slots (λ _. false) (λ _. type.Number) rank,
  has_solution slots (λ _. false) (λ _. type.Number) rank ranked (nothing_given slots (λ _. type.Number)) inside,
)

pub ruleset roots = (root_of-link, root_of-root)
