-- A walk down a train: each class that was seen ranks above the one that is looked at.
use Rattle.std.proofs.Common.{◌≡◌, ◌∙◌, ◌↔◌, ℕ, ◌+◌, ◌<◌, ◌≤◌, ◌⊎◌, inl, inr, zero, suc, ◌*◌, List, [], ◌∷◌, length, get_or, set, ap, sym, subst, refl, arith, get_or-set_other, get_or-set_same}
use Rattle.std.proofs.lemmas.List.Sums.{sum_by-set, sum_by-cons}
use Rattle.std.proofs.Math.ListN.{length-set}
use Rattle.std.specs.List.{sum_by}
use Rattle.std.proofs.lemmas.Bool.{cases_eq}
use Rattle.abc_num.specs.declared.types.Ground.{Ground, out-Ground}
use Rattle.abc_num.specs.declared.types.Ground.TheOpen.{Ground-F}
use Rattle.abc_num.specs.declared.types.Ground.TheVariants as type
use Rattle.abc_terms.specs.declared.term.VarId.{VarId}
use Rattle.abc_terms.proofs.Grounds.{out_text}
use Rattle.abc_unify.specs.declared.kind.Kind.{Kind}
use Rattle.abc_unify.specs.declared.kind.Kind.TheVariants.{Free, Number, Text, NumberOrText, ListOf, TableOf, TrainOf, CollectionOf, Compound}
use Rattle.abc_unify.specs.declared.kind.Slot.{Slot}
use Rattle.abc_unify.specs.declared.kind.Slot.TheVariants.{Root}
use Rattle.abc_unify.specs.Outer.{IsTrain, IsText}
use Rattle.abc_unify.specs.inner.Kinds.{Fits}
use Rattle.abc_unify.specs.inner.Slots.{SlotHolds, Meets, SlotsIn, root_of, IsRanked}
use Rattle.abc_unify.specs.inner.Cycles.{mark_weight}
use Rattle.abc_unify.specs.inner.Reading.{TextAt, IsTextual, IsTrainKind, IsSeenAbove}
use Rattle.abc_unify.proofs.Solutions.{ranked_has_solution}
use Rattle.abc_unify.proofs.Walking.{meets_root}
use Rattle.abc_unify.proofs.Varying.{can_vary}

text_fits : (v : ℕ → Ground) (k : Kind) → IsTextual k → Fits v Ground-F.Text k
text_fits v Free y = tt
text_fits v Number y = absurd y
text_fits v Text y = refl
text_fits v NumberOrText y = tt
text_fits v (ListOf c) y = absurd y
text_fits v (TableOf k a) y = absurd y
text_fits v (TrainOf e) y = absurd y
text_fits v (CollectionOf e) y = absurd y
text_fits v (Compound fields) y = absurd y

fits_text : (v : ℕ → Ground) (k : Kind) → (IsTrainKind k → ⊥) → Fits v Ground-F.Text k → IsTextual k
fits_text v Free n f = tt
fits_text v Number n f = absurd (cc)
fits_text v Text n f = tt
fits_text v NumberOrText n f = tt
fits_text v (ListOf c) n f = absurd (cc)
fits_text v (TableOf k a) n f = absurd (cc)
fits_text v (TrainOf e) n f = absurd (n tt)
fits_text v (CollectionOf e) n f = absurd f
fits_text v (Compound fields) n f = absurd (cc)

module _ (slots : List Slot) (inside : SlotsIn slots) (rank : ℕ → ℕ) (ranked : IsRanked slots rank) where
  at_text : (v : ℕ → Ground) → Meets v slots → (r : ℕ) (k : Kind) → get_or slots r (Root Free) ≡ Root k → Fits v Ground-F.Text k → TextAt slots r
  at_text v m r k is f =
      let w : (w : ℕ → Ground) × Meets w slots × (w r ≡ type.Text) × ((x : ℕ) → (root_of slots x ≡ r → ⊥) → rank (root_of slots x) ≤ rank r → w x ≡ v x) = can_vary slots inside rank ranked v m r k is type.Text (subst (λ g. Fits v g k) (sym out_text) f) in
      (w.0, w.1, ap out-Ground w.2 ∙ out_text)

  -- a class that is no train may be text exactly where its kind has text
  pub text_here : (r : ℕ) (k : Kind) → get_or slots r (Root Free) ≡ Root k → (IsTrainKind k → ⊥) → (TextAt slots r ↔ IsTextual k)
  text_here r k is not_train = (
    λ m. fits_text m.0 k not_train (subst (λ g. Fits m.0 g k) m.2 (subst (λ s. SlotHolds m.0 (m.0 r) s) is (m.1 r))),
    λ y.
        let v : (v : ℕ → Ground) × Meets v slots = ranked_has_solution slots rank inside ranked in
        at_text v.0 v.1 r k is (text_fits v.0 k y),
  )

  -- a train may be text exactly where its element may
  pub text_step : (r : ℕ) (e : VarId) → get_or slots r (Root Free) ≡ Root (TrainOf e) → (TextAt slots r ↔ TextAt slots (root_of slots e.0))
  text_step r e is = (
    λ m.
        let f : IsTrain (out-Ground (m.0 r)) (m.0 e.0) = subst (λ s. SlotHolds m.0 (m.0 r) s) is (m.1 r) in
        let t : IsText (m.0 e.0) = subst (λ g. IsTrain g (m.0 e.0)) m.2 f in
        (m.0, m.1, ap out-Ground (sym (meets_root m.0 slots e.0 m.1)) ∙ t),
    λ m. at_text m.0 m.1 r (TrainOf e) is (ap out-Ground (meets_root m.0 slots e.0 m.1) ∙ m.2),
  )

-- text is among the types of a variable where it is among those of its root
pub text_at_root : (slots : List Slot) (a r : ℕ) → r ≡ root_of slots a → (TextAt slots a ↔ TextAt slots r)
text_at_root slots a r is = (
  λ m. (m.0, m.1, ap out-Ground (ap m.0 is ∙ sym (meets_root m.0 slots a m.1)) ∙ m.2),
  λ m. (m.0, m.1, ap out-Ground (meets_root m.0 slots a m.1 ∙ ap m.0 (sym is)) ∙ m.2),
)

pub none_seen : (slots : List Slot) (seen : List ℕ) (at : ℕ) → ((i : ℕ) → get_or seen i 0 ≡ 0) → (rank : ℕ → ℕ) → IsRanked slots rank → IsSeenAbove slots seen at
none_seen slots seen at none rank ranked = record {
  rank = rank;
  ranked = ranked;
  above = λ i one. absurd (omega (arith, none i));
  small = λ i. omega (arith, none i);
}

not_seen : (slots : List Slot) (seen : List ℕ) (at : ℕ) → IsSeenAbove slots seen at → get_or seen at 0 ≡ 0
not_seen slots seen at s =
    elim (cases_eq (get_or seen at 0) 1) [
      | inl e ↦ absurd (omega (arith, s.above at e))
      | inr ne ↦ omega (arith, s.small at)
    ]

still_small : (slots : List Slot) (seen : List ℕ) (at : ℕ) → at < length seen → IsSeenAbove slots seen at → (i : ℕ) → get_or (set seen at 1) i 0 < 2
still_small slots seen at h s i = low (cases_eq i at)
  where
    low : ((i ≡ at) ⊎ (i ≡ at → ⊥)) → get_or (set seen at 1) i 0 < 2
    low (inl f) = let t : get_or (set seen at 1) i 0 ≡ get_or (set seen at 1) at 0 = ap (λ j. get_or (set seen at 1) j 0) f in omega (arith, get_or-set_same seen at 1 0 h)
    low (inr ne) = omega (arith, get_or-set_other seen at i 1 0 ne, s.small i)

pub seen_more : (slots : List Slot) (seen : List ℕ) (at : ℕ) (e : VarId) → at < length seen → get_or slots at (Root Free) ≡ Root (TrainOf e) → IsSeenAbove slots seen at → IsSeenAbove slots (set seen at 1) (root_of slots e.0)
seen_more slots seen at e h is s = record {
  rank = s.rank;
  ranked = s.ranked;
  above = λ i one. up i one (cases_eq i at);
  small = still_small slots seen at h s;
}
  where
    up : (i : ℕ) → get_or (set seen at 1) i 0 ≡ 1 → ((i ≡ at) ⊎ (i ≡ at → ⊥)) → s.rank (root_of slots e.0) < s.rank i
    up i one (inl f) = let d : s.rank (root_of slots e.0) < s.rank at = s.ranked.falls at (TrainOf e) e.0 is (inl refl) in let t : s.rank i ≡ s.rank at = ap s.rank f in omega arith
    up i one (inr ne) = let d : s.rank (root_of slots e.0) < s.rank at = s.ranked.falls at (TrainOf e) e.0 is (inl refl) in let a : s.rank at < s.rank i = s.above i (sym (get_or-set_other seen at i 1 0 ne) ∙ one) in omega arith

pub seen_less : (slots : List Slot) (seen : List ℕ) (at : ℕ) → at < length seen → IsSeenAbove slots seen at → sum_by mark_weight (set seen at 1) < sum_by mark_weight seen
seen_less slots seen at h s =
    let none : get_or seen at 0 ≡ 0 = not_seen slots seen at s in
    let w : sum_by mark_weight (set seen at 1) + mark_weight (get_or seen at 0) ≡ sum_by mark_weight seen + 1 = sum_by-set mark_weight seen at 1 0 h in
    let two : mark_weight (get_or seen at 0) ≡ 2 = ap mark_weight none in
    omega arith

pub not_train : (k : Kind) → ((x : VarId) → k ≡ TrainOf x → ⊥) → IsTrainKind k → ⊥
not_train Free n t = t
not_train Number n t = t
not_train Text n t = t
not_train NumberOrText n t = t
not_train (ListOf c) n t = t
not_train (TableOf k a) n t = t
not_train (TrainOf e) n t = n e refl
not_train (CollectionOf e) n t = t
not_train (Compound fields) n t = t

-- a mark of 0 for each slot
abbrev pub zeros : List Slot → List ℕ
zeros [] = []
zeros (s ∷ slots) = 0 ∷ zeros slots

pub length-zeros : (slots : List Slot) → length (zeros slots) ≡ length slots
length-zeros [] = refl
length-zeros (s ∷ slots) = ap suc (length-zeros slots)

pub zero_at : (slots : List Slot) (i : ℕ) → get_or (zeros slots) i 0 ≡ 0
zero_at [] i = refl
zero_at (s ∷ slots) zero = refl
zero_at (s ∷ slots) (suc i) = zero_at slots i

weight_least : (seen : List ℕ) → ((i : ℕ) → get_or seen i 0 < 2) → length seen ≤ sum_by mark_weight seen
weight_least [] small = omega arith
weight_least (m ∷ seen) small =
    let here : 1 ≤ mark_weight m = one_least m (small 0) in
    omega (arith, here, weight_least seen (λ i. small (suc i)), sum_by-cons mark_weight m seen)
  where
    one_least : (m : ℕ) → m < 2 → 1 ≤ mark_weight m
    one_least zero h = omega arith
    one_least (suc zero) h = omega arith
    one_least (suc (suc m)) h = absurd (omega arith)

-- a walk does not see as many classes as there are variables
pub not_so_many : (slots : List Slot) (seen : List ℕ) (at : ℕ) (steps : ℕ) → length seen ≡ length slots → at < length slots → IsSeenAbove slots seen at → sum_by mark_weight seen + steps ≤ 2 * length slots → steps < length slots
not_so_many slots seen at steps count h s room =
    let less : sum_by mark_weight (set seen at 1) < sum_by mark_weight seen = seen_less slots seen at (omega (arith, h, count)) s in
    let least : length (set seen at 1) ≤ sum_by mark_weight (set seen at 1) = weight_least (set seen at 1) (still_small slots seen at (omega (arith, h, count)) s) in
    omega (arith, less, least, length-set seen at 1, count, room)
