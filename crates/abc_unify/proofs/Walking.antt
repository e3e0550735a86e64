-- The search in depth: each step keeps its marks, and a class that is met again is text.
use Rattle.std.proofs.Common.{◌≡◌, ◌≢◌, ℕ, zero, suc, ◌+◌, ◌<◌, ◌≤◌, ◌⊎◌, inl, inr, List, [], ◌∷◌, ◌++◌, length, get_or, set, sym, ◌∙◌, ap, subst, arith, refl, get_or-set_other, get_or-set_same}
use Rattle.std.proofs.Math.ListN.{length-set, length-append, get_or-append}
use Rattle.std.proofs.Math.Seq.{get_or-append_seam}
use Rattle.std.proofs.lemmas.Bool.{cases_eq, cases_lt}
use Rattle.std.proofs.lemmas.List.Elements.{All-push, All-nil, All-head, All-weaker, Contains-append_left, Contains-push, Contains-push_cases, All-contains}
use Rattle.std.proofs.lemmas.List.Quantifiers.{all_pairs_push}
use Rattle.std.proofs.lemmas.List.Sums.{sum_by-set, sum_by-cons, sum-map}
use Rattle.std.specs.List.{AllPairs, Contains, sum_by}
use Rattle.abc_num.specs.declared.types.Ground.{Ground, out-Ground}
use Rattle.abc_num.specs.declared.types.Ground.TheOpen.{Ground-F}
use Rattle.abc_terms.specs.Sizes.{size}
use Rattle.abc_terms.proofs.Grounds.{size_of_form, size_is}
use Rattle.abc_terms.specs.declared.term.VarId.{VarId}
use Rattle.abc_unify.specs.declared.kind.Kind.{Kind}
use Rattle.abc_unify.specs.declared.kind.Kind.TheVariants.{Free, Number, Text, NumberOrText, ListOf, TableOf, TrainOf, CollectionOf, Compound}
use Rattle.abc_unify.specs.declared.kind.Slot.{Slot}
use Rattle.abc_unify.specs.declared.kind.Slot.TheVariants.{Link, Root}
use Rattle.abc_unify.specs.declared.kind.Constraint.TheVariants.{Is}
use Rattle.abc_unify.specs.Outer.{types, IsTrain, IsCollection, IsText}
use Rattle.abc_unify.specs.inner.Kinds.{Fits, ConstraintHolds}
use Rattle.abc_unify.specs.inner.Slots.{SlotHolds, Meets, follow, root_within, root_of, IsRoot, IsAmong, IsChild, KeepsSolutions}
use Rattle.abc_unify.specs.inner.Cycles.{LeadsTo, IsBelow, mark_weight, IsDone, Marked, IsOnCycle}
use Rattle.abc_num.proofs.Parts.{All-front}
use Rattle.abc_unify.proofs.Steps.{All-one, Meets-set, Meets-at_set, Meets-unset}

-- a part of this outer form leads to it
smaller : (g : Ground) (form : Ground-F Ground) (h : Ground) → out-Ground g ≡ form → size h < size_of_form form → LeadsTo g h
smaller g form h is less = inr (let s : size g ≡ size_of_form form = size_is g ∙ ap size_of_form is in omega arith)

train_leads : (g : Ground) (form : Ground-F Ground) (e : Ground) → out-Ground g ≡ form → IsTrain form e → LeadsTo g e
train_leads g Ground-F.Number e is t = absurd t
train_leads g Ground-F.Text e is t = inl (is, t)
train_leads g (Ground-F.Compound fields) e is t = absurd t
train_leads g (Ground-F.List element) e is t = smaller g (Ground-F.List element) e is (let h : size element ≡ size e = ap size t in omega arith)
train_leads g (Ground-F.Table key associate) e is t = smaller g (Ground-F.Table key associate) e is (let h : size associate ≡ size e = ap size t in omega arith)

collection_leads : (g : Ground) (form : Ground-F Ground) (e : Ground) → out-Ground g ≡ form → IsCollection form e → LeadsTo g e
collection_leads g Ground-F.Number e is t = absurd t
collection_leads g Ground-F.Text e is t = absurd t
collection_leads g (Ground-F.Compound fields) e is t = absurd t
collection_leads g (Ground-F.List element) e is t = smaller g (Ground-F.List element) e is (let h : size element ≡ size e = ap size t in omega arith)
collection_leads g (Ground-F.Table key associate) e is t = smaller g (Ground-F.Table key associate) e is (let h : size associate ≡ size e = ap size t in omega arith)

field_size : (v : ℕ → Ground) (xs : List VarId) (x : ℕ) → IsAmong x xs → size (v x) ≤ sum_by size (types v xs)
field_size v [] x c = absurd c
field_size v (y ∷ ys) x (inl e) = let s : size (v x) ≡ size (v y.0) = ap (λ i. size (v i)) e in omega (arith, sum_by-cons size (v y.0) (types v ys))
field_size v (y ∷ ys) x (inr c) = omega (arith, field_size v ys x c, sum_by-cons size (v y.0) (types v ys))

at_one : (v : ℕ → Ground) (g : Ground) (x y : ℕ) → ((x ≡ y) ⊎ ⊥) → LeadsTo g (v y) → LeadsTo g (v x)
at_one v g x y (inl e) leads = subst (λ i. LeadsTo g (v i)) (sym e) leads
at_one v g x y (inr c) leads = absurd c

pub fits_leads : (v : ℕ → Ground) (g : Ground) (k : Kind) (x : ℕ) → Fits v (out-Ground g) k → IsChild k x → LeadsTo g (v x)
fits_leads v g Free x f c = absurd c
fits_leads v g Number x f c = absurd c
fits_leads v g Text x f c = absurd c
fits_leads v g NumberOrText x f c = absurd c
fits_leads v g (ListOf e) x f c = at_one v g x e.0 c (smaller g (Ground-F.List (v e.0)) (v e.0) f (omega arith))
fits_leads v g (TableOf k a) x f (inl c) = subst (λ i. LeadsTo g (v i)) (sym c) (smaller g (Ground-F.Table (v k.0) (v a.0)) (v k.0) f (omega arith))
fits_leads v g (TableOf k a) x f (inr c) = at_one v g x a.0 c (smaller g (Ground-F.Table (v k.0) (v a.0)) (v a.0) f (omega arith))
fits_leads v g (TrainOf e) x f c = at_one v g x e.0 c (train_leads g (out-Ground g) (v e.0) refl f)
fits_leads v g (CollectionOf e) x f c = at_one v g x e.0 c (collection_leads g (out-Ground g) (v e.0) refl f)
fits_leads v g (Compound fields) x f c = smaller g (Ground-F.Compound (types v fields)) (v x) f (omega (arith, field_size v fields x c, sum-map size (types v fields)))

text_size : (g : Ground) → IsText g → size g ≡ 0
text_size g is = size_is g ∙ ap size_of_form is

pub leads_trans : (g h i : Ground) → LeadsTo g h → LeadsTo h i → LeadsTo g i
leads_trans g h i (inl a) (inl b) = inl (a.0, b.1)
leads_trans g h i (inl a) (inr b) = absurd (omega (arith, text_size h a.1, b))
leads_trans g h i (inr a) (inl b) = inr (omega (arith, a, text_size h b.0, text_size i b.1))
leads_trans g h i (inr a) (inr b) = inr (omega arith)

pub leads_to_itself : (g : Ground) → LeadsTo g g → IsText g
leads_to_itself g (inl a) = a.0
leads_to_itself g (inr a) = absurd (omega arith)

pub AllPairs-left : {X : Type 0} (R : X → X → Type 0) (xs ys : List X) → AllPairs R (xs ++ ys) → AllPairs R xs
AllPairs-left R xs ys m i j d h k =
    let e : get_or (xs ++ ys) i d ≡ get_or xs i d = get_or-append xs ys d i (omega arith) in
    let f : get_or (xs ++ ys) j d ≡ get_or xs j d = get_or-append xs ys d j k in
    subst (λ x. R x (get_or xs j d)) e (subst (λ y. R (get_or (xs ++ ys) i d) y) f (m i j d h (omega (arith, length-append xs ys))))

pub AllPairs-last : {X : Type 0} (R : X → X → Type 0) (xs : List X) (x : X) → AllPairs R (xs ++ x ∷ []) → (k : ℕ) (d : X) → k < length xs → R (get_or xs k d) x
AllPairs-last R xs x m k d h =
    let e : get_or (xs ++ x ∷ []) k d ≡ get_or xs k d = get_or-append xs (x ∷ []) d k h in
    let f : get_or (xs ++ x ∷ []) (length xs) d ≡ x = get_or-append_seam xs x [] d in
    subst (λ y. R y x) e (subst (λ y. R (get_or (xs ++ x ∷ []) k d) y) f (m k (length xs) d h (omega (arith, length-append xs (x ∷ [])))))

no_weight : (m : ℕ) → 2 ≤ m → mark_weight m ≡ 0
no_weight zero h = absurd (omega arith)
no_weight (suc zero) h = absurd (omega arith)
no_weight (suc (suc m)) h = refl

still : (stack : List ℕ) (top i : ℕ) → i ≢ top → (Contains stack i ⊎ (top ≡ i)) → Contains stack i
still stack top i ne (inl c) = c
still stack top i ne (inr e) = absurd (ne (sym e))

module _ (slots : List Slot) (marks : List ℕ) where
  other : (c m i : ℕ) → i ≢ c → get_or (set marks c m) i 0 ≡ get_or marks i 0
  other c m i ne = get_or-set_other marks c i m 0 ne

  -- what is done stays done where another class is marked
  done_still : (c m i : ℕ) → get_or marks c 0 < 2 → i ≢ c → IsDone slots marks i → IsDone slots (set marks c m) i
  done_still c m i low ne done k x is child =
      let old : (2 ≤ get_or marks (root_of slots x) 0) × (get_or marks (root_of slots x) 0 < get_or marks i 0) = done k x is child in
      let apart : root_of slots x ≢ c = λ e. let s : get_or marks (root_of slots x) 0 ≡ get_or marks c 0 = ap (λ j. get_or marks j 0) e in absurd (omega arith) in
      let a : get_or (set marks c m) (root_of slots x) 0 ≡ get_or marks (root_of slots x) 0 = other c m (root_of slots x) apart in
      let b : get_or (set marks c m) i 0 ≡ get_or marks i 0 = other c m i ne in
      (omega arith, omega arith)

  module _ (stack : List ℕ) (next : ℕ) where
    pub marked_push : (c : ℕ) → Marked slots marks stack next → c < length slots → IsRoot (get_or slots c (Root Free)) → get_or marks c 0 ≡ 0 → ((v : ℕ → Ground) → Meets v slots → (k d : ℕ) → k < length stack → LeadsTo (v (get_or stack k d)) (v c)) → Marked slots (set marks c 1) (stack ++ c ∷ []) next
    marked_push c m h root white leads =
        let here : c < length marks = omega (arith, m.same_length) in
        let at_c : get_or (set marks c 1) c 0 ≡ 1 = get_or-set_same marks c 1 0 here in
        let apart : (i : ℕ) → get_or marks i 0 ≡ 1 → i ≢ c = λ i one e. let s : get_or marks i 0 ≡ get_or marks c 0 = ap (λ j. get_or marks j 0) e in absurd (omega arith) in
        record {
          same_length = length-set marks c 1 ∙ m.same_length;
          from_two = m.from_two;
          inside = All-push (λ i. i < length slots) stack c m.inside h;
          roots = All-push (λ i. IsRoot (get_or slots i (Root Free))) stack c m.roots root;
          on_the_way = All-push (λ i. get_or (set marks c 1) i 0 ≡ 1) stack c (All-weaker (λ i. get_or marks i 0 ≡ 1) (λ i. get_or (set marks c 1) i 0 ≡ 1) (λ i one. other c 1 i (apart i one) ∙ one) stack m.on_the_way) at_c;
          all_on_the_way = λ i one. elim (cases_eq i c) [
            | inl e ↦ subst (λ j. Contains (stack ++ c ∷ []) j) (sym e) (Contains-push stack c)
            | inr ne ↦ Contains-append_left stack (c ∷ []) i (m.all_on_the_way i (sym (other c 1 i ne) ∙ one))
          ];
          early = λ i. elim (cases_eq i c) [
            | inl e ↦ let s : get_or (set marks c 1) i 0 ≡ get_or (set marks c 1) c 0 = ap (λ j. get_or (set marks c 1) j 0) e in omega (arith, m.from_two)
            | inr ne ↦ omega (arith, other c 1 i ne, m.early i)
          ];
          done = λ i two. elim (cases_eq i c) [
            | inl e ↦ let s : get_or (set marks c 1) i 0 ≡ get_or (set marks c 1) c 0 = ap (λ j. get_or (set marks c 1) j 0) e in absurd (omega arith)
            | inr ne ↦ done_still c 1 i (omega arith) ne (m.done i (omega (arith, other c 1 i ne)))
          ];
          distinct = all_pairs_push (λ i j. i ≡ j → ⊥) stack c m.distinct (λ k d below. apart (get_or stack k d) (m.on_the_way k d below));
          path = λ v meets. all_pairs_push (λ i j. LeadsTo (v i) (v j)) stack c (m.path v meets) (leads v meets);
          room =
              let w : sum_by mark_weight (set marks c 1) + mark_weight (get_or marks c 0) ≡ sum_by mark_weight marks + 1 = sum_by-set mark_weight marks c 1 0 here in
              let two : mark_weight (get_or marks c 0) ≡ 2 = ap mark_weight white in
              omega (arith, m.room);
        }

    pub marked_pop : (top : ℕ) (kind : Kind) → Marked slots marks (stack ++ top ∷ []) next → get_or slots top (Root Free) ≡ Root kind → ((x : ℕ) → IsChild kind x → 2 ≤ get_or marks (root_of slots x) 0) → Marked slots (set marks top next) stack (next + 1)
    marked_pop top kind m is children =
        let P : ℕ → Type 0 = λ i. get_or marks i 0 ≡ 1 in
        let one : get_or marks top 0 ≡ 1 = All-contains (λ i. get_or marks i 0 ≡ 1) (stack ++ top ∷ []) top m.on_the_way (Contains-push stack top) in
        let inside : top < length slots = All-contains (λ i. i < length slots) (stack ++ top ∷ []) top m.inside (Contains-push stack top) in
        let here : top < length marks = omega (arith, m.same_length) in
        let at_top : get_or (set marks top next) top 0 ≡ next = get_or-set_same marks top next 0 here in
        record {
          same_length = length-set marks top next ∙ m.same_length;
          from_two = omega (arith, m.from_two);
          inside = All-front (λ i. i < length slots) stack (top ∷ []) m.inside;
          roots = All-front (λ i. IsRoot (get_or slots i (Root Free))) stack (top ∷ []) m.roots;
          on_the_way = λ k d below.
              let apart : get_or stack k d ≢ top = AllPairs-last (λ i j. i ≡ j → ⊥) stack top m.distinct k d below in
              other top next (get_or stack k d) apart ∙ All-front (λ i. get_or marks i 0 ≡ 1) stack (top ∷ []) m.on_the_way k d below;
          all_on_the_way = λ i mark. elim (cases_eq i top) [
            | inl e ↦ let s : get_or (set marks top next) i 0 ≡ get_or (set marks top next) top 0 = ap (λ j. get_or (set marks top next) j 0) e in absurd (omega (arith, m.from_two))
            | inr ne ↦ still stack top i ne (Contains-push_cases stack top i (m.all_on_the_way i (sym (other top next i ne) ∙ mark)))
          ];
          early = λ i. elim (cases_eq i top) [
            | inl e ↦ let s : get_or (set marks top next) i 0 ≡ get_or (set marks top next) top 0 = ap (λ j. get_or (set marks top next) j 0) e in omega arith
            | inr ne ↦ omega (arith, other top next i ne, m.early i)
          ];
          done = λ i two. elim (cases_eq i top) [
            | inl e ↦ subst (λ j. IsDone slots (set marks top next) j) (sym e) (λ k x is_k child.
                let same : kind ≡ k = cc in
                let old : 2 ≤ get_or marks (root_of slots x) 0 = children x (subst (λ y. IsChild y x) (sym same) child) in
                let apart : root_of slots x ≢ top = λ f. let s : get_or marks (root_of slots x) 0 ≡ get_or marks top 0 = ap (λ j. get_or marks j 0) f in absurd (omega arith) in
                let a : get_or (set marks top next) (root_of slots x) 0 ≡ get_or marks (root_of slots x) 0 = other top next (root_of slots x) apart in
                (omega arith, omega (arith, m.early (root_of slots x))))
            | inr ne ↦ done_still top next i (omega arith) ne (m.done i (omega (arith, other top next i ne)))
          ];
          distinct = AllPairs-left (λ i j. i ≡ j → ⊥) stack (top ∷ []) m.distinct;
          path = λ v meets. AllPairs-left (λ i j. LeadsTo (v i) (v j)) stack (top ∷ []) (m.path v meets);
          room =
              let w : sum_by mark_weight (set marks top next) + mark_weight (get_or marks top 0) ≡ sum_by mark_weight marks + mark_weight next = sum_by-set mark_weight marks top next 0 here in
              let was : mark_weight (get_or marks top 0) ≡ 1 = ap mark_weight one in
              let now : mark_weight next ≡ 0 = no_weight next m.from_two in
              omega (arith, m.room);
        }

-- past the end there is only a free class, which names none
pub no_child : (i x : ℕ) (k : Kind) → Root Free ≡ Root k → IsChild k x → ⊥
no_child i x k e c = let same : Free ≡ k = cc in subst (λ y. IsChild y x) (sym same) c

follow_meets : (v : ℕ → Ground) (a : ℕ) (go : ℕ → ℕ) (s : Slot) → SlotHolds v (v a) s → ((b : ℕ) → v b ≡ v (go b)) → v a ≡ v (follow go a s)
follow_meets v a go (Root k) h on = refl
follow_meets v a go (Link b) h on = h ∙ on b.0

root_meets : (v : ℕ → Ground) (slots : List Slot) → Meets v slots → (f a : ℕ) → v a ≡ v (root_within slots f a)
root_meets v slots m zero a = refl
root_meets v slots m (suc f) a = follow_meets v a (root_within slots f) (get_or slots a (Root Free)) (m a) (λ b. root_meets v slots m f b)

pub meets_root : (v : ℕ → Ground) (slots : List Slot) (a : ℕ) → Meets v slots → v a ≡ v (root_of slots a)
unfolding root_of
meets_root v slots a m = root_meets v slots m (suc a) a

pub below_leads : (v : ℕ → Ground) (slots : List Slot) (top : ℕ) (kind : Kind) (r : ℕ) → Meets v slots → get_or slots top (Root Free) ≡ Root kind → IsBelow slots kind r → LeadsTo (v top) (v r)
below_leads v slots top kind r m is below =
    let fits : Fits v (out-Ground (v top)) kind = subst (λ s. SlotHolds v (v top) s) is (m top) in
    let leads : LeadsTo (v top) (v below.0) = fits_leads v (v top) kind below.0 fits below.1 in
    let same : v below.0 ≡ v r = meets_root v slots below.0 m ∙ ap v (sym below.2) in
    subst (λ g. LeadsTo (v top) g) same leads

pub at_least_set : (marks : List ℕ) (c m i n : ℕ) → c < length marks → n ≤ get_or marks i 0 → (i ≡ c → n ≤ m) → n ≤ get_or (set marks c m) i 0
at_least_set marks c m i n h old new =
    elim (cases_eq i c) [
      | inl e ↦
          let s : get_or (set marks c m) i 0 ≡ get_or (set marks c m) c 0 = ap (λ j. get_or (set marks c m) j 0) e in
          let t : get_or (set marks c m) c 0 ≡ m = get_or-set_same marks c m 0 h in
          omega (arith, new e)
      | inr ne ↦ omega (arith, get_or-set_other marks c i m 0 ne)
    ]

module _ (slots : List Slot) (marks rest : List ℕ) (next top : ℕ) (kind : Kind) (m : Marked slots marks (rest ++ top ∷ []) next) (is : get_or slots top (Root Free) ≡ Root kind) where
  pub top_mark : get_or marks top 0 ≡ 1
  top_mark = All-contains (λ i. get_or marks i 0 ≡ 1) (rest ++ top ∷ []) top m.on_the_way (Contains-push rest top)

  pub top_inside : top < length slots
  top_inside = All-contains (λ i. i < length slots) (rest ++ top ∷ []) top m.inside (Contains-push rest top)

  pub lighter_pop : sum_by mark_weight (set marks top next) < sum_by mark_weight marks
  lighter_pop =
      let w : sum_by mark_weight (set marks top next) + mark_weight (get_or marks top 0) ≡ sum_by mark_weight marks + mark_weight next = sum_by-set mark_weight marks top next 0 (omega (arith, m.same_length, top_inside)) in
      let was : mark_weight (get_or marks top 0) ≡ 1 = ap mark_weight top_mark in
      let now : mark_weight next ≡ 0 = no_weight next m.from_two in
      omega arith

  leads_on : (v : ℕ → Ground) (r : ℕ) → Meets v slots → IsBelow slots kind r → (k d : ℕ) → k < length (rest ++ top ∷ []) → LeadsTo (v (get_or (rest ++ top ∷ []) k d)) (v r)
  leads_on v r meets below k d h =
      let last : LeadsTo (v top) (v r) = below_leads v slots top kind r meets is below in
      elim (cases_lt k (length rest)) [
        | inl early ↦
            let e : get_or (rest ++ top ∷ []) k d ≡ get_or rest k d = get_or-append rest (top ∷ []) d k early in
            subst (λ i. LeadsTo (v i) (v r)) (sym e)
            (leads_trans (v (get_or rest k d)) (v top) (v r) (AllPairs-last (λ i j. LeadsTo (v i) (v j)) rest top (m.path v meets) k d early) last)
        | inr late ↦
            let at : k ≡ length rest = omega (arith, length-append rest (top ∷ [])) in
            let e : get_or (rest ++ top ∷ []) k d ≡ top = ap (λ j. get_or (rest ++ top ∷ []) j d) at ∙ get_or-append_seam rest top [] d in
            subst (λ i. LeadsTo (v i) (v r)) (sym e) last
      ]

  pub go_down : (r : ℕ) → IsBelow slots kind r → r < length slots → IsRoot (get_or slots r (Root Free)) → get_or marks r 0 ≡ 0 → Marked slots (set marks r 1) ((rest ++ top ∷ []) ++ r ∷ []) next
  go_down r below h root white = marked_push slots marks (rest ++ top ∷ []) next r m h root white (λ v meets. leads_on v r meets below)

  pub closed_cycle : (r : ℕ) → IsBelow slots kind r → get_or marks r 0 ≡ 1 → IsOnCycle slots top
  closed_cycle r below mark = record {
    inside = top_inside;
    root = subst (λ s. IsRoot s) (sym is) tt;
    names_others = λ k is_k. let same : kind ≡ k = cc in (r, subst (λ y. IsBelow slots y r) same below);
    is_text = λ v meets.
        let found : Contains (rest ++ top ∷ []) r = m.all_on_the_way r mark in
        let last : LeadsTo (v top) (v r) = below_leads v slots top kind r meets is below in
        around v r last found.0 found.1 found.2 meets;
  }
    where
      around : (v : ℕ → Ground) (r : ℕ) → LeadsTo (v top) (v r) → (k : ℕ) → k < length (rest ++ top ∷ []) → get_or (rest ++ top ∷ []) k r ≡ r → Meets v slots → IsText (v top)
      around v r last k h at meets =
          elim (cases_lt k (length rest)) [
            | inl early ↦
                let e : get_or rest k r ≡ r = sym (get_or-append rest (top ∷ []) r k early) ∙ at in
                let back : LeadsTo (v r) (v top) = subst (λ i. LeadsTo (v i) (v top)) e (AllPairs-last (λ i j. LeadsTo (v i) (v j)) rest top (m.path v meets) k r early) in
                leads_to_itself (v top) (leads_trans (v top) (v r) (v top) last back)
            | inr late ↦
                let here : k ≡ length rest = omega (arith, length-append rest (top ∷ [])) in
                let e : r ≡ top = sym at ∙ (ap (λ j. get_or (rest ++ top ∷ []) j r) here ∙ get_or-append_seam rest top [] r) in
                leads_to_itself (v top) (subst (λ i. LeadsTo (v top) (v i)) e last)
          ]

-- a train on a cycle is text, and so is its element
pub text_keeps : (slots : List Slot) (top : ℕ) (e : VarId) → top < length slots → get_or slots top (Root Free) ≡ Root (TrainOf e) → ((v : ℕ → Ground) → Meets v slots → IsText (v top)) → KeepsSolutions slots [] (set slots top (Root Text)) (Is e Text ∷ [])
text_keeps slots top e h is all = record {
  onward = λ v m w.
      let here : IsTrain (out-Ground (v top)) (v e.0) = subst (λ s. SlotHolds v (v top) s) is (m top) in
      let there : IsText (v e.0) = subst (λ g. IsTrain g (v e.0)) (all v m) here in
      (Meets-set v slots top (Root Text) h m (all v m), All-one (ConstraintHolds v) (Is e Text) there);
  back = λ v m w.
      let here : IsText (v top) = Meets-at_set v slots top (Root Text) h m in
      let there : IsText (v e.0) = All-head (ConstraintHolds v) (Is e Text) [] w in
      (Meets-unset v slots top (Root Text) m (subst (λ s. SlotHolds v (v top) s) (sym is) (subst (λ g. IsTrain g (v e.0)) (sym here) there)), All-nil (ConstraintHolds v));
}
