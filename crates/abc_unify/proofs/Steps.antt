-- Each step keeps the solutions.
use Rattle.std.proofs.Common.{◌≡◌, ℕ, ◌+◌, ◌*◌, ◌<◌, ◌≤◌, ◌↔◌, inl, inr, List, [], ◌∷◌, ◌++◌, length, get_or, set, sym, ◌∙◌, ap, subst, arith, refl, get_or-set_other, get_or-set_same}
use Rattle.std.proofs.Math.ListN.{length-set}
use Rattle.std.proofs.lemmas.Bool.{cases_eq}
use Rattle.std.proofs.lemmas.List.Elements.{All-append, All-cons, All-nil, All-head, All-tail}
use Rattle.std.proofs.lemmas.List.Sums.{sum_by-cons, sum_by-append, sum_by_push, sum_by-set}
use Rattle.std.specs.List.{All, sum_by}
use Rattle.abc_num.proofs.Parts.{All-front, All-behind}
use Rattle.abc_num.specs.declared.types.Ground.{Ground, out-Ground}
use Rattle.abc_num.specs.declared.types.Ground.TheOpen.{Ground-F}
use Rattle.abc_terms.specs.declared.term.VarId.{VarId}
use Rattle.abc_unify.specs.declared.kind.Kind.{Kind}
use Rattle.abc_unify.specs.declared.kind.Kind.TheVariants.{Free, Number, Text, NumberOrText, ListOf, TableOf, TrainOf, CollectionOf, Compound}
use Rattle.abc_unify.specs.declared.kind.Slot.{Slot}
use Rattle.abc_unify.specs.declared.kind.Slot.TheVariants.{Link, Root}
use Rattle.abc_unify.specs.declared.kind.Constraint.{Constraint}
use Rattle.abc_unify.specs.declared.kind.Constraint.TheVariants.{Is, Equal}
use Rattle.abc_unify.specs.declared.kind.Residue.{Residue}
use Rattle.abc_unify.specs.declared.kind.Residue.TheVariants.{Nothing, One, Two, Parts}
use Rattle.abc_terms.specs.Nodes.{AreIn}
use Rattle.abc_unify.specs.Outer.{types}
use Rattle.abc_unify.specs.inner.Kinds.{Fits, ConstraintHolds, ConstraintsHold, children, KindIn, ConstraintIn, ConstraintsIn, pairs, constraints_of, ResidueHolds, ResidueFits, ResidueIn, HasParts, kind_weight, constraint_weight, residue_weight}
use Rattle.abc_unify.specs.inner.Slots.{SlotHolds, Meets, SlotsIn, SlotIn, KeepsSolutions, HasNoSolution, slot_weight, weight}

-- what is written at a place holds there
pub Meets-at_set : (v : ℕ → Ground) (slots : List Slot) (r : ℕ) (s : Slot) → r < length slots → Meets v (set slots r s) → SlotHolds v (v r) s
Meets-at_set v slots r s h m =
    subst (λ x. SlotHolds v (v r) x) (get_or-set_same slots r s (Root Free) h) (m r)

pub Meets-set : (v : ℕ → Ground) (slots : List Slot) (r : ℕ) (s : Slot) → r < length slots → Meets v slots → SlotHolds v (v r) s → Meets v (set slots r s)
Meets-set v slots r s h m f i =
    elim (cases_eq i r) [
      | inl e ↦ rw e (subst (λ x. SlotHolds v (v r) x) (sym (get_or-set_same slots r s (Root Free) h)) f)
      | inr ne ↦ subst (λ x. SlotHolds v (v i) x) (sym (get_or-set_other slots r i s (Root Free) ne)) (m i)
    ]

pub Meets-unset : (v : ℕ → Ground) (slots : List Slot) (r : ℕ) (s : Slot) → Meets v (set slots r s) → SlotHolds v (v r) (get_or slots r (Root Free)) → Meets v slots
Meets-unset v slots r s m f i =
    elim (cases_eq i r) [
      | inl e ↦ rw e f
      | inr ne ↦ subst (λ x. SlotHolds v (v i) x) (get_or-set_other slots r i s (Root Free) ne) (m i)
    ]

pub SlotsIn-set : (slots : List Slot) (r : ℕ) (s : Slot) → r < length slots → SlotsIn slots → SlotIn (length slots) r s → SlotsIn (set slots r s)
SlotsIn-set slots r s h m f i =
    elim (cases_eq i r) [
      | inl e ↦ rw (e, get_or-set_same slots r s (Root Free) h, length-set) f
      | inr ne ↦ rw (get_or-set_other slots r i s (Root Free) ne, length-set) (m i)
    ]

pub All-one : {X : Type 0} (P : X → Type 0) (x : X) → P x → All P (x ∷ [])
All-one P x p = All-cons P x [] p (All-nil P)

-- a constraint on a variable and what was held of its root say what is written there and the residue
pub narrow_keeps : (slots : List Slot) (work residue : List Constraint) (a : VarId) (root : ℕ) (held added kind : Kind) → root < length slots → ((v : ℕ → Ground) → Meets v slots → v a.0 ≡ v root) → get_or slots root (Root Free) ≡ Root held → ((v : ℕ → Ground) (g : Ground-F Ground) → (Fits v g held × Fits v g added) ↔ (Fits v g kind × ConstraintsHold v residue)) → KeepsSolutions slots (work ++ Is a added ∷ []) (set slots root (Root kind)) (work ++ residue)
narrow_keeps slots work residue a root held added kind h same is both = record {
  onward = λ v m w.
      let here : Fits v (out-Ground (v root)) held = subst (λ x. SlotHolds v (v root) x) is (m root) in
      let wanted : Fits v (out-Ground (v a.0)) added = All-head (ConstraintHolds v) (Is a added) [] (All-behind (ConstraintHolds v) work (Is a added ∷ []) w) in
      let wanted_here : Fits v (out-Ground (v root)) added = subst (λ g. Fits v (out-Ground g) added) (same v m) wanted in
      let got : Fits v (out-Ground (v root)) kind × ConstraintsHold v residue = (both v (out-Ground (v root))).0 (here, wanted_here) in (
        Meets-set v slots root (Root kind) h m got.0,
        All-append (ConstraintHolds v) work residue (All-front (ConstraintHolds v) work (Is a added ∷ []) w) got.1,
      );
  back = λ v m w.
      let here : Fits v (out-Ground (v root)) kind = Meets-at_set v slots root (Root kind) h m in
      let got : Fits v (out-Ground (v root)) held × Fits v (out-Ground (v root)) added = (both v (out-Ground (v root))).1 (here, All-behind (ConstraintHolds v) work residue w) in
      let old : Meets v slots = Meets-unset v slots root (Root kind) m (subst (λ x. SlotHolds v (v root) x) (sym is) got.0) in
      let wanted : Fits v (out-Ground (v a.0)) added = subst (λ g. Fits v (out-Ground g) added) (sym (same v old)) got.1 in
      (old, All-append (ConstraintHolds v) work (Is a added ∷ []) (All-front (ConstraintHolds v) work residue w) (All-one (ConstraintHolds v) (Is a added) wanted));
}

-- the same where the kind at the root stays
pub keep_keeps : (slots : List Slot) (work residue : List Constraint) (a : VarId) (root : ℕ) (held added : Kind) → ((v : ℕ → Ground) → Meets v slots → v a.0 ≡ v root) → get_or slots root (Root Free) ≡ Root held → ((v : ℕ → Ground) (g : Ground-F Ground) → (Fits v g held × Fits v g added) ↔ (Fits v g held × ConstraintsHold v residue)) → KeepsSolutions slots (work ++ Is a added ∷ []) slots (work ++ residue)
keep_keeps slots work residue a root held added same is both = record {
  onward = λ v m w.
      let here : Fits v (out-Ground (v root)) held = subst (λ x. SlotHolds v (v root) x) is (m root) in
      let wanted : Fits v (out-Ground (v a.0)) added = All-head (ConstraintHolds v) (Is a added) [] (All-behind (ConstraintHolds v) work (Is a added ∷ []) w) in
      let wanted_here : Fits v (out-Ground (v root)) added = subst (λ g. Fits v (out-Ground g) added) (same v m) wanted in
      (m, All-append (ConstraintHolds v) work residue (All-front (ConstraintHolds v) work (Is a added ∷ []) w) ((both v (out-Ground (v root))).0 (here, wanted_here)).1);
  back = λ v m w.
      let here : Fits v (out-Ground (v root)) held = subst (λ x. SlotHolds v (v root) x) is (m root) in
      let got : Fits v (out-Ground (v root)) held × Fits v (out-Ground (v root)) added = (both v (out-Ground (v root))).1 (here, All-behind (ConstraintHolds v) work residue w) in
      let wanted : Fits v (out-Ground (v a.0)) added = subst (λ g. Fits v (out-Ground g) added) (sym (same v m)) got.1 in
      (m, All-append (ConstraintHolds v) work (Is a added ∷ []) (All-front (ConstraintHolds v) work residue w) (All-one (ConstraintHolds v) (Is a added) wanted));
}

pub narrow_clash : (slots : List Slot) (work : List Constraint) (a : VarId) (root : ℕ) (held added : Kind) → ((v : ℕ → Ground) → Meets v slots → v a.0 ≡ v root) → get_or slots root (Root Free) ≡ Root held → ((v : ℕ → Ground) (g : Ground-F Ground) → Fits v g held → Fits v g added → ⊥) → HasNoSolution slots (work ++ Is a added ∷ [])
narrow_clash slots work a root held added same is never v m w =
    let here : Fits v (out-Ground (v root)) held = subst (λ x. SlotHolds v (v root) x) is (m root) in
    let wanted : Fits v (out-Ground (v a.0)) added = All-head (ConstraintHolds v) (Is a added) [] (All-behind (ConstraintHolds v) work (Is a added ∷ []) w) in
    never v (out-Ground (v root)) here (subst (λ g. Fits v (out-Ground g) added) (same v m) wanted)

pairs_equal : (v : ℕ → Ground) (xs ys : List VarId) → types v xs ≡ types v ys → ConstraintsHold v (pairs xs ys)
pairs_equal v [] ys e = All-nil (ConstraintHolds v)
pairs_equal v (x ∷ xs) [] e = All-nil (ConstraintHolds v)
pairs_equal v (x ∷ xs) (y ∷ ys) e =
    let one : v x.0 ≡ v y.0 = cc in
    let rest : types v xs ≡ types v ys = cc in
    All-cons (ConstraintHolds v) (Equal x y) (pairs xs ys) one (pairs_equal v xs ys rest)

equal_pairs : (v : ℕ → Ground) (xs ys : List VarId) → length xs ≡ length ys → ConstraintsHold v (pairs xs ys) → types v xs ≡ types v ys
equal_pairs v [] [] e h = refl
equal_pairs v [] (y ∷ ys) e h = absurd (omega arith)
equal_pairs v (x ∷ xs) [] e h = absurd (omega arith)
equal_pairs v (x ∷ xs) (y ∷ ys) e h =
    let one : v x.0 ≡ v y.0 = All-head (ConstraintHolds v) (Equal x y) (pairs xs ys) h in
    let rest : types v xs ≡ types v ys = equal_pairs v xs ys (omega arith) (All-tail (ConstraintHolds v) (Equal x y) (pairs xs ys) h) in
    cc

pairs_in : (n : ℕ) (xs ys : List VarId) → AreIn n xs → AreIn n ys → ConstraintsIn n (pairs xs ys)
pairs_in n [] ys a b = All-nil (ConstraintIn n)
pairs_in n (x ∷ xs) [] a b = All-nil (ConstraintIn n)
pairs_in n (x ∷ xs) (y ∷ ys) a b = All-cons (ConstraintIn n) (Equal x y) (pairs xs ys) (a.0, b.0) (pairs_in n xs ys a.1 b.1)

pairs_weight : (xs ys : List VarId) → length xs ≡ length ys → sum_by constraint_weight (pairs xs ys) ≡ 3 * length ys
pairs_weight [] [] e = refl
pairs_weight [] (y ∷ ys) e = absurd (omega arith)
pairs_weight (x ∷ xs) [] e = absurd (omega arith)
pairs_weight (x ∷ xs) (y ∷ ys) e =
    let rest : sum_by constraint_weight (pairs xs ys) ≡ 3 * length ys = pairs_weight xs ys (omega arith) in
    omega (arith, sum_by-cons constraint_weight (Equal x y) (pairs xs ys))

parts_length : (held : Kind) (n : ℕ) → HasParts n held → length (children held) ≡ n
parts_length Free n h = absurd h
parts_length Number n h = absurd h
parts_length Text n h = absurd h
parts_length NumberOrText n h = absurd h
parts_length (ListOf c) n h = absurd h
parts_length (TableOf k a) n h = absurd h
parts_length (TrainOf e) n h = absurd h
parts_length (CollectionOf e) n h = absurd h
parts_length (Compound fields) n h = h

-- the residue as a list
pub residue_constraints : (v : ℕ → Ground) (held : Kind) (residue : Residue) → ResidueFits held residue → (ResidueHolds v held residue ↔ ConstraintsHold v (constraints_of held residue))
residue_constraints v held Nothing f = (λ h. All-nil (ConstraintHolds v), λ h. tt)
residue_constraints v held (One d) f = (λ h. All-one (ConstraintHolds v) d h, λ h. All-head (ConstraintHolds v) d [] h)
residue_constraints v held (Two d e) f = (
  λ h. All-cons (ConstraintHolds v) d (e ∷ []) h.0 (All-one (ConstraintHolds v) e h.1),
  λ h. (All-head (ConstraintHolds v) d (e ∷ []) h, All-head (ConstraintHolds v) e [] (All-tail (ConstraintHolds v) d (e ∷ []) h)),
)
residue_constraints v held (Parts fields) f = (
  λ h. pairs_equal v (children held) fields h,
  λ h. equal_pairs v (children held) fields (parts_length held (length fields) f) h,
)

pub residue_in : (n : ℕ) (held : Kind) (residue : Residue) → KindIn n held → ResidueIn n residue → ConstraintsIn n (constraints_of held residue)
residue_in n held Nothing k m = All-nil (ConstraintIn n)
residue_in n held (One d) k m = All-one (ConstraintIn n) d m
residue_in n held (Two d e) k m = All-cons (ConstraintIn n) d (e ∷ []) m.0 (All-one (ConstraintIn n) e m.1)
residue_in n held (Parts fields) k m = pairs_in n (children held) fields k m

pub residue_weighs : (held : Kind) (residue : Residue) → ResidueFits held residue → sum_by constraint_weight (constraints_of held residue) ≡ residue_weight residue
residue_weighs held Nothing f = refl
residue_weighs held (One d) f = grind arith
residue_weighs held (Two d e) f = grind arith
residue_weighs held (Parts fields) f = pairs_weight (children held) fields (parts_length held (length fields) f)

-- with the residue as a list
pub merge_constraints : (held added kind : Kind) (residue : Residue) → ResidueFits held residue → ((v : ℕ → Ground) (g : Ground-F Ground) → (Fits v g held × Fits v g added) ↔ (Fits v g kind × ResidueHolds v held residue)) → (v : ℕ → Ground) (g : Ground-F Ground) → (Fits v g held × Fits v g added) ↔ (Fits v g kind × ConstraintsHold v (constraints_of held residue))
merge_constraints held added kind residue f both v g = (
  λ h. let r : Fits v g kind × ResidueHolds v held residue = (both v g).0 h in (r.0, (residue_constraints v held residue f).0 r.1),
  λ h. (both v g).1 (h.0, (residue_constraints v held residue f).1 h.1),
)

-- the residue weighs less than the constraint
pub keep_lighter : (slots : List Slot) (work : List Constraint) (a : VarId) (held added : Kind) (residue : Residue) → ResidueFits held residue → kind_weight held + residue_weight residue ≤ kind_weight held + kind_weight added → weight slots (work ++ constraints_of held residue) < weight slots (work ++ Is a added ∷ [])
keep_lighter slots work a held added residue f light =
    omega (arith, sum_by-append constraint_weight work (constraints_of held residue), sum_by_push constraint_weight work (Is a added), residue_weighs held residue f)

pub put_lighter : (slots : List Slot) (work : List Constraint) (a : VarId) (root : ℕ) (held added kind : Kind) (residue : Residue) → root < length slots → get_or slots root (Root Free) ≡ Root held → ResidueFits held residue → kind_weight kind + residue_weight residue ≤ kind_weight held + kind_weight added → weight (set slots root (Root kind)) (work ++ constraints_of held residue) < weight slots (work ++ Is a added ∷ [])
put_lighter slots work a root held added kind residue h is f light =
    let was : slot_weight (get_or slots root (Root Free)) ≡ kind_weight held = ap slot_weight is in
    omega (arith, sum_by-append constraint_weight work (constraints_of held residue), sum_by_push constraint_weight work (Is a added), residue_weighs held residue f, sum_by-set slot_weight slots root (Root kind) (Root Free) h)

pub kind_in : (slots : List Slot) (root : ℕ) (held : Kind) → get_or slots root (Root Free) ≡ Root held → SlotsIn slots → KindIn (length slots) held
kind_in slots root held is inside = subst (λ x. SlotIn (length slots) root x) is (inside root)

-- a root that is linked to another leaves its kind as a constraint on that one
pub link_keeps : (slots : List Slot) (work : List Constraint) (high low : VarId) (held : Kind) → high.0 < length slots → get_or slots high.0 (Root Free) ≡ Root held → KeepsSolutions slots (work ++ Equal high low ∷ []) (set slots high.0 (Link low)) (work ++ Is low held ∷ [])
link_keeps slots work high low held h is = record {
  onward = λ v m w.
      let equal : v high.0 ≡ v low.0 = All-head (ConstraintHolds v) (Equal high low) [] (All-behind (ConstraintHolds v) work (Equal high low ∷ []) w) in
      let here : Fits v (out-Ground (v high.0)) held = subst (λ x. SlotHolds v (v high.0) x) is (m high.0) in (
        Meets-set v slots high.0 (Link low) h m equal,
        All-append (ConstraintHolds v) work (Is low held ∷ []) (All-front (ConstraintHolds v) work (Equal high low ∷ []) w) (All-one (ConstraintHolds v) (Is low held) (subst (λ g. Fits v (out-Ground g) held) equal here)),
      );
  back = λ v m w.
      let equal : v high.0 ≡ v low.0 = Meets-at_set v slots high.0 (Link low) h m in
      let there : Fits v (out-Ground (v low.0)) held = All-head (ConstraintHolds v) (Is low held) [] (All-behind (ConstraintHolds v) work (Is low held ∷ []) w) in (
        Meets-unset v slots high.0 (Link low) m (subst (λ x. SlotHolds v (v high.0) x) (sym is) (subst (λ g. Fits v (out-Ground g) held) (sym equal) there)),
        All-append (ConstraintHolds v) work (Equal high low ∷ []) (All-front (ConstraintHolds v) work (Is low held ∷ []) w) (All-one (ConstraintHolds v) (Equal high low) equal),
      );
}

-- one constraint in place of another that says the same
pub instead : (slots : List Slot) (work : List Constraint) (d e : Constraint) (slots2 : List Slot) (work2 : List Constraint) → ((v : ℕ → Ground) → Meets v slots → (ConstraintHolds v d ↔ ConstraintHolds v e)) → KeepsSolutions slots (work ++ e ∷ []) slots2 work2 → KeepsSolutions slots (work ++ d ∷ []) slots2 work2
instead slots work d e slots2 work2 same keeps = record {
  onward = λ v m w. keeps.onward v m (All-append (ConstraintHolds v) work (e ∷ []) (All-front (ConstraintHolds v) work (d ∷ []) w) (All-one (ConstraintHolds v) e ((same v m).0 (All-head (ConstraintHolds v) d [] (All-behind (ConstraintHolds v) work (d ∷ []) w)))));
  back = λ v m w.
      let old : Meets v slots × ConstraintsHold v (work ++ e ∷ []) = keeps.back v m w in
      (old.0, All-append (ConstraintHolds v) work (d ∷ []) (All-front (ConstraintHolds v) work (e ∷ []) old.1) (All-one (ConstraintHolds v) d ((same v old.0).1 (All-head (ConstraintHolds v) e [] (All-behind (ConstraintHolds v) work (e ∷ []) old.1)))));
}

-- a constraint that holds already
pub spare : (slots : List Slot) (work : List Constraint) (d : Constraint) → ((v : ℕ → Ground) → Meets v slots → ConstraintHolds v d) → KeepsSolutions slots (work ++ d ∷ []) slots work
spare slots work d holds = record {
  onward = λ v m w. (m, All-front (ConstraintHolds v) work (d ∷ []) w);
  back = λ v m w. (m, All-append (ConstraintHolds v) work (d ∷ []) w (All-one (ConstraintHolds v) d (holds v m)));
}

pub keeps_then : (s : List Slot) (w : List Constraint) (s2 : List Slot) (w2 : List Constraint) (s3 : List Slot) (w3 : List Constraint) → KeepsSolutions s w s2 w2 → KeepsSolutions s2 w2 s3 w3 → KeepsSolutions s w s3 w3
keeps_then s w s2 w2 s3 w3 one two = record {
  onward = λ v m n. let r : Meets v s2 × ConstraintsHold v w2 = one.onward v m n in two.onward v r.0 r.1;
  back = λ v m n. let r : Meets v s2 × ConstraintsHold v w2 = two.back v m n in one.back v r.0 r.1;
}

-- the roots of two classes are equal where the variables are
pub of_roots : (slots : List Slot) (a b ra rb : ℕ) → ((v : ℕ → Ground) → Meets v slots → v a ≡ v ra) → ((v : ℕ → Ground) → Meets v slots → v b ≡ v rb) → (v : ℕ → Ground) → Meets v slots → ((v a ≡ v b) ↔ (v ra ≡ v rb))
of_roots slots a b ra rb sa sb v m =
    let ea : v a ≡ v ra = sa v m in
    let eb : v b ≡ v rb = sb v m in
    (λ e. sym ea ∙ (e ∙ eb), λ e. ea ∙ (e ∙ sym eb))

pub of_roots_turned : (slots : List Slot) (a b ra rb : ℕ) → ((v : ℕ → Ground) → Meets v slots → v a ≡ v ra) → ((v : ℕ → Ground) → Meets v slots → v b ≡ v rb) → (v : ℕ → Ground) → Meets v slots → ((v a ≡ v b) ↔ (v rb ≡ v ra))
of_roots_turned slots a b ra rb sa sb v m =
    let ea : v a ≡ v ra = sa v m in
    let eb : v b ≡ v rb = sb v m in
    (λ e. sym eb ∙ (sym e ∙ ea), λ e. ea ∙ (sym e ∙ sym eb))
