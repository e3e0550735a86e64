-- Variables for the parts of a shape, one after the other, and the variable of the whole.
use Rattle.std.proofs.Common.{◌≡◌, ◌∙◌, ℕ, zero, suc, ◌+◌, ◌<◌, ◌≤◌, List, [], ◌∷◌, ◌++◌, length, take, ap, sym, subst, refl, arith}
use Rattle.std.specs.Prelude.{None, Some, slice_get}
use Rattle.std.specs.List.{AllByRecursion}
use Rattle.std.proofs.lemmas.List.{map-append, length-append, take_more, take_all}
use Rattle.std.proofs.lemmas.Option.{slice_get_within, get_or_from_slice_get}
use Rattle.std.proofs.lemmas.List.Elements.{All-append, All-cons, All-nil, All-weaker}
use Rattle.abc_num.proofs.Proper.{fields_proper, columns_proper, element_proper}
use Rattle.abc_num.specs.Types.{IsProper}
use Rattle.abc_num.specs.declared.types.Ground.{Ground}
use Rattle.abc_terms.specs.declared.term.VarId.{VarId}
use Rattle.abc_terms.specs.Demands.{MeetsAll}
use Rattle.abc_unify.specs.Graphs.{Seen}
use Rattle.abc_value.specs.Forms.{Form, Forms, anything, a_number, a_text, a_collection, a_compound, a_list, a_table, no_forms, more_forms, fits, each_fits}
use Rattle.abc_value.specs.ShapeParts.{shape_kind, shape_parts, listed_forms}
use Rattle.abc_value.specs.declared.shape.ShapeKind.{ShapeKind}
use Rattle.abc_demand.specs.Typings.{types_of, AreMade}
use Rattle.abc_check.specs.inner.Shaped.{IsOuter, IsOuterVar, NoOuterVar, IsShapeVar, NoShapeVar, AllFit, AreShapeVars, NoShapeVars}

-- ---- forms, and the types of their parts

all_listed : (ss : Forms) (gs : List Ground) → each_fits ss gs → AllFit (listed_forms ss) gs
all_listed no_forms [] f = tt
all_listed no_forms (g ∷ gs) f = absurd f
all_listed (more_forms s ss) [] f = absurd f
all_listed (more_forms s ss) (g ∷ gs) f = (f.0, all_listed ss gs f.1)

listed_all : (ss : Forms) (gs : List Ground) → AllFit (listed_forms ss) gs → each_fits ss gs
listed_all no_forms [] f = tt
listed_all no_forms (g ∷ gs) f = absurd f
listed_all (more_forms s ss) [] f = absurd f
listed_all (more_forms s ss) (g ∷ gs) f = (f.0, listed_all ss gs f.1)

-- the parts of a type of the form
parts_of_type : (s : Form) (g : Ground) → IsProper g → fits s g → (gs : List Ground) × AllByRecursion IsProper gs × AllFit (shape_parts s) gs × IsOuter (shape_kind s) gs g
parts_of_type anything g proper f = ([], tt, tt, tt)
parts_of_type a_number g proper f = ([], tt, tt, f)
parts_of_type a_text g proper f = ([], tt, tt, f)
parts_of_type a_collection g proper f = ([], tt, tt, f)
parts_of_type (a_compound ss) g proper (gs, is, each) = (gs, (fields_proper gs (subst IsProper is proper)).1, all_listed ss gs each, is)
parts_of_type (a_list s) g proper (e, is, f) = (e ∷ [], (element_proper e (subst IsProper is proper), tt), (f, tt), is)
parts_of_type (a_table s t) g proper (k, a, is, f, h) =
    let both : IsProper k × IsProper a = columns_proper k a (subst IsProper is proper) in
    (k ∷ (a ∷ []), (both.0, (both.1, tt)), (f, (h, tt)), is)

-- a type with such parts is of the form
of_parts : (s : Form) (g : Ground) (gs : List Ground) → AllFit (shape_parts s) gs → IsOuter (shape_kind s) gs g → fits s g
of_parts anything g gs f is = tt
of_parts a_number g gs f is = is
of_parts a_text g gs f is = is
of_parts a_collection g gs f is = is
of_parts (a_compound ss) g gs f is = (gs, is, listed_all ss gs f)
of_parts (a_list s) g [] f is = absurd f
of_parts (a_list s) g (e ∷ []) f is = (e, is, f.0)
of_parts (a_list s) g (e ∷ (d ∷ gs)) f is = absurd is
of_parts (a_table s t) g [] f is = absurd f
of_parts (a_table s t) g (k ∷ []) f is = absurd is
of_parts (a_table s t) g (k ∷ (a ∷ [])) f is = (k, a, is, f.0, f.1.0)
of_parts (a_table s t) g (k ∷ (a ∷ (b ∷ gs))) f is = absurd is

-- the variable of the whole
pub whole_made : (s : Form) (old mid new : Seen) (parts : List VarId) (a : VarId) → AreShapeVars (shape_parts s) old mid parts → IsOuterVar (shape_kind s) parts mid new a → IsShapeVar s old new a
whole_made s old mid new parts a are is = record {
  grows = omega (arith, are.grows, is.grows);
  there = is.there;
  older = λ v m. are.older v (is.older v m);
  from = λ v m. of_parts s (v a.0) (types_of v parts) (are.from v (is.older v m)) (is.from v m);
  to = λ v g proper m f.
      let p : (gs : List Ground) × AllByRecursion IsProper gs × AllFit (shape_parts s) gs × IsOuter (shape_kind s) gs g = parts_of_type s g proper f in
      let r : (w : ℕ → Ground) × ((i : ℕ) → i < old.count → w i ≡ v i) × (types_of w parts ≡ p.0) × MeetsAll w mid.demands = are.to v p.0 p.1 m p.2 in
      let q : (u : ℕ → Ground) × ((i : ℕ) → i < mid.count → u i ≡ r.0 i) × (u a.0 ≡ g) × MeetsAll u new.demands = is.to r.0 g proper r.3 (subst (λ gs. IsOuter (shape_kind s) gs g) (sym r.2) p.3) in
      (q.0, λ i lt. q.1 i (omega (arith, lt, are.grows)) ∙ r.1 i lt, q.2, q.3);
}

pub never_whole : (s : Form) (old mid : Seen) (parts : List VarId) → AreShapeVars (shape_parts s) old mid parts → NoOuterVar (shape_kind s) parts mid → NoShapeVar s old
never_whole s old mid parts are never v g proper m f =
    let p : (gs : List Ground) × AllByRecursion IsProper gs × AllFit (shape_parts s) gs × IsOuter (shape_kind s) gs g = parts_of_type s g proper f in
    let r : (w : ℕ → Ground) × ((i : ℕ) → i < old.count → w i ≡ v i) × (types_of w parts ≡ p.0) × MeetsAll w mid.demands = are.to v p.0 p.1 m p.2 in
    never r.0 g proper r.3 (subst (λ gs. IsOuter (shape_kind s) gs g) (sym r.2) p.3)

-- the same where the kind and the parts are others that are equal
module _ (s : Form) (k : ShapeKind) (old mid : Seen) (parts slice : List VarId) (kind_is : k ≡ shape_kind s) (slice_is : slice ≡ parts) (are : AreShapeVars (shape_parts s) old mid parts) where
  pub slice_made : AreMade mid.count slice
  slice_made = subst (λ (xs : List VarId). AreMade mid.count xs) (sym slice_is) are.there

  pub outer_whole : (new : Seen) (a : VarId) → IsOuterVar k slice mid new a → IsShapeVar s old new a
  outer_whole new a is = whole_made s old mid new parts a are (subst (λ (xs : List VarId). IsOuterVar (shape_kind s) xs mid new a) slice_is (subst (λ (x : ShapeKind). IsOuterVar x slice mid new a) kind_is is))

  pub never_outer : NoOuterVar k slice mid → NoShapeVar s old
  never_outer never = never_whole s old mid parts are (subst (λ (xs : List VarId). NoOuterVar (shape_kind s) xs mid) slice_is (subst (λ (x : ShapeKind). NoOuterVar x slice mid) kind_is never))

-- without variables for its parts it has none
pub never_parts : (s : Form) (old : Seen) → NoShapeVars (shape_parts s) old → NoShapeVar s old
never_parts s old never v g proper m f =
    let p : (gs : List Ground) × AllByRecursion IsProper gs × AllFit (shape_parts s) gs × IsOuter (shape_kind s) gs g = parts_of_type s g proper f in
    never v p.0 p.1 m p.2

-- ---- one part after the other

pub no_parts : (old : Seen) → AreShapeVars [] old old []
no_parts old = record {
  grows = omega arith;
  there = All-nil (λ (a : VarId). a.0 < old.count);
  older = λ v m. m;
  from = λ v m. tt;
  to = λ v gs proper m f. by_types v gs m f;
}
  where
    by_types : (v : ℕ → Ground) (gs : List Ground) → MeetsAll v old.demands → AllFit [] gs → (w : ℕ → Ground) × ((i : ℕ) → i < old.count → w i ≡ v i) × (types_of w [] ≡ gs) × MeetsAll w old.demands
    by_types v [] m f = (v, λ i lt. refl, refl, m)
    by_types v (g ∷ gs) m f = absurd f

all_and_one : (ss : List Form) (s : Form) (gs : List Ground) (g : Ground) → AllFit ss gs → fits s g → AllFit (ss ++ s ∷ []) (gs ++ g ∷ [])
all_and_one [] s [] g f h = (h, tt)
all_and_one [] s (x ∷ gs) g f h = absurd f
all_and_one (t ∷ ss) s [] g f h = absurd f
all_and_one (t ∷ ss) s (x ∷ gs) g f h = (f.0, all_and_one ss s gs g f.1 h)

-- types of one part more, taken apart
record Parted (ss : List Form) (s : Form) (gs : List Ground) : Type 0 where
  front : List Ground
  last : Ground
  whole : front ++ last ∷ [] ≡ gs
  front_proper : AllByRecursion IsProper front
  last_proper : IsProper last
  front_fits : AllFit ss front
  last_fits : fits s last

parted : (ss : List Form) (s : Form) (gs : List Ground) → AllByRecursion IsProper gs → AllFit (ss ++ s ∷ []) gs → Parted ss s gs
parted [] s [] proper f = absurd f
parted [] s (g ∷ []) proper f = record { front = []; last = g; whole = refl; front_proper = tt; last_proper = proper.0; front_fits = tt; last_fits = f.0 }
parted [] s (g ∷ (h ∷ gs)) proper f = absurd f.1
parted (t ∷ ss) s [] proper f = absurd f
parted (t ∷ ss) s (g ∷ gs) proper f =
    let r : Parted ss s gs = parted ss s gs proper.1 f.1 in
    record { front = g ∷ r.front; last = r.last; whole = ap (λ xs. g ∷ xs) r.whole; front_proper = (proper.0, r.front_proper); last_proper = r.last_proper; front_fits = (f.0, r.front_fits); last_fits = r.last_fits }

-- variables keep their types where the first ones do
same_types : (n : ℕ) (v w : ℕ → Ground) (vars : List VarId) → AreMade n vars → ((i : ℕ) → i < n → w i ≡ v i) → types_of w vars ≡ types_of v vars
same_types n v w [] made same = refl
same_types n v w (a ∷ vars) made same =
    ap (λ g. g ∷ types_of w vars) (same a.0 (made 0 a (omega arith))) ∙ ap (λ gs. v a.0 ∷ gs) (same_types n v w vars (λ i d lt. made (suc i) d (omega (arith, lt))) same)

next_part : (ss : List Form) (s : Form) (old now next : Seen) (vars : List VarId) (a : VarId) → AreShapeVars ss old now vars → IsShapeVar s now next a → AreShapeVars (ss ++ s ∷ []) old next (vars ++ a ∷ [])
next_part ss s old now next vars a are is = record {
  grows = omega (arith, are.grows, is.grows);
  there = All-append (λ (b : VarId). b.0 < next.count) vars (a ∷ []) (All-weaker (λ (b : VarId). b.0 < now.count) (λ (b : VarId). b.0 < next.count) (λ b lt. omega (arith, lt, is.grows)) vars are.there)
      (All-cons (λ (b : VarId). b.0 < next.count) a [] is.there (All-nil (λ (b : VarId). b.0 < next.count)));
  older = λ v m. are.older v (is.older v m);
  from = λ v m. subst (λ gs. AllFit (ss ++ s ∷ []) gs) (sym (map-append (λ (b : VarId). v b.0) vars (a ∷ []))) (all_and_one ss s (types_of v vars) (v a.0) (are.from v (is.older v m)) (is.from v m));
  to = λ v gs proper m f.
      let p : Parted ss s gs = parted ss s gs proper f in
      let r : (w : ℕ → Ground) × ((i : ℕ) → i < old.count → w i ≡ v i) × (types_of w vars ≡ p.front) × MeetsAll w now.demands = are.to v p.front p.front_proper m p.front_fits in
      let q : (u : ℕ → Ground) × ((i : ℕ) → i < now.count → u i ≡ r.0 i) × (u a.0 ≡ p.last) × MeetsAll u next.demands = is.to r.0 p.last p.last_proper r.3 p.last_fits in
      let first : types_of q.0 vars ≡ p.front = same_types now.count r.0 q.0 vars are.there q.1 ∙ r.2 in
      let all : types_of q.0 (vars ++ a ∷ []) ≡ gs = map-append (λ (b : VarId). q.0 b.0) vars (a ∷ []) ∙ (ap (λ xs. xs ++ q.0 a.0 ∷ []) first ∙ (ap (λ g. p.front ++ g ∷ []) q.2 ∙ p.whole)) in
      (q.0, λ i lt. q.1 i (omega (arith, lt, are.grows)) ∙ r.1 i lt, all, q.3);
}

-- one form more is taken
pub take_next : {X : Type 0} (xs : List X) (i : ℕ) (x : X) → slice_get xs i ≡ Some x → take i xs ++ x ∷ [] ≡ take (i + 1) xs
take_next xs i x at = ap (λ y. take i xs ++ y ∷ []) (sym (get_or_from_slice_get xs i x x at)) ∙ sym (take_more xs i x (slice_get_within xs i x at))

pub part_added : (ss : List Form) (s : Form) (old now next : Seen) (vars more : List VarId) (a : VarId) → slice_get ss (length vars) ≡ Some s → AreShapeVars (take (length vars) ss) old now vars → IsShapeVar s now next a → more ≡ vars ++ a ∷ []
    → AreShapeVars (take (length more) ss) old next more
part_added ss s old now next vars more a at are is pushed =
    let count : length more ≡ length vars + 1 = ap length pushed ∙ length-append vars (a ∷ []) in
    let all : AreShapeVars (take (length vars) ss ++ s ∷ []) old next (vars ++ a ∷ []) = next_part (take (length vars) ss) s old now next vars a are is in
    subst (λ xs. AreShapeVars (take (length more) ss) old next xs) (sym pushed)
    (subst (λ n. AreShapeVars (take n ss) old next (vars ++ a ∷ [])) (sym count) (subst (λ fs. AreShapeVars fs old next (vars ++ a ∷ [])) (take_next ss (length vars) s at) all))

-- the types of the first parts and of the next
front_and_next : (ss : List Form) (n : ℕ) (s : Form) (gs : List Ground) → slice_get ss n ≡ Some s → AllByRecursion IsProper gs → AllFit ss gs → (front : List Ground) × AllByRecursion IsProper front × AllFit (take n ss) front × ((g : Ground) × IsProper g × fits s g)
front_and_next [] n s gs at proper f = absurd (cc)
front_and_next (t ∷ ss) n s [] at proper f = absurd f
front_and_next (t ∷ ss) zero s (g ∷ gs) at proper f = let e : t ≡ s = cc in ([], tt, tt, (g, proper.0, subst (λ x. fits x g) e f.0))
front_and_next (t ∷ ss) (suc n) s (g ∷ gs) at proper f =
    let r : (front : List Ground) × AllByRecursion IsProper front × AllFit (take n ss) front × ((h : Ground) × IsProper h × fits s h) = front_and_next ss n s gs at proper.1 f.1 in
    (g ∷ r.0, (proper.0, r.1), (f.0, r.2), r.3)

pub never_part : (ss : List Form) (s : Form) (old now : Seen) (vars : List VarId) → slice_get ss (length vars) ≡ Some s → AreShapeVars (take (length vars) ss) old now vars → NoShapeVar s now → NoShapeVars ss old
never_part ss s old now vars at are never v gs proper m f =
    let p : (front : List Ground) × AllByRecursion IsProper front × AllFit (take (length vars) ss) front × ((g : Ground) × IsProper g × fits s g) = front_and_next ss (length vars) s gs at proper f in
    let r : (w : ℕ → Ground) × ((i : ℕ) → i < old.count → w i ≡ v i) × (types_of w vars ≡ p.0) × MeetsAll w now.demands = are.to v p.0 p.1 m p.2 in
    never r.0 p.3.0 p.3.1 r.3 p.3.2

-- a list ends before a place where nothing is
pub past : {X : Type 0} (xs : List X) (i : ℕ) → slice_get xs i ≡ None → length xs ≤ i
past [] i none = omega arith
past (x ∷ xs) zero none = absurd (cc)
past (x ∷ xs) (suc i) none = omega (arith, past xs i none)

-- all parts have variables
pub parts_ended : (ss : List Form) (old now : Seen) (vars : List VarId) → slice_get ss (length vars) ≡ None → AreShapeVars (take (length vars) ss) old now vars → AreShapeVars ss old now vars
parts_ended ss old now vars none are = subst (λ fs. AreShapeVars fs old now vars) (take_all (length vars) ss (past ss (length vars) none)) are
