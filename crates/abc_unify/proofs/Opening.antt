-- What the slot of a root says is what the form says of the solutions.
use Rattle.std.proofs.Common.{◌≡◌, ◌∙◌, ℕ, zero, suc, ◌+◌, ◌<◌, ◌≤◌, ◌⊎◌, false, inl, inr, List, length, get_or, ap, sym, subst, refl, arith}
use Rattle.std.proofs.lemmas.Bool.{cases_eq, cases_lt}
use Rattle.abc_num.specs.declared.types.Ground.{Ground, out-Ground}
use Rattle.abc_num.specs.declared.types.Ground.TheOpen.{Ground-F}
use Rattle.abc_num.specs.declared.types.Ground.TheVariants as type
use Rattle.abc_terms.specs.declared.term.VarId.{VarId}
use Rattle.abc_terms.specs.declared.demand.Demand.{Demand}
use Rattle.abc_terms.specs.Demands.{MeetsAll}
use Rattle.abc_terms.specs.Sizes.{size}
use Rattle.abc_terms.proofs.Grounds.{out_number, out_text, out_list, out_table}
use Rattle.abc_terms.proofs.Mending.{mended, mended_types, mended_is_proper, meets_mended, mended_number, mended_text, mended_list, mended_table}
use Rattle.abc_unify.specs.declared.kind.Kind.{Kind}
use Rattle.abc_unify.specs.declared.kind.Kind.TheVariants.{Free, Number, Text, NumberOrText, ListOf, TableOf, TrainOf, CollectionOf, Compound}
use Rattle.abc_unify.specs.declared.kind.Slot.{Slot}
use Rattle.abc_unify.specs.declared.kind.Slot.TheVariants.{Root, Link}
use Rattle.abc_unify.specs.declared.forms.Form.{Form}
use Rattle.abc_unify.specs.declared.forms.Form.TheVariants as form
use Rattle.abc_unify.specs.declared.forms.VaryKind.{VaryKind}
use Rattle.abc_unify.specs.declared.forms.VaryKind.TheVariants as vary
use Rattle.abc_terms.specs.Nodes.{AreIn}
use Rattle.abc_unify.specs.Outer.{IsTrain, IsCollection, IsText}
use Rattle.abc_unify.specs.inner.Kinds.{Fits, KindIn}
use Rattle.abc_unify.specs.inner.Slots.{SlotHolds, Meets, SlotIn, root_of, IsRoot, IsChild, IsRanked}
use Rattle.abc_unify.specs.inner.Cycles.{LeadsTo}
use Rattle.abc_unify.specs.inner.States.{IsSolved}
use Rattle.abc_unify.specs.Forms.{IsSolution, VaryFits, FormFits, leads_on, outer, HasTwoForms, MayDiffer, MustAgree, HasText, IsLong, IsOpen, IsVarying, VariesSo, IsForm}
use Rattle.abc_unify.specs.inner.Reading.{TextAt, IsRead}
use Rattle.abc_unify.proofs.Solutions.{built, assignment, built_at, nothing_given, has_solution, root_of-root, root_of-link}
use Rattle.abc_unify.proofs.Solved.{root_below}
use Rattle.abc_unify.proofs.Walking.{fits_leads, meets_root}
use Rattle.abc_unify.proofs.Varying.{can_vary}
use Rattle.abc_unify.proofs.Deciding.{strict, length_types}

-- the kind leaves the outer form open
abbrev pub IsOpenKind : Kind → Type 0
IsOpenKind Free = Unit {0}
IsOpenKind Number = ⊥
IsOpenKind Text = ⊥
IsOpenKind NumberOrText = Unit {0}
IsOpenKind (ListOf c) = ⊥
IsOpenKind (TableOf k a) = ⊥
IsOpenKind (TrainOf e) = Unit {0}
IsOpenKind (CollectionOf e) = Unit {0}
IsOpenKind (Compound fields) = ⊥

built_not_text : (v : ℕ → Ground) (k : Kind) (x : ℕ) → IsChild k x → built v k ≡ Ground-F.Text → ⊥
built_not_text v Free x c e = absurd c
built_not_text v Number x c e = absurd c
built_not_text v Text x c e = absurd c
built_not_text v NumberOrText x c e = absurd c
built_not_text v (ListOf b) x c e = absurd (cc)
built_not_text v (TableOf k a) x c e = absurd (cc)
built_not_text v (TrainOf b) x c e = absurd (cc)
built_not_text v (CollectionOf b) x c e = absurd (cc)
built_not_text v (Compound fields) x c e = absurd (cc)

text_only : (v w : ℕ → Ground) (g : Ground-F Ground) (k : Kind) → built v k ≡ Ground-F.Text → Fits w g k → g ≡ Ground-F.Text
text_only v w g Free e f = absurd (cc)
text_only v w g Number e f = absurd (cc)
text_only v w g Text e f = f
text_only v w g NumberOrText e f = absurd (cc)
text_only v w g (ListOf b) e f = absurd (cc)
text_only v w g (TableOf k a) e f = absurd (cc)
text_only v w g (TrainOf b) e f = absurd (cc)
text_only v w g (CollectionOf b) e f = absurd (cc)
text_only v w g (Compound fields) e f = absurd (cc)

-- a type whose outer form stays where compounds are mended
abbrev Has : Ground → ℕ → Type 0
Has g i = outer (out-Ground (mended g)) ≡ i

has_number : Has type.Number 0
has_number = ap (λ g. outer (out-Ground g)) mended_number ∙ ap outer out_number

has_text : Has type.Text 1
has_text = ap (λ g. outer (out-Ground g)) mended_text ∙ ap outer out_text

has_list : (g : Ground) → Has (type.List g) 2
has_list g = ap (λ h. outer (out-Ground h)) (mended_list g) ∙ ap outer (out_list (mended g))

has_table : (k g : Ground) → Has (type.Table k g) 3
has_table k g = ap (λ h. outer (out-Ground h)) (mended_table k g) ∙ ap outer (out_table (mended k) (mended g))

record Two (v : ℕ → Ground) (k : Kind) : Type 0 where
  pub one : Ground
  pub two : Ground
  pub form_one : ℕ
  pub form_two : ℕ
  pub fits_one : Fits v (out-Ground one) k
  pub fits_two : Fits v (out-Ground two) k
  pub has_one : Has one form_one
  pub has_two : Has two form_two
  pub apart : form_one ≡ form_two → ⊥

two_plain : (v : ℕ → Ground) (k : Kind) → ((g : Ground-F Ground) → (g ≡ Ground-F.Number) ⊎ (g ≡ Ground-F.Text) → Fits v g k) → Two v k
two_plain v k fits = record {
  one = type.Number;
  two = type.Text;
  form_one = 0;
  form_two = 1;
  fits_one = fits (out-Ground type.Number) (inl out_number);
  fits_two = fits (out-Ground type.Text) (inr out_text);
  has_one = has_number;
  has_two = has_text;
  apart = λ e. absurd (omega arith);
}

two_collections : (v : ℕ → Ground) (k : Kind) (e : VarId) → ((g : Ground-F Ground) → (g ≡ Ground-F.List (v e.0)) ⊎ (g ≡ Ground-F.Table type.Number (v e.0)) → Fits v g k) → Two v k
two_collections v k e fits = record {
  one = type.List (v e.0);
  two = type.Table type.Number (v e.0);
  form_one = 2;
  form_two = 3;
  fits_one = fits (out-Ground (type.List (v e.0))) (inl (out_list (v e.0)));
  fits_two = fits (out-Ground (type.Table type.Number (v e.0))) (inr (out_table type.Number (v e.0)));
  has_one = has_list (v e.0);
  has_two = has_table type.Number (v e.0);
  apart = λ e. absurd (omega arith);
}

plain_either : (v : ℕ → Ground) (g : Ground-F Ground) → (g ≡ Ground-F.Number) ⊎ (g ≡ Ground-F.Text) → Fits v g NumberOrText
plain_either v g (inl is) = subst (λ h. Fits v h NumberOrText) (sym is) tt
plain_either v g (inr is) = subst (λ h. Fits v h NumberOrText) (sym is) tt

train_either : (v : ℕ → Ground) (e : VarId) (g : Ground-F Ground) → (g ≡ Ground-F.List (v e.0)) ⊎ (g ≡ Ground-F.Table type.Number (v e.0)) → Fits v g (TrainOf e)
train_either v e g (inl is) = subst (λ h. Fits v h (TrainOf e)) (sym is) refl
train_either v e g (inr is) = subst (λ h. Fits v h (TrainOf e)) (sym is) refl

collection_either : (v : ℕ → Ground) (e : VarId) (g : Ground-F Ground) → (g ≡ Ground-F.List (v e.0)) ⊎ (g ≡ Ground-F.Table type.Number (v e.0)) → Fits v g (CollectionOf e)
collection_either v e g (inl is) = subst (λ h. Fits v h (CollectionOf e)) (sym is) refl
collection_either v e g (inr is) = subst (λ h. Fits v h (CollectionOf e)) (sym is) refl

-- a kind that leaves the form open has two types of different outer forms
two_types : (v : ℕ → Ground) (k : Kind) → IsOpenKind k → Two v k
two_types v Free y = two_plain v Free (λ g is. tt)
two_types v Number y = absurd y
two_types v Text y = absurd y
two_types v NumberOrText y = two_plain v NumberOrText (plain_either v)
two_types v (ListOf c) y = absurd y
two_types v (TableOf k a) y = absurd y
two_types v (TrainOf e) y = two_collections v (TrainOf e) e (train_either v e)
two_types v (CollectionOf e) y = two_collections v (CollectionOf e) e (collection_either v e)
two_types v (Compound fields) y = absurd y

-- another kind has types of one outer form
kind_form : (k : Kind) → IsOpenKind k ⊎ ((i : ℕ) × ((v : ℕ → Ground) (g : Ground-F Ground) → Fits v g k → outer g ≡ i))
kind_form Free = inl tt
kind_form Number = inr (0, λ v g f. ap outer f)
kind_form Text = inr (1, λ v g f. ap outer f)
kind_form NumberOrText = inl tt
kind_form (ListOf c) = inr (2, λ v g f. ap outer f)
kind_form (TableOf k a) = inr (3, λ v g f. ap outer f)
kind_form (TrainOf e) = inl tt
kind_form (CollectionOf e) = inl tt
kind_form (Compound fields) = inr (4 + length fields, λ v g f. ap outer f ∙ ap (λ n. 4 + n) (length_types v fields))

slot_is_root : (s : Slot) → IsRoot s → (k : Kind) × (s ≡ Root k)
slot_is_root (Root k) is = (k, refl)
slot_is_root (Link b) is = absurd is

module _ (slots : List Slot) (demands : List Demand) (solved : IsSolved slots demands) where
  kind_fits : (v : ℕ → Ground) → MeetsAll v demands → (r : ℕ) (k : Kind) → get_or slots r (Root Free) ≡ Root k → Fits v (out-Ground (v r)) k
  kind_fits v m r k is = subst (λ s. SlotHolds v (v r) s) is (solved.from_demands v m r)

  at_root : (v : ℕ → Ground) → MeetsAll v demands → (x : ℕ) → v x ≡ v (root_of slots x)
  at_root v m x = meets_root v slots x (solved.from_demands v m)

  base : ℕ → Ground
  base = assignment slots (λ _. false) (λ _. type.Number) solved.rank

  base_meets : MeetsAll base demands
  unfolding base
  base_meets = solved.to_demands (assignment slots (λ _. false) (λ _. type.Number) solved.rank) (has_solution slots (λ _. false) (λ _. type.Number) solved.rank solved.ranked (nothing_given slots (λ _. type.Number)) solved.inside)

  base_built : (r : ℕ) (k : Kind) → get_or slots r (Root Free) ≡ Root k → out-Ground (base r) ≡ built base k
  unfolding base
  base_built r k is = built_at slots (λ _. false) (λ _. type.Number) solved.rank solved.ranked r k refl is

  -- each variable has a root, which has a kind
  root_kind : (f x : ℕ) → x < f → (k : Kind) × (get_or slots (root_of slots x) (Root Free) ≡ Root k)
  root_kind zero x h = absurd (omega arith)
  root_kind (suc f) x h = by_slot (get_or slots x (Root Free)) refl (λ y low. root_kind f y (omega arith))
    where
      by_slot : (s : Slot) → get_or slots x (Root Free) ≡ s → ((y : ℕ) → y < x → (k : Kind) × (get_or slots (root_of slots y) (Root Free) ≡ Root k)) → (k : Kind) × (get_or slots (root_of slots x) (Root Free) ≡ Root k)
      by_slot (Root k) is again = (k, subst (λ i. get_or slots i (Root Free) ≡ Root k) (sym (root_of-root slots x k is)) is)
      by_slot (Link b) is again =
          let below : b.0 < x = subst (λ t. SlotIn (length slots) x t) is (solved.inside x) in
          let r : (k : Kind) × (get_or slots (root_of slots b.0) (Root Free) ≡ Root k) = again b.0 below in
          (r.0, subst (λ i. get_or slots i (Root Free) ≡ Root r.0) (sym (root_of-link slots x b solved.inside is)) r.1)

  kind_at_root : (x : ℕ) → (k : Kind) × (get_or slots (root_of slots x) (Root Free) ≡ Root k)
  kind_at_root x = root_kind (suc x) x (omega arith)

  base_long : IsLong demands base
  base_long = (
    base_meets,
    λ x is v m.
        let k : (k : Kind) × (get_or slots (root_of slots x) (Root Free) ≡ Root k) = kind_at_root x in
        let here : built base k.0 ≡ Ground-F.Text = sym (base_built (root_of slots x) k.0 k.1) ∙ (ap out-Ground (sym (at_root base base_meets x)) ∙ is) in
        ap out-Ground (at_root v m x) ∙ text_only base v (out-Ground (v (root_of slots x))) k.0 here (kind_fits v m (root_of slots x) k.0 k.1),
  )

  -- classes rank by the sizes of types of which only those are text that must be
  long_ranks : (m : ℕ → Ground) → IsLong demands m → IsRanked slots (λ i. size (m i))
  long_ranks m long = record { falls = λ i k x is c. falls i k x is c }
    where
      falls : (i : ℕ) (k : Kind) (x : ℕ) → get_or slots i (Root Free) ≡ Root k → IsChild k x → size (m (root_of slots x)) < size (m i)
      falls i k x is c =
          let leads : LeadsTo (m i) (m x) = fits_leads m (m i) k x (kind_fits m long.0 i k is) c in
          let no_text : IsText (m i) → ⊥ = λ t. built_not_text base k x c (sym (base_built i k is) ∙ long.1 i t base base_meets) in
          let less : size (m x) < size (m i) = strict (m i) (m x) leads no_text in
          let same : size (m x) ≡ size (m (root_of slots x)) = ap size (at_root m long.0 x) in
          omega arith

  -- a root takes any type of its kind
  vary_at : (v m : ℕ → Ground) → MeetsAll v demands → IsLong demands m → (r : ℕ) (k : Kind) → get_or slots r (Root Free) ≡ Root k → (g : Ground) → Fits v (out-Ground g) k → (w : ℕ → Ground) × MeetsAll w demands × (w r ≡ g) × ((x : ℕ) → (root_of slots x ≡ r → ⊥) → size (m x) ≤ size (m r) → w x ≡ v x)
  vary_at v m meets long r k is g fits =
      let c : (w : ℕ → Ground) × Meets w slots × (w r ≡ g) × ((x : ℕ) → (root_of slots x ≡ r → ⊥) → size (m (root_of slots x)) ≤ size (m r) → w x ≡ v x) = can_vary slots solved.inside (λ i. size (m i)) (long_ranks m long) v (solved.from_demands v meets) r k is g fits in
      (c.0, solved.to_demands c.0 c.1, c.2, λ x apart low. c.3 x apart (let same : size (m x) ≡ size (m (root_of slots x)) = ap size (at_root m long.0 x) in omega arith))

  proper : (w : ℕ → Ground) → MeetsAll w demands → IsSolution demands (mended_types w)
  proper w m = (λ a. mended_is_proper (w a), meets_mended w (length slots) demands solved.made m)

  -- two types of an open root, while what is not above it keeps its own
  record Both (r : ℕ) : Type 0 where
    pub first : ℕ → Ground
    pub second : ℕ → Ground
    pub meets_first : MeetsAll first demands
    pub meets_second : MeetsAll second demands
    pub form_first : ℕ
    pub form_second : ℕ
    pub has_first : Has (first r) form_first
    pub has_second : Has (second r) form_second
    pub forms_apart : form_first ≡ form_second → ⊥
    pub same_first : (x : ℕ) → (root_of slots x ≡ r → ⊥) → size (base x) ≤ size (base r) → first x ≡ base x
    pub same_second : (x : ℕ) → (root_of slots x ≡ r → ⊥) → size (base x) ≤ size (base r) → second x ≡ base x

  both : (r : ℕ) (k : Kind) → get_or slots r (Root Free) ≡ Root k → IsOpenKind k → Both r
  both r k is y =
      let t : Two base k = two_types base k y in
      let a : (w : ℕ → Ground) × MeetsAll w demands × (w r ≡ t.one) × ((x : ℕ) → (root_of slots x ≡ r → ⊥) → size (base x) ≤ size (base r) → w x ≡ base x) = vary_at base base base_meets base_long r k is t.one t.fits_one in
      let b : (w : ℕ → Ground) × MeetsAll w demands × (w r ≡ t.two) × ((x : ℕ) → (root_of slots x ≡ r → ⊥) → size (base x) ≤ size (base r) → w x ≡ base x) = vary_at base base base_meets base_long r k is t.two t.fits_two in
      record {
        first = a.0;
        second = b.0;
        meets_first = a.1;
        meets_second = b.1;
        form_first = t.form_one;
        form_second = t.form_two;
        has_first = subst (λ g. Has g t.form_one) (sym a.2) t.has_one;
        has_second = subst (λ g. Has g t.form_two) (sym b.2) t.has_two;
        forms_apart = t.apart;
        same_first = a.3;
        same_second = b.3;
      }

  two_forms : (a r : ℕ) (k : Kind) → root_of slots a ≡ r → get_or slots r (Root Free) ≡ Root k → IsOpenKind k → HasTwoForms demands a
  two_forms a r k root is y =
      let b : Both r = both r k is y in
      let one : b.first a ≡ b.first r = at_root b.first b.meets_first a ∙ ap b.first root in
      let two : b.second a ≡ b.second r = at_root b.second b.meets_second a ∙ ap b.second root in (
        mended_types b.first,
        mended_types b.second,
        proper b.first b.meets_first,
        proper b.second b.meets_second,
        λ e. b.forms_apart (sym (subst (λ g. Has g b.form_first) (sym one) b.has_first) ∙ (e ∙ subst (λ g. Has g b.form_second) (sym two) b.has_second)),
      )

  -- an open class differs in some solution from another that is not above it
  separated : (r : ℕ) (k : Kind) → get_or slots r (Root Free) ≡ Root k → IsOpenKind k → (x : ℕ) → (root_of slots x ≡ r → ⊥) → size (base x) ≤ size (base r) → MayDiffer demands x r
  separated r k is y x apart low =
      let b : Both r = both r k is y in
      elim (cases_eq b.form_first (outer (out-Ground (mended (base x))))) [
        | inl e ↦ (mended_types b.second, proper b.second b.meets_second, λ same. b.forms_apart (e ∙ (ap (λ g. outer (out-Ground (mended g))) (sym (b.same_second x apart low)) ∙ (ap (λ g. outer (out-Ground g)) same ∙ b.has_second))))
        | inr ne ↦ (mended_types b.first, proper b.first b.meets_first, λ same. ne (sym b.has_first ∙ (ap (λ g. outer (out-Ground g)) (sym same) ∙ ap (λ g. outer (out-Ground (mended g))) (b.same_first x apart low))))
      ]

  -- what has one outer form differs in some solution from what has two
  fixed_apart : (a x i : ℕ) → HasTwoForms demands a → ((v : ℕ → Ground) → MeetsAll v demands → outer (out-Ground (v x)) ≡ i) → MayDiffer demands x a
  fixed_apart a x i t always =
      elim (cases_eq (outer (out-Ground (t.0 a))) i) [
        | inl e ↦ (t.1, t.3, λ same. t.4 (e ∙ (sym (always t.1 t.3.1) ∙ ap (λ g. outer (out-Ground g)) same)))
        | inr ne ↦ (t.0, t.2, λ same. ne (ap (λ g. outer (out-Ground g)) (sym same) ∙ always t.0 t.2.1))
      ]

  one_root : (a : ℕ) (r : VarId) (k : Kind) → root_of slots a ≡ r.0 → get_or slots r.0 (Root Free) ≡ Root k → IsOpenKind k → (x : ℕ) → MayDiffer demands x a ⊎ ((r.0 ≤ x) × MustAgree demands x a)
  one_root a r k root is y x =
      elim (cases_eq (root_of slots x) r.0) [
        | inl e ↦ inr (subst (λ i. i ≤ x) e (root_below slots solved.inside x), λ v m. at_root v m x ∙ (ap v (e ∙ sym root) ∙ sym (at_root v m a)))
        | inr ne ↦ inl (apart ne (kind_at_root x) (cases_lt (size (base r.0)) (size (base x))))
      ]
    where
      from_root : MayDiffer demands x r.0 → MayDiffer demands x a
      from_root d = (d.0, d.1, λ e. d.2 (e ∙ (at_root d.0 d.1.1 a ∙ ap d.0 root)))

      swapped : MayDiffer demands a (root_of slots x) → MayDiffer demands x a
      swapped d = (d.0, d.1, λ e. d.2 (sym e ∙ at_root d.0 d.1.1 x))

      apart : (root_of slots x ≡ r.0 → ⊥) → (l : (l : Kind) × (get_or slots (root_of slots x) (Root Free) ≡ Root l)) → ((size (base r.0) < size (base x)) ⊎ (size (base x) ≤ size (base r.0))) → MayDiffer demands x a
      apart ne l (inr low) = from_root (separated r.0 k is y x ne low)
      apart ne l (inl high) =
          elim (kind_form l.0) [
            | inl also ↦ swapped (separated (root_of slots x) l.0 l.1 also a (λ e. ne (sym e ∙ root))
                (let s : size (base a) ≡ size (base r.0) = ap size (at_root base base_meets a ∙ ap base root) in
                let t : size (base x) ≡ size (base (root_of slots x)) = ap size (at_root base base_meets x) in omega arith))
            | inr one ↦ fixed_apart a x one.0 (two_forms a r.0 k root is y) (λ v m. ap (λ g. outer (out-Ground g)) (at_root v m x) ∙ one.1 v (out-Ground (v (root_of slots x))) (kind_fits v m (root_of slots x) l.0 l.1))
          ]

  is_open : (a r : ℕ) (k : Kind) (open_kind : VaryKind) → root_of slots a ≡ r → get_or slots r (Root Free) ≡ Root k → ((v : ℕ → Ground) (g : Ground) → VaryFits v (out-Ground g) open_kind → Fits v (out-Ground g) k) → IsOpen demands a open_kind
  is_open a r k open_kind root is means v m meets long g fits =
      let c : (w : ℕ → Ground) × MeetsAll w demands × (w r ≡ g) × ((x : ℕ) → (root_of slots x ≡ r → ⊥) → size (m x) ≤ size (m r) → w x ≡ v x) = vary_at v m meets long r k is g (means v g fits) in (
        c.0,
        c.1,
        at_root c.0 c.1 a ∙ (ap c.0 root ∙ c.2),
        λ x differ low. c.3 x (λ e. differ.2 (at_root differ.0 differ.1.1 x ∙ (ap differ.0 (e ∙ sym root) ∙ sym (at_root differ.0 differ.1.1 a))))
            (let s : size (m a) ≡ size (m r) = ap size (at_root m long.0 a ∙ ap m root) in omega arith),
      )

  varying : (a : ℕ) (r : VarId) (k : Kind) (open_kind : VaryKind) → root_of slots a ≡ r.0 → get_or slots r.0 (Root Free) ≡ Root k → IsOpenKind k → HasText demands a open_kind → ((v : ℕ → Ground) (g : Ground) → VaryFits v (out-Ground g) open_kind → Fits v (out-Ground g) k) → IsVarying (length slots) demands a r open_kind
  varying a r k open_kind root is y text means = record {
    two_forms = two_forms a r.0 k root is y;
    one_root = λ x h. one_root a r k root is y x;
    text = text;
    is_open = is_open a r.0 k open_kind root is means;
  }

  -- a train has text where its element may be text
  train_text : (a r : ℕ) (e : VarId) → root_of slots a ≡ r → get_or slots r (Root Free) ≡ Root (TrainOf e) → TextAt slots e.0 → HasText demands a (vary.Train e)
  train_text a r e root is t =
      let m : MeetsAll t.0 demands = solved.to_demands t.0 t.1 in
      let fits : IsTrain (out-Ground type.Text) (t.0 e.0) = subst (λ g. IsTrain g (t.0 e.0)) (sym out_text) t.2 in
      let c : (w : ℕ → Ground) × MeetsAll w demands × (w r ≡ type.Text) × ((x : ℕ) → (root_of slots x ≡ r → ⊥) → size (base x) ≤ size (base r) → w x ≡ t.0 x) = vary_at t.0 base m base_long r (TrainOf e) is type.Text fits in
      (mended_types c.0, proper c.0 c.1, ap (λ g. out-Ground (mended g)) (at_root c.0 c.1 a ∙ (ap c.0 root ∙ c.2)) ∙ (ap out-Ground mended_text ∙ out_text))

  train_no_text : (v : ℕ → Ground) (g : Ground-F Ground) (e : VarId) → (IsText (v e.0) → ⊥) → IsTrain g (v e.0) → IsCollection g (v e.0)
  train_no_text v Ground-F.Number e never f = absurd f
  train_no_text v Ground-F.Text e never f = absurd (never f)
  train_no_text v (Ground-F.Compound fields) e never f = absurd f
  train_no_text v (Ground-F.List element) e never f = f
  train_no_text v (Ground-F.Table key associate) e never f = f

  collection_train : (v : ℕ → Ground) (g : Ground-F Ground) (e : VarId) → IsCollection g (v e.0) → IsTrain g (v e.0)
  collection_train v Ground-F.Number e f = absurd f
  collection_train v Ground-F.Text e f = absurd f
  collection_train v (Ground-F.Compound fields) e f = absurd f
  collection_train v (Ground-F.List element) e f = f
  collection_train v (Ground-F.Table key associate) e f = f

  -- what is read at the root is the form
  pub read_is_form : (a : ℕ) (r : VarId) (k : Kind) (f : Form) → a < length slots → r.0 < length slots → root_of slots a ≡ r.0 → get_or slots r.0 (Root Free) ≡ Root k → IsRead slots r k f → IsForm (length slots) demands a f
  read_is_form a r k f made low root is read = by_kind k f is read (subst (λ s. SlotIn (length slots) r.0 s) is (solved.inside r.0))
    where
      at : (v : ℕ → Ground) → MeetsAll v demands → v a ≡ v r.0
      at v m = at_root v m a ∙ ap v root

      here : (l : Kind) → get_or slots r.0 (Root Free) ≡ Root l → (v : ℕ → Ground) → MeetsAll v demands → Fits v (out-Ground (v a)) l
      here l is_l v m = subst (λ g. Fits v (out-Ground g) l) (sym (at v m)) (kind_fits v m r.0 l is_l)

      make : (g : Form) → AreIn (length slots) (leads_on g) → ((v : ℕ → Ground) → MeetsAll v demands → FormFits v (v a) g) → VariesSo (length slots) demands a g → (h : Form) → h ≡ g → IsForm (length slots) demands a h
      make g i fits varies h e = subst (λ x. IsForm (length slots) demands a x) (sym e) (record { made = made; inside = i; fits = fits; varies = varies; long = (base, base_long) })

      by_kind : (l : Kind) (h : Form) → get_or slots r.0 (Root Free) ≡ Root l → IsRead slots r l h → KindIn (length slots) l → IsForm (length slots) demands a h
      by_kind Free h is e i = make (form.Varies r vary.Free) (low, tt) (λ v m. (at v m, tt)) (varying a r Free vary.Free root is tt tt (λ v g fits. tt)) h e
      by_kind Number h is e i = make form.Number tt (here Number is) tt h e
      by_kind Text h is e i = make form.Text tt (here Text is) tt h e
      by_kind NumberOrText h is e i = make (form.Varies r vary.NumberOrText) (low, tt) (λ v m. (at v m, here NumberOrText is v m)) (varying a r NumberOrText vary.NumberOrText root is tt tt (λ v g fits. fits)) h e
      by_kind (ListOf c) h is e i = make (form.List c) i (here (ListOf c) is) tt h e
      by_kind (TableOf b c) h is e i = make (form.Table b c) i (here (TableOf b c) is) tt h e
      by_kind (Compound fields) h is e i = make (form.Compound fields) i (here (Compound fields) is) tt h e
      by_kind (CollectionOf c) h is e i =
          make (form.Varies r (vary.Collection c)) (low, i) (λ v m. (at v m, here (CollectionOf c) is v m))
          (varying a r (CollectionOf c) (vary.Collection c) root is tt (λ v m t. subst (λ g. IsCollection g (v c.0)) t (here (CollectionOf c) is v m)) (λ v g fits. fits)) h e
      by_kind (TrainOf c) h is (inl e) i =
          make (form.Varies r (vary.Train c)) (low, i) (λ v m. (at v m, here (TrainOf c) is v m))
          (varying a r (TrainOf c) (vary.Train c) root is tt (train_text a r.0 c root is e.1) (λ v g fits. fits)) h e.0
      by_kind (TrainOf c) h is (inr e) i =
          make (form.Varies r (vary.Collection c)) (low, i) (λ v m. (at v m, train_no_text v (out-Ground (v a)) c (λ t. e.1 (v, solved.from_demands v m, t)) (here (TrainOf c) is v m)))
          (varying a r (TrainOf c) (vary.Collection c) root is tt (λ v m t. e.1 (v, solved.from_demands v m, subst (λ g. IsTrain g (v c.0)) t (here (TrainOf c) is v m))) (λ v g fits. collection_train v (out-Ground g) c fits)) h e.0
