-- The forms of variables, and of all that these lead to, decide which types they have.
use Rattle.std.proofs.Common.{◌≡◌, ◌∙◌, ℕ, zero, suc, ◌+◌, ◌<◌, ◌≤◌, ◌⊎◌, ◌↔◌, inl, inr, List, [], ◌∷◌, length, map, get_or, ap, sym, subst, refl, arith}
use Rattle.std.proofs.lemmas.Bool.{cases_eq}
use Rattle.std.proofs.lemmas.List.Elements.{All-contains, All-head, All-tail, All-cons, All-nil, All-append, All-contains_itself, All-weaker}
use Rattle.std.specs.List.{All, Contains}
use Rattle.abc_num.specs.declared.types.Ground.{Ground, out-Ground}
use Rattle.abc_num.specs.declared.types.Ground.TheOpen.{Ground-F}
use Rattle.abc_terms.specs.declared.term.VarId.{VarId}
use Rattle.abc_terms.specs.declared.demand.Demand.{Demand}
use Rattle.abc_terms.specs.declared.term.Term.TheVariants as term
use Rattle.abc_terms.specs.declared.demand.Demand.TheVariants as demand
use Rattle.abc_terms.specs.Demands.{Holds, MeetsAll}
use Rattle.abc_num.proofs.Parts.{All-front, All-behind}
use Rattle.abc_unify.proofs.Steps.{All-one}
use Rattle.abc_unify.proofs.Forming.{number_is, text_is, list_is, table_is, compound_is, train_is, collection_is, plain_is}
use Rattle.abc_terms.specs.Sizes.{size}
use Rattle.abc_terms.specs.Nodes.{DemandIn, AreIn}
use Rattle.abc_num.specs.Types.{IsProper}
use Rattle.abc_terms.proofs.Mending.{mended, mended_types, mended_is_proper, mended_proper, meets_mended, proper_two}
use Rattle.abc_unify.specs.Graphs.{HasSolution}
use Rattle.abc_num.specs.declared.types.Ground.TheVariants as type
use Rattle.abc_terms.proofs.Terms.{number_node, text_node, list_node, table_node, compound_node}
use Rattle.abc_unify.proofs.Among.{are_in_place}
use Rattle.abc_terms.proofs.Grounds.{out_compound, out_same}
use Rattle.abc_unify.specs.declared.forms.Form.{Form}
use Rattle.abc_unify.specs.declared.forms.Form.TheVariants as form
use Rattle.abc_unify.specs.declared.forms.Known.{Known}
use Rattle.abc_unify.specs.declared.forms.VaryKind.{VaryKind}
use Rattle.abc_unify.specs.declared.forms.VaryKind.TheVariants as vary
use Rattle.abc_unify.specs.declared.kind.Kind.TheVariants as kind
use Rattle.abc_unify.specs.Outer.{types, IsTrain, IsCollection, IsText}
use Rattle.abc_unify.proofs.Solutions.{types_same}
use Rattle.abc_unify.proofs.Walking.{fits_leads}
use Rattle.abc_unify.specs.inner.Slots.{IsAmong}
use Rattle.abc_unify.specs.inner.Cycles.{LeadsTo}
use Rattle.abc_unify.specs.Forms.{IsSolution, VaryFits, FormFits, vary_names, leads_on, outer, HasTwoForms, MayDiffer, MustAgree, IsLong, IsVarying, IsForm, IsKnown, AreForms, AllFit, IsPart, said_kind, said, all_said}

-- where it is not text it leads to what is smaller
pub strict : (g h : Ground) → LeadsTo g h → (IsText g → ⊥) → size h < size g
strict g h (inl both) not = absurd (not both.0)
strict g h (inr less) not = less

pub length_types : (v : ℕ → Ground) (xs : List VarId) → length (types v xs) ≡ length xs
length_types v [] = refl
length_types v (x ∷ xs) = ap suc (length_types v xs)

-- a variable that agrees with one that varies varies
module _ (n : ℕ) (demands : List Demand) (a b : ℕ) (root : VarId) (kind : VaryKind) (varying : IsVarying n demands a root kind) (agree : MustAgree demands b a) where
  no_form : (k : ℕ) → ((v : ℕ → Ground) → MeetsAll v demands → outer (out-Ground (v b)) ≡ k) → ⊥
  no_form k always =
      let t = varying.two_forms in
      t.4 (ap (λ g. outer (out-Ground g)) (sym (agree t.0 t.2.1)) ∙ (always t.0 t.2.1 ∙ (sym (always t.1 t.3.1) ∙ ap (λ g. outer (out-Ground g)) (agree t.1 t.3.1))))

  also_varies : (f : Form) → IsForm n demands b f → (root2 : VarId) × (kind2 : VaryKind) × (f ≡ form.Varies root2 kind2)
  also_varies form.Number is = absurd (no_form 0 (λ v m. ap outer (is.fits v m)))
  also_varies form.Text is = absurd (no_form 1 (λ v m. ap outer (is.fits v m)))
  also_varies (form.Compound fields) is = absurd (no_form (4 + length fields) (λ v m. ap outer (is.fits v m) ∙ ap (λ k. 4 + k) (length_types v fields)))
  also_varies (form.List c) is = absurd (no_form 2 (λ v m. ap outer (is.fits v m)))
  also_varies (form.Table k e) is = absurd (no_form 3 (λ v m. ap outer (is.fits v m)))
  also_varies (form.Varies root2 kind2) is = (root2, kind2, refl)

-- the first variable that always agrees with it is one for variables that agree
lower_root : (n : ℕ) (demands : List Demand) (a b : ℕ) (root root2 : VarId) (kind kind2 : VaryKind) → IsForm n demands a (form.Varies root kind) → IsForm n demands b (form.Varies root2 kind2) → ((v : ℕ → Ground) → IsSolution demands v → v a ≡ v b) → root.0 ≤ root2.0
lower_root n demands a b root root2 kind kind2 is is2 agree = choose (is.varies.one_root root2.0 is2.inside.0)
  where
    choose : (MayDiffer demands root2.0 a ⊎ ((root.0 ≤ root2.0) × MustAgree demands root2.0 a)) → root.0 ≤ root2.0
    choose (inl differ) = absurd (differ.2 (sym (is2.fits differ.0 differ.1.1).0 ∙ sym (agree differ.0 differ.1)))
    choose (inr low) = low.0

pub same_root : (n : ℕ) (demands : List Demand) (a b : ℕ) (root root2 : VarId) (kind kind2 : VaryKind) → IsForm n demands a (form.Varies root kind) → IsForm n demands b (form.Varies root2 kind2) → ((v : ℕ → Ground) → IsSolution demands v → v a ≡ v b) → root.0 ≡ root2.0
same_root n demands a b root root2 kind kind2 is is2 agree =
    let low : root.0 ≤ root2.0 = lower_root n demands a b root root2 kind kind2 is is2 agree in
    let high : root2.0 ≤ root.0 = lower_root n demands b a root2 root kind2 kind is2 is (λ v s. sym (agree v s)) in
    omega arith

pub one_root : (n : ℕ) (demands : List Demand) (a b : ℕ) (root root2 : VarId) (kind kind2 : VaryKind) → IsForm n demands a (form.Varies root kind) → IsForm n demands b (form.Varies root2 kind2) → root.0 ≡ root2.0 → (v : ℕ → Ground) → MeetsAll v demands → v a ≡ v b
one_root n demands a b root root2 kind kind2 is is2 same v m = (is.fits v m).0 ∙ (ap v same ∙ sym (is2.fits v m).0)

all_among : (P : ℕ → Type 0) (xs : List VarId) (x : ℕ) → All (λ y. P y.0) xs → IsAmong x xs → P x
all_among P [] x all c = absurd c
all_among P (y ∷ ys) x all (inl e) = subst (λ i. P i) (sym e) (All-head (λ z. P z.0) y ys all)
all_among P (y ∷ ys) x all (inr c) = all_among P ys x (All-tail (λ z. P z.0) y ys all) c

vary_same : (v w : ℕ → Ground) (g : Ground-F Ground) (kind : VaryKind) → ((x : ℕ) → IsAmong x (vary_names kind) → v x ≡ w x) → VaryFits v g kind → VaryFits w g kind
vary_same v w g vary.Free same f = tt
vary_same v w g (vary.Train e) same f = subst (λ h. IsTrain g h) (same e.0 (inl refl)) f
vary_same v w g (vary.Collection e) same f = subst (λ h. IsCollection g h) (same e.0 (inl refl)) f
vary_same v w g vary.NumberOrText same f = f

form_same : (v w : ℕ → Ground) (g : Ground) (f : Form) → ((x : ℕ) → IsAmong x (leads_on f) → v x ≡ w x) → FormFits v g f → FormFits w g f
form_same v w g form.Number same h = h
form_same v w g form.Text same h = h
form_same v w g (form.Compound fields) same h = h ∙ ap Ground-F.Compound (types_same v w fields same)
form_same v w g (form.List c) same h = h ∙ ap Ground-F.List (same c.0 (inl refl))
form_same v w g (form.Table k e) same h = let one : v k.0 ≡ w k.0 = same k.0 (inl refl) in let two : v e.0 ≡ w e.0 = same e.0 (inr (inl refl)) in cc
form_same v w g (form.Varies root kind) same h = (h.0 ∙ same root.0 (inl refl), vary_same v w (out-Ground g) kind (λ x c. same x (inr c)) h.1)

-- the kind of what varies leads to smaller types, but where it must be text
vary_leads : (v : ℕ → Ground) (g : Ground) (kind : VaryKind) (x : ℕ) → VaryFits v (out-Ground g) kind → IsAmong x (vary_names kind) → LeadsTo g (v x)
vary_leads v g vary.Free x f c = absurd c
vary_leads v g (vary.Train e) x f c = fits_leads v g (kind.TrainOf e) x f c
vary_leads v g (vary.Collection e) x f c = fits_leads v g (kind.CollectionOf e) x f c
vary_leads v g vary.NumberOrText x f c = absurd c

form_leads : (f : Form) → ((root : VarId) (kind : VaryKind) → f ≡ form.Varies root kind → ⊥) → (v : ℕ → Ground) (g : Ground) (x : ℕ) → FormFits v g f → IsAmong x (leads_on f) → size (v x) < size g
form_leads form.Number fixed v g x h c = absurd c
form_leads form.Text fixed v g x h c = absurd c
form_leads (form.Compound fields) fixed v g x h c = strict g (v x) (fits_leads v g (kind.Compound fields) x h c) (λ t. absurd (let e : Ground-F.Text ≡ Ground-F.Compound (types v fields) = sym t ∙ h in cc))
form_leads (form.List e) fixed v g x h c = strict g (v x) (fits_leads v g (kind.ListOf e) x h c) (λ t. absurd (let e : Ground-F.Text ≡ Ground-F.List (v e.0) = sym t ∙ h in cc))
form_leads (form.Table k e) fixed v g x h c = strict g (v x) (fits_leads v g (kind.TableOf k e) x h c) (λ t. absurd (let e : Ground-F.Text ≡ Ground-F.Table (v k.0) (v e.0) = sym t ∙ h in cc))
form_leads (form.Varies root kind) fixed v g x h c = absurd (fixed root kind refl)

-- a type that is given by its outer form is one type
fixed_same : (f : Form) → ((root : VarId) (kind : VaryKind) → f ≡ form.Varies root kind → ⊥) → (v : ℕ → Ground) (g h : Ground) → FormFits v g f → FormFits v h f → g ≡ h
fixed_same form.Number fixed v g h a b = out_same g h (a ∙ sym b)
fixed_same form.Text fixed v g h a b = out_same g h (a ∙ sym b)
fixed_same (form.Compound fields) fixed v g h a b = out_same g h (a ∙ sym b)
fixed_same (form.List e) fixed v g h a b = out_same g h (a ∙ sym b)
fixed_same (form.Table k e) fixed v g h a b = out_same g h (a ∙ sym b)
fixed_same (form.Varies root kind) fixed v g h a b = absurd (fixed root kind refl)

varies_or_not : (f : Form) → ((root : VarId) × (kind : VaryKind) × (f ≡ form.Varies root kind)) ⊎ ((root : VarId) (kind : VaryKind) → f ≡ form.Varies root kind → ⊥)
varies_or_not form.Number = inr (λ root kind e. absurd (cc))
varies_or_not form.Text = inr (λ root kind e. absurd (cc))
varies_or_not (form.Compound fields) = inr (λ root kind e. absurd (cc))
varies_or_not (form.List c) = inr (λ root kind e. absurd (cc))
varies_or_not (form.Table k a) = inr (λ root kind e. absurd (cc))
varies_or_not (form.Varies root kind) = inl (root, kind, refl)

-- what varies is not text where only that is text which must be
long_not_text : (n : ℕ) (demands : List Demand) (a : ℕ) (m : ℕ → Ground) → HasTwoForms demands a → IsLong demands m → IsText (m a) → ⊥
long_not_text n demands a m t long is =
    let one : out-Ground (t.0 a) ≡ Ground-F.Text = long.1 a is t.0 t.2.1 in
    let two : out-Ground (t.1 a) ≡ Ground-F.Text = long.1 a is t.1 t.3.1 in
    t.4 (ap outer one ∙ sym (ap outer two))

module _ (n : ℕ) (demands : List Demand) (all : List Known) (forms : AreForms n demands all) (u : ℕ → Ground) (fit : AllFit u all) (m : ℕ → Ground) (long : IsLong demands m) where
  form_at : (e : Known) → Contains all e → IsForm n demands e.at.0 e.form
  form_at e c = All-contains (λ e. IsForm n demands e.at.0 e.form) all e forms.each c

  fit_at : (e : Known) → Contains all e → FormFits u (u e.at.0) e.form
  fit_at e c = All-contains (λ e. FormFits u (u e.at.0) e.form) all e fit c

  known_at : (e : Known) → Contains all e → (x : ℕ) → IsAmong x (leads_on e.form) → IsKnown all x
  known_at e c x among = all_among (λ y. IsKnown all y) (leads_on e.form) x (All-contains (λ e. All (λ x. IsKnown all x.0) (leads_on e.form)) all e forms.closed c) among

  -- all that is smaller than k has its type
  IsDown : (ℕ → Ground) → ℕ → Type 0
  IsDown v k = (e : Known) → Contains all e → size (m e.at.0) < k → v e.at.0 ≡ u e.at.0

  -- all that is not larger than k and had its type has it still
  Stays : (v w : ℕ → Ground) → ℕ → Type 0
  Stays v w k = (e : Known) → Contains all e → size (m e.at.0) ≤ k → v e.at.0 ≡ u e.at.0 → w e.at.0 ≡ u e.at.0

  down_at : (v : ℕ → Ground) (k : ℕ) → IsDown v k → (x : ℕ) → IsKnown all x → size (m x) < k → v x ≡ u x
  unfolding IsDown
  down_at v k down x known less =
      subst (λ i. v i ≡ u i) known.2 (down known.0 known.1 (subst (λ i. size (m i) < k) (sym known.2) less))

  -- variables that agree have one type in `u`
  agree_in : (e b : Known) → Contains all e → Contains all b → (root : VarId) (kind : VaryKind) → e.form ≡ form.Varies root kind → MustAgree demands b.at.0 e.at.0 → u e.at.0 ≡ u b.at.0
  agree_in e b ce cb root kind is agree =
      let fe : IsForm n demands e.at.0 (form.Varies root kind) = subst (λ f. IsForm n demands e.at.0 f) is (form_at e ce) in
      let two : (root2 : VarId) × (kind2 : VaryKind) × (b.form ≡ form.Varies root2 kind2) = also_varies n demands e.at.0 b.at.0 root kind fe.varies agree b.form (form_at b cb) in
      let fb : IsForm n demands b.at.0 (form.Varies two.0 two.1) = subst (λ f. IsForm n demands b.at.0 f) two.2 (form_at b cb) in
      let same : root.0 ≡ two.0.0 = same_root n demands e.at.0 b.at.0 root two.0 kind two.1 fe fb (λ v s. sym (agree v s.1)) in
      let ue : FormFits u (u e.at.0) (form.Varies root kind) = subst (λ f. FormFits u (u e.at.0) f) is (fit_at e ce) in
      let ub : FormFits u (u b.at.0) (form.Varies two.0 two.1) = subst (λ f. FormFits u (u b.at.0) f) two.2 (fit_at b cb) in
      ue.0 ∙ (ap u same ∙ sym ub.0)

  step_fixed : (e : Known) → Contains all e → ((root : VarId) (kind : VaryKind) → e.form ≡ form.Varies root kind → ⊥) → (v : ℕ → Ground) → MeetsAll v demands → IsDown v (size (m e.at.0)) → v e.at.0 ≡ u e.at.0
  step_fixed e c fixed v meets down =
      let fe : IsForm n demands e.at.0 e.form = form_at e c in
      fixed_same e.form fixed u (v e.at.0) (u e.at.0)
      (form_same v u (v e.at.0) e.form (λ x among. down_at v (size (m e.at.0)) down x (known_at e c x among) (form_leads e.form fixed m (m e.at.0) x (fe.fits m long.0) among)) (fe.fits v meets))
      (fit_at e c)

  step_open : (e : Known) → Contains all e → (root : VarId) (kind : VaryKind) → e.form ≡ form.Varies root kind → (v : ℕ → Ground) → MeetsAll v demands → IsDown v (size (m e.at.0)) → (w : ℕ → Ground) × MeetsAll w demands × (w e.at.0 ≡ u e.at.0) × Stays v w (size (m e.at.0))
  unfolding Stays
  step_open e c root kind is v meets down =
      let fe : IsForm n demands e.at.0 (form.Varies root kind) = subst (λ f. IsForm n demands e.at.0 f) is (form_at e c) in
      let ue : FormFits u (u e.at.0) (form.Varies root kind) = subst (λ f. FormFits u (u e.at.0) f) is (fit_at e c) in
      let me : FormFits m (m e.at.0) (form.Varies root kind) = fe.fits m long.0 in
      let fits : VaryFits v (out-Ground (u e.at.0)) kind =
      vary_same u v (out-Ground (u e.at.0)) kind (λ x among. sym (down_at v (size (m e.at.0)) down x
      (known_at e c x (subst (λ f. IsAmong x (leads_on f)) (sym is) (inr among)))
      (strict (m e.at.0) (m x) (vary_leads m (m e.at.0) kind x me.1 among) (long_not_text n demands e.at.0 m fe.varies.two_forms long)))) ue.1 in
      let r : (w : ℕ → Ground) × MeetsAll w demands × (w e.at.0 ≡ u e.at.0) × ((x : ℕ) → MayDiffer demands x e.at.0 → size (m x) ≤ size (m e.at.0) → w x ≡ v x) = fe.varies.is_open v m meets long (u e.at.0) fits in
      (r.0, r.1, r.2, λ b cb low has. choose r.0 r.1 r.2 r.3 b cb low has (fe.varies.one_root b.at.0 (form_at b cb).made))
    where
      choose : (w : ℕ → Ground) → MeetsAll w demands → w e.at.0 ≡ u e.at.0 → ((x : ℕ) → MayDiffer demands x e.at.0 → size (m x) ≤ size (m e.at.0) → w x ≡ v x) → (b : Known) → Contains all b → size (m b.at.0) ≤ size (m e.at.0) → v b.at.0 ≡ u b.at.0 → (MayDiffer demands b.at.0 e.at.0 ⊎ ((root.0 ≤ b.at.0) × MustAgree demands b.at.0 e.at.0)) → w b.at.0 ≡ u b.at.0
      choose w mw at others b cb low has (inl differ) = others b.at.0 differ low ∙ has
      choose w mw at others b cb low has (inr same) = same.1 w mw ∙ (at ∙ agree_in e b c cb root kind is same.1)

  step : (e : Known) → Contains all e → (v : ℕ → Ground) → MeetsAll v demands → IsDown v (size (m e.at.0)) → (w : ℕ → Ground) × MeetsAll w demands × (w e.at.0 ≡ u e.at.0) × Stays v w (size (m e.at.0))
  unfolding Stays
  step e c v meets down =
      elim (varies_or_not e.form) [
        | inl varies ↦ step_open e c varies.0 varies.1 varies.2 v meets down
        | inr fixed ↦ (v, meets, step_fixed e c fixed v meets down, λ b cb low has. has)
      ]

  stays_down : (v w : ℕ → Ground) (k : ℕ) → IsDown v k → Stays v w k → IsDown w k
  unfolding IsDown Stays
  stays_down v w k down stays e c less = stays e c (omega arith) (down e c less)

  -- all of size k, one by one
  run : (k : ℕ) (todo : List Known) → All (Contains all) todo → (v : ℕ → Ground) → MeetsAll v demands → IsDown v k → (w : ℕ → Ground) × MeetsAll w demands × Stays v w k × All (λ e. size (m e.at.0) ≡ k → w e.at.0 ≡ u e.at.0) todo
  unfolding Stays
  run k [] inside v meets down = (v, meets, λ e c low has. has, All-nil (λ e. size (m e.at.0) ≡ k → v e.at.0 ≡ u e.at.0))
  run k (e ∷ todo) inside v meets down =
      let c : Contains all e = All-head (Contains all) e todo inside in
      let rest : All (Contains all) todo = All-tail (Contains all) e todo inside in
      elim (cases_eq (size (m e.at.0)) k) [
        | inl here ↦
            let s : (w : ℕ → Ground) × MeetsAll w demands × (w e.at.0 ≡ u e.at.0) × Stays v w (size (m e.at.0)) = step e c v meets (subst (λ i. IsDown v i) (sym here) down) in
            let stays : Stays v s.0 k = subst (λ i. Stays v s.0 i) here s.3 in
            let r : (w : ℕ → Ground) × MeetsAll w demands × Stays s.0 w k × All (λ e. size (m e.at.0) ≡ k → w e.at.0 ≡ u e.at.0) todo = run k todo rest s.0 s.1 (stays_down v s.0 k down stays) in
            (r.0, r.1, λ b cb low has. r.2 b cb low (stays b cb low has), All-cons (λ e. size (m e.at.0) ≡ k → r.0 e.at.0 ≡ u e.at.0) e todo (λ is. r.2 e c (omega arith) s.2) r.3)
        | inr apart ↦
            let r : (w : ℕ → Ground) × MeetsAll w demands × Stays v w k × All (λ e. size (m e.at.0) ≡ k → w e.at.0 ≡ u e.at.0) todo = run k todo rest v meets down in
            (r.0, r.1, r.2, All-cons (λ e. size (m e.at.0) ≡ k → r.0 e.at.0 ≡ u e.at.0) e todo (λ is. absurd (apart is)) r.3)
      ]

  levels : (k : ℕ) → (w : ℕ → Ground) × MeetsAll w demands × IsDown w k
  unfolding IsDown
  levels zero = (m, long.0, λ e c less. absurd (omega arith))
  levels (suc k) =
      let v : (w : ℕ → Ground) × MeetsAll w demands × IsDown w k = levels k in
      let r : (w : ℕ → Ground) × MeetsAll w demands × Stays v.0 w k × All (λ e. size (m e.at.0) ≡ k → w e.at.0 ≡ u e.at.0) all = run k all (All-contains_itself all) v.0 v.1 v.2 in
      let down : IsDown r.0 k = stays_down v.0 r.0 k v.2 r.2 in (
        r.0,
        r.1,
        λ e c less. elim (cases_eq (size (m e.at.0)) k) [
          | inl here ↦ All-contains (λ e. size (m e.at.0) ≡ k → r.0 e.at.0 ≡ u e.at.0) all e r.3 c here
          | inr apart ↦ down e c (omega arith)
        ],
      )

  most : List Known → ℕ
  most [] = 0
  most (e ∷ es) = suc (size (m e.at.0)) + most es

  below_most : (es : List Known) → All (λ e. size (m e.at.0) < most es) es
  unfolding most
  below_most [] = All-nil (λ e. size (m e.at.0) < 0)
  below_most (e ∷ es) = All-cons (λ e2. size (m e2.at.0) < suc (size (m e.at.0)) + most es) e es (omega arith) (All-weaker (λ e2. size (m e2.at.0) < most es) (λ e2. size (m e2.at.0) < suc (size (m e.at.0)) + most es) (λ e2 h. omega arith) es (below_most es))

  -- types that meet all forms are part of some that meet the demands
  pub decided : (w : ℕ → Ground) × MeetsAll w demands × All (λ e. w e.at.0 ≡ u e.at.0) all
  unfolding IsDown
  decided =
      let r : (w : ℕ → Ground) × MeetsAll w demands × IsDown w (most all) = levels (most all) in
      (r.0, r.1, All-weaker (λ e. Contains all e × (size (m e.at.0) < most all)) (λ e. r.0 e.at.0 ≡ u e.at.0) (λ e both. r.2 e both.0 both.1) all (both_all (All-contains_itself all) (below_most all)))
    where
      both_all : All (Contains all) all → All (λ e. size (m e.at.0) < most all) all → All (λ e. Contains all e × (size (m e.at.0) < most all)) all
      both_all a b k d h = (a k d h, b k d h)

-- and types that are part of some that meet the demands meet all forms
pub part_fits : (n : ℕ) (demands : List Demand) (all : List Known) → AreForms n demands all → (u w : ℕ → Ground) → MeetsAll w demands → All (λ e. w e.at.0 ≡ u e.at.0) all → AllFit u all
part_fits n demands all forms u w meets same k d h =
    let e : Known = get_or all k d in
    let fits : FormFits w (w e.at.0) e.form = (forms.each k d h).fits w meets in
    subst (λ g. FormFits u g (get_or all k d).form) (same k d h) (form_same w u (w (get_or all k d).at.0) (get_or all k d).form (λ x among. at x (all_among (λ y. IsKnown all y) (leads_on (get_or all k d).form) x (forms.closed k d h) among)) fits)
  where
    at : (x : ℕ) → IsKnown all x → w x ≡ u x
    at x known = subst (λ i. w i ≡ u i) known.2 (All-contains (λ e. w e.at.0 ≡ u e.at.0) all known.0 same known.1)

-- the same of types whose compounds have two fields or more
pub decided_regular : (n : ℕ) (demands : List Demand) (all : List Known) (u m : ℕ → Ground) → All (DemandIn n) demands → IsLong demands m → AreForms n demands all → All (λ e. IsProper (u e.at.0)) all → AllFit u all → IsPart demands u all
decided_regular n demands all u m made long forms regular fit =
    let r : (w : ℕ → Ground) × MeetsAll w demands × All (λ e. w e.at.0 ≡ u e.at.0) all = decided n demands all forms u fit m long in
    (mended_types r.0, (λ a. mended_is_proper (r.0 a), meets_mended r.0 n demands made r.1), λ k d h. ap mended (r.2 k d h) ∙ mended_proper (u (get_or all k d).at.0) (regular k d h))

pub part_proper : (demands : List Demand) (all : List Known) (u : ℕ → Ground) → IsPart demands u all → All (λ e. IsProper (u e.at.0)) all
part_proper demands all u part k d h = subst (λ g. IsProper g) (part.2 k d h) (part.1.0 (get_or all k d).at.0)

pub decides : (n : ℕ) (demands : List Demand) (all : List Known) (u : ℕ → Ground) → All (DemandIn n) demands → HasSolution demands → AreForms n demands all → All (λ e. IsProper (u e.at.0)) all → AllFit u all → IsPart demands u all
decides n demands [] u made solvable forms regular fit = (solvable.0, (solvable.1, solvable.2), All-nil (λ e. solvable.0 e.at.0 ≡ u e.at.0))
decides n demands (e ∷ all) u made solvable forms regular fit =
    let long : (m : ℕ → Ground) × IsLong demands m = (All-head (λ e. IsForm n demands e.at.0 e.form) e all forms.each).long in
    decided_regular n demands (e ∷ all) u long.0 made long.1 forms regular fit

pub decides_any : (n : ℕ) (demands : List Demand) (all : List Known) (u : ℕ → Ground) → HasSolution demands → AreForms n demands all → AllFit u all → (w : ℕ → Ground) × MeetsAll w demands × All (λ e. w e.at.0 ≡ u e.at.0) all
decides_any n demands [] u solvable forms fit = (solvable.0, solvable.2, All-nil (λ e. solvable.0 e.at.0 ≡ u e.at.0))
decides_any n demands (e ∷ all) u solvable forms fit =
    let long : (m : ℕ → Ground) × IsLong demands m = (All-head (λ e. IsForm n demands e.at.0 e.form) e all forms.each).long in
    decided n demands (e ∷ all) forms u fit long.0 long.1

one_holds : (v : ℕ → Ground) (d : Demand) → Holds v d ↔ MeetsAll v (d ∷ [])
one_holds v d = (λ h. All-one (Holds v) d h, λ m. All-head (Holds v) d [] m)

both_ways : {A B C : Type 0} → A ↔ B → B ↔ C → A ↔ C
both_ways f g = (λ a. g.0 (f.0 a), λ c. f.1 (g.1 c))

turned : {A B : Type 0} → A ↔ B → B ↔ A
turned f = (f.1, f.0)

kind_said : (v : ℕ → Ground) (a : VarId) (kind : VaryKind) → VaryFits v (out-Ground (v a.0)) kind ↔ MeetsAll v (said_kind a kind)
kind_said v a vary.Free = (λ t. All-nil (Holds v), λ m. tt)
kind_said v a (vary.Train e) = both_ways (turned (train_is (v a.0) (v e.0))) (one_holds v (demand.Train a e))
kind_said v a (vary.Collection e) = both_ways (turned (collection_is (v a.0) (v e.0))) (one_holds v (demand.Collection a e))
kind_said v a vary.NumberOrText = both_ways (turned (plain_is (v a.0))) (one_holds v (demand.NumberOrText a))

-- a form is met where what it says is
pub form_said : (v : ℕ → Ground) (a : VarId) (f : Form) → FormFits v (v a.0) f ↔ MeetsAll v (said a f)
form_said v a form.Number = both_ways (turned (number_is term.Number v (v a.0) refl)) (one_holds v (demand.Is a term.Number))
form_said v a form.Text = both_ways (turned (text_is term.Text v (v a.0) refl)) (one_holds v (demand.Is a term.Text))
form_said v a (form.Compound fields) = both_ways (turned (compound_is (term.Compound (map term.Var fields)) v (v a.0) fields refl)) (one_holds v (demand.Is a (term.Compound (map term.Var fields))))
form_said v a (form.List c) = both_ways (turned (list_is (term.List (term.Var c)) v (v a.0) c refl)) (one_holds v (demand.Is a (term.List (term.Var c))))
form_said v a (form.Table k e) = both_ways (turned (table_is (term.Table (term.Var k) (term.Var e)) v (v a.0) k e refl)) (one_holds v (demand.Is a (term.Table (term.Var k) (term.Var e))))
form_said v a (form.Varies root kind) = (
  λ h. All-cons (Holds v) (demand.Equal a root) (said_kind a kind) h.0 ((kind_said v a kind).0 h.1),
  λ m. (All-head (Holds v) (demand.Equal a root) (said_kind a kind) m, (kind_said v a kind).1 (All-tail (Holds v) (demand.Equal a root) (said_kind a kind) m)),
)

pub forms_said : (v : ℕ → Ground) (all : List Known) → AllFit v all ↔ MeetsAll v (all_said all)
forms_said v [] = (λ h. All-nil (Holds v), λ m. All-nil (λ e. FormFits v (v e.at.0) e.form))
forms_said v (e ∷ es) = (
  λ h. All-append (Holds v) (said e.at e.form) (all_said es) ((form_said v e.at e.form).0 (All-head (λ e. FormFits v (v e.at.0) e.form) e es h)) ((forms_said v es).0 (All-tail (λ e. FormFits v (v e.at.0) e.form) e es h)),
  λ m. All-cons (λ e. FormFits v (v e.at.0) e.form) e es ((form_said v e.at e.form).1 (All-front (Holds v) (said e.at e.form) (all_said es) m)) ((forms_said v es).1 (All-behind (Holds v) (said e.at e.form) (all_said es) m)),
)

are_all : (n : ℕ) (xs : List VarId) → AreIn n xs → All (λ (x : VarId). x.0 < n) xs
are_all n xs i k d h = are_in_place n xs k d i h

said_kind_in : (n : ℕ) (a : VarId) (kind : VaryKind) → a.0 < n → AreIn n (vary_names kind) → All (DemandIn n) (said_kind a kind)
said_kind_in n a vary.Free h i = All-nil (DemandIn n)
said_kind_in n a (vary.Train e) h i = All-one (DemandIn n) (demand.Train a e) (h, i.0)
said_kind_in n a (vary.Collection e) h i = All-one (DemandIn n) (demand.Collection a e) (h, i.0)
said_kind_in n a vary.NumberOrText h i = All-one (DemandIn n) (demand.NumberOrText a) h

said_in : (n : ℕ) (a : VarId) (f : Form) (v : ℕ → Ground) → a.0 < n → AreIn n (leads_on f) → IsProper (v a.0) → FormFits v (v a.0) f → All (DemandIn n) (said a f)
said_in n a form.Number v h i r fits = All-one (DemandIn n) (demand.Is a term.Number) (h, number_node n)
said_in n a form.Text v h i r fits = All-one (DemandIn n) (demand.Is a term.Text) (h, text_node n)
said_in n a (form.Compound fields) v h i r fits =
    let same : v a.0 ≡ type.Compound (types v fields) = out_same (v a.0) (type.Compound (types v fields)) (fits ∙ sym (out_compound (types v fields))) in
    let two : 2 ≤ length (types v fields) = proper_two (types v fields) (subst (λ g. IsProper g) same r) in
    All-one (DemandIn n) (demand.Is a (term.Compound (map term.Var fields))) (h, compound_node n fields (omega (arith, two, length_types v fields)) (are_all n fields i))
said_in n a (form.List c) v h i r fits = All-one (DemandIn n) (demand.Is a (term.List (term.Var c))) (h, list_node n c i.0)
said_in n a (form.Table k e) v h i r fits = All-one (DemandIn n) (demand.Is a (term.Table (term.Var k) (term.Var e))) (h, table_node n k e i.0 i.1.0)
said_in n a (form.Varies root kind) v h i r fits = All-cons (DemandIn n) (demand.Equal a root) (said_kind a kind) (h, i.0) (said_kind_in n a kind h i.1)

-- what the forms say is of made variables
pub forms_said_in : (n : ℕ) (demands : List Demand) (all : List Known) → HasSolution demands → All (λ e. IsForm n demands e.at.0 e.form) all → All (DemandIn n) (all_said all)
forms_said_in n demands [] solvable forms = All-nil (DemandIn n)
forms_said_in n demands (e ∷ es) solvable forms =
    let one : IsForm n demands e.at.0 e.form = All-head (λ e. IsForm n demands e.at.0 e.form) e es forms in
    All-append (DemandIn n) (said e.at e.form) (all_said es)
    (said_in n e.at e.form solvable.0 one.made one.inside (solvable.1 e.at.0) (one.fits solvable.0 solvable.2))
    (forms_said_in n demands es solvable (All-tail (λ e. IsForm n demands e.at.0 e.form) e es forms))
