-- A value has the types of its form, and no others.
use Rattle.std.proofs.Common.{◌≡◌, List, [], ◌∷◌, Option, None, Some, refl, sym, ◌∙◌, subst, inl, inr}
use Rattle.std.specs.Prelude.{IsSome, ◌↔◌}
use Rattle.abc_num.specs.declared.types.Ground.{Ground}
use Rattle.abc_num.specs.declared.types.Ground.TheVariants as type
use Rattle.abc_num.specs.Types.{IsTrainOf}
use Rattle.abc_value.specs.Tree.{Tree, Trees, Pairs, number, text, compound, list, table, no_trees, more, no_pairs, pair, trees}
use Rattle.abc_value.specs.Types.{has, each_has, all_have, pairs_have}
use Rattle.abc_value.specs.Forms.{Form, Forms, anything, a_number, a_text, a_collection, a_compound, a_list, a_table, no_forms, more_forms, fits, each_fits, Fits, joined, form_of, forms_of, common, common_key, common_associate, elements_form}
use Rattle.abc_value.proofs.forms.Grounds.{list_part, associate_part}
use Rattle.abc_value.proofs.forms.Joins.{joined_fits, fits_joined, list_of, of_list, table_of_both, of_table, compound_of, of_compound, more_of_both, of_more, none_of_none, text_list, text_table, number_text, number_list, number_table, compound_text, compound_list, compound_table, list_table, EachFits}

mutual
  pub has_form : (v : Tree) (g : Ground) → has v g → Fits (form_of v) g
  has_form (number n) g h = h
  has_form (text b) g h = h
  has_form (compound ts) g h = compound_of (forms_of ts) g h.0 h.1 (have_forms ts h.0 h.2)
  has_form (list no_trees) g h = h
  has_form (list (more t ts)) g h = list_of (common (form_of t) ts) g h.0 h.1 (have_common ts (form_of t) h.0 (has_form t h.0 h.2) h.3)
  has_form (table ps) g h =
      table_of_both (common_key (Some anything) ps) (common_associate (Some anything) ps) g h.0 h.1 h.2 (have_key ps (Some anything) h.0 h.1 tt h.3) (have_associate ps (Some anything) h.0 h.1 tt h.3)

  have_forms : (ts : Trees) (gs : List Ground) → each_has ts gs → EachFits (forms_of ts) gs
  have_forms no_trees [] h = tt
  have_forms no_trees (g ∷ gs) h = absurd h
  have_forms (more t ts) [] h = absurd h
  have_forms (more t ts) (g ∷ gs) h = more_of_both (form_of t) (forms_of ts) g gs (has_form t g h.0) (have_forms ts gs h.1)

  have_common : (ts : Trees) (o : Option Form) (g : Ground) → Fits o g → all_have ts g → Fits (common o ts) g
  have_common no_trees o g f h = f
  have_common (more t ts) o g f h = have_common ts (joined o (form_of t)) g (joined_fits o (form_of t) g f (has_form t g h.0)) h.1

  have_key : (ps : Pairs) (o : Option Form) (k a : Ground) → Fits o k → pairs_have ps k a → Fits (common_key o ps) k
  have_key no_pairs o k a f h = f
  have_key (pair l b ps) o k a f h = have_key ps (joined o (form_of l)) k a (joined_fits o (form_of l) k f (has_form l k h.0)) h.2

  have_associate : (ps : Pairs) (o : Option Form) (k a : Ground) → Fits o a → pairs_have ps k a → Fits (common_associate o ps) a
  have_associate no_pairs o k a f h = f
  have_associate (pair l b ps) o k a f h = have_associate ps (joined o (form_of b)) k a (joined_fits o (form_of b) a f (has_form b a h.1)) h.2

-- the keys and the associates of pairs each have a type
keys_have : Pairs → Ground → Type 0
keys_have no_pairs k = Unit {0}
keys_have (pair l b ps) k = has l k × keys_have ps k

associates_have : Pairs → Ground → Type 0
associates_have no_pairs a = Unit {0}
associates_have (pair l b ps) a = has b a × associates_have ps a

zip_pairs : (ps : Pairs) (k a : Ground) → keys_have ps k → associates_have ps a → pairs_have ps k a
unfolding keys_have associates_have
zip_pairs no_pairs k a h i = tt
zip_pairs (pair l b ps) k a h i = (h.0, i.0, zip_pairs ps k a h.1 i.1)

mutual
  unfolding keys_have associates_have

  pub form_has : (v : Tree) (g : Ground) → Fits (form_of v) g → has v g
  form_has (number n) g f = f
  form_has (text b) g f = f
  form_has (compound ts) g f = let c = of_compound (forms_of ts) g f in (c.0, c.1, forms_have ts c.0 c.2)
  form_has (list no_trees) g f = f
  form_has (list (more t ts)) g f =
      let c = of_list (common (form_of t) ts) g f in
      let d = common_have ts (form_of t) c.0 c.2 in
      (c.0, c.1, form_has t c.0 d.0, d.1)
  form_has (table ps) g f =
      let c = of_table (common_key (Some anything) ps) (common_associate (Some anything) ps) g f in
      (c.0, c.1, c.2, zip_pairs ps c.0 c.1 (key_has ps (Some anything) c.0 c.3).1 (associate_has ps (Some anything) c.1 c.4).1)

  forms_have : (ts : Trees) (gs : List Ground) → EachFits (forms_of ts) gs → each_has ts gs
  forms_have no_trees [] f = tt
  forms_have no_trees (g ∷ gs) f = absurd f
  forms_have (more t ts) [] f = absurd (none_of_none (form_of t) (forms_of ts) f)
  forms_have (more t ts) (g ∷ gs) f = let p = of_more (form_of t) (forms_of ts) g gs f in (form_has t g p.0, forms_have ts gs p.1)

  common_have : (ts : Trees) (o : Option Form) (g : Ground) → Fits (common o ts) g → Fits o g × all_have ts g
  common_have no_trees o g f = (f, tt)
  common_have (more t ts) o g f =
      let c = common_have ts (joined o (form_of t)) g f in
      let j = fits_joined o (form_of t) g c.0 in
      (j.0, (form_has t g j.1, c.1))

  key_has : (ps : Pairs) (o : Option Form) (k : Ground) → Fits (common_key o ps) k → Fits o k × keys_have ps k
  key_has no_pairs o k f = (f, tt)
  key_has (pair l b ps) o k f =
      let c = key_has ps (joined o (form_of l)) k f in
      let j = fits_joined o (form_of l) k c.0 in
      (j.0, (form_has l k j.1, c.1))

  associate_has : (ps : Pairs) (o : Option Form) (a : Ground) → Fits (common_associate o ps) a → Fits o a × associates_have ps a
  associate_has no_pairs o a f = (f, tt)
  associate_has (pair l b ps) o a f =
      let c = associate_has ps (joined o (form_of b)) a f in
      let j = fits_joined o (form_of b) a c.0 in
      (j.0, (form_has b a j.1, c.1))

mutual
  pub a_type : (s : Form) → (g : Ground) × fits s g
  a_type anything = (type.Number, tt)
  a_type a_number = (type.Number, refl)
  a_type a_text = (type.Text, refl)
  a_type a_collection = (type.List type.Number, inl (type.Number, refl))
  a_type (a_compound ss) = let t = some_types ss in (type.Compound t.0, (t.0, refl, t.1))
  a_type (a_list s) = let t = a_type s in (type.List t.0, (t.0, refl, t.1))
  a_type (a_table k a) = let t = a_type k in let u = a_type a in (type.Table t.0 u.0, (t.0, u.0, refl, t.1, u.1))

  some_types : (ss : Forms) → (gs : List Ground) × each_fits ss gs
  some_types no_forms = ([], tt)
  some_types (more_forms s ss) = let t = a_type s in let u = some_types ss in (t.0 ∷ u.0, (t.1, u.1))

is_there : (o : Option Form) (g : Ground) → Fits o g → IsSome o
is_there None g f = absurd f
is_there (Some s) g f = refl

type_there : (o : Option Form) → IsSome o → (g : Ground) × Fits o g
type_there None e = absurd (cc)
type_there (Some s) e = a_type s

pub common_exact : (vs : List Tree) → ((g : Ground) × all_have (trees vs) g) ↔ IsSome (common (Some anything) (trees vs))
common_exact vs = (
  λ h. is_there (common (Some anything) (trees vs)) h.0 (have_common (trees vs) (Some anything) h.0 tt h.1),
  λ e. let t = type_there (common (Some anything) (trees vs)) e in (t.0, (common_have (trees vs) (Some anything) t.0 t.1).1),
)

-- ---- trains
not_train : (s : Form) (e : Ground) → ((t : Ground) → fits s t → IsTrainOf t e → ⊥) → ((t : Ground) × fits s t × IsTrainOf t e) ↔ ⊥
not_train s e h = (λ x. h x.0 x.1 x.2, λ x. absurd x)

pub of_number : (t e : Ground) → t ≡ type.Number → IsTrainOf t e → ⊥
of_number t e p (inl x) = number_text t p x.0
of_number t e p (inr (inl x)) = number_list t e p x
of_number t e p (inr (inr x)) = number_table t x.0 e p x.1

pub of_fields : (t e : Ground) (gs : List Ground) → t ≡ type.Compound gs → IsTrainOf t e → ⊥
of_fields t e gs p (inl x) = compound_text t gs x.0 p
of_fields t e gs p (inr (inl x)) = compound_list t e gs x p
of_fields t e gs p (inr (inr x)) = compound_table t x.0 e gs x.1 p

-- the element of a text is a text
pub of_text : (t e : Ground) → t ≡ type.Text → IsTrainOf t e → e ≡ type.Text
of_text t e p (inl x) = x.1
of_text t e p (inr (inl x)) = absurd (text_list t e p x)
of_text t e p (inr (inr x)) = absurd (text_table t x.0 e p x.1)

of_lists : (s : Form) (t e g : Ground) → t ≡ type.List g → fits s g → IsTrainOf t e → fits s e
of_lists s t e g p f (inl x) = absurd (text_list t g x.0 p)
of_lists s t e g p f (inr (inl x)) = let P : Ground → Type 0 = λ y. fits s y in subst P (list_part g e (sym p ∙ x)) f
of_lists s t e g p f (inr (inr x)) = absurd (list_table t g x.0 e p x.1)

of_tables : (s : Form) (t e k a : Ground) → t ≡ type.Table k a → fits s a → IsTrainOf t e → fits s e
of_tables s t e k a p f (inl x) = absurd (text_table t k a x.0 p)
of_tables s t e k a p f (inr (inl x)) = absurd (list_table t e k a x p)
of_tables s t e k a p f (inr (inr x)) = let P : Ground → Type 0 = λ y. fits s y in subst P (associate_part k a x.0 e (sym p ∙ x.1)) f

pub elements_exact : (s : Form) (e : Ground) → ((t : Ground) × fits s t × IsTrainOf t e) ↔ Fits (elements_form s) e
elements_exact anything e = (λ x. tt, λ f. (type.List e, tt, inr (inl refl)))
elements_exact a_number e = not_train a_number e (λ t p x. of_number t e p x)
elements_exact a_text e = (λ x. of_text x.0 e x.1 x.2, λ f. (type.Text, refl, inl (refl, f)))
elements_exact a_collection e = (λ x. tt, λ f. (type.List e, inl (e, refl), inr (inl refl)))
elements_exact (a_compound ss) e = not_train (a_compound ss) e (λ t f x. of_fields t e f.0 f.1 x)
elements_exact (a_list s) e = (λ x. of_lists s x.0 e x.1.0 x.1.1 x.1.2 x.2, λ f. (type.List e, (e, refl, f), inr (inl refl)))
elements_exact (a_table k a) e =
    let key = a_type k in
    (λ x. of_tables a x.0 e x.1.0 x.1.1 x.1.2 x.1.4 x.2, λ f. (type.Table key.0 e, (key.0, e, refl, key.1, f), inr (inr (key.0, refl))))
