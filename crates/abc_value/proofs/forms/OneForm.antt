-- Forms of the same types are one form.
use Rattle.std.proofs.Common.{◌≡◌, List, [], ◌∷◌, Option, None, Some, refl, sym, ap, subst, inl, inr}
use Rattle.abc_num.specs.declared.types.Ground.{Ground}
use Rattle.abc_num.specs.declared.types.Ground.TheVariants as type
use Rattle.abc_value.specs.Forms.{Form, Forms, anything, a_number, a_text, a_collection, a_compound, a_list, a_table, no_forms, more_forms, fits, each_fits, Fits}
use Rattle.abc_value.proofs.forms.Grounds.{list_part, compound_part, key_part, associate_part}
use Rattle.abc_value.proofs.forms.Joins.{join_fits}
use Rattle.abc_value.proofs.forms.Shaping.{a_type}

list_in : (t : Form) (g : Ground) → fits (a_list t) (type.List g) → fits t g
list_in t g f = let P : Ground → Type 0 = λ x. fits t x in subst P (sym (list_part g f.0 f.1)) f.2

compound_in : (ts : Forms) (gs : List Ground) → fits (a_compound ts) (type.Compound gs) → each_fits ts gs
compound_in ts gs f = let P : List Ground → Type 0 = λ xs. each_fits ts xs in subst P (sym (compound_part gs f.0 f.1)) f.2

table_in : (l b : Form) (g h : Ground) → fits (a_table l b) (type.Table g h) → fits l g × fits b h
table_in l b g h f =
    let P : Ground → Type 0 = λ x. fits l x in
    let Q : Ground → Type 0 = λ x. fits b x in
    (subst P (sym (key_part g h f.0 f.1 f.2)) f.3, subst Q (sym (associate_part g h f.0 f.1 f.2)) f.4)

abbrev a_list_type : Ground
a_list_type = type.List type.Number

abbrev a_table_type : Ground
a_table_type = type.Table type.Number type.Number

mutual
  form_unique : (s t : Form) → ((g : Ground) → fits s g → fits t g) → ((g : Ground) → fits t g → fits s g) → s ≡ t
  form_unique anything anything h k = refl
  form_unique anything a_number h k = absurd (join_fits a_number a_text type.Text (h type.Text tt) refl)
  form_unique anything a_text h k = absurd (join_fits a_text a_number type.Number (h type.Number tt) refl)
  form_unique anything a_collection h k = absurd (join_fits a_collection a_number type.Number (h type.Number tt) refl)
  form_unique anything (a_compound ts) h k = absurd (join_fits (a_compound ts) a_number type.Number (h type.Number tt) refl)
  form_unique anything (a_list t) h k = absurd (join_fits (a_list t) a_number type.Number (h type.Number tt) refl)
  form_unique anything (a_table l b) h k = absurd (join_fits (a_table l b) a_number type.Number (h type.Number tt) refl)
  form_unique a_number anything h k = absurd (join_fits a_number a_text type.Text (k type.Text tt) refl)
  form_unique a_number a_number h k = refl
  form_unique a_number a_text h k = let w = a_type a_number in absurd (join_fits a_number a_text w.0 w.1 (h w.0 w.1))
  form_unique a_number a_collection h k = let w = a_type a_number in absurd (join_fits a_number a_collection w.0 w.1 (h w.0 w.1))
  form_unique a_number (a_compound ts) h k = let w = a_type a_number in absurd (join_fits a_number (a_compound ts) w.0 w.1 (h w.0 w.1))
  form_unique a_number (a_list t) h k = let w = a_type a_number in absurd (join_fits a_number (a_list t) w.0 w.1 (h w.0 w.1))
  form_unique a_number (a_table l b) h k = let w = a_type a_number in absurd (join_fits a_number (a_table l b) w.0 w.1 (h w.0 w.1))
  form_unique a_text anything h k = absurd (join_fits a_text a_number type.Number (k type.Number tt) refl)
  form_unique a_text a_number h k = let w = a_type a_text in absurd (join_fits a_text a_number w.0 w.1 (h w.0 w.1))
  form_unique a_text a_text h k = refl
  form_unique a_text a_collection h k = let w = a_type a_text in absurd (join_fits a_text a_collection w.0 w.1 (h w.0 w.1))
  form_unique a_text (a_compound ts) h k = let w = a_type a_text in absurd (join_fits a_text (a_compound ts) w.0 w.1 (h w.0 w.1))
  form_unique a_text (a_list t) h k = let w = a_type a_text in absurd (join_fits a_text (a_list t) w.0 w.1 (h w.0 w.1))
  form_unique a_text (a_table l b) h k = let w = a_type a_text in absurd (join_fits a_text (a_table l b) w.0 w.1 (h w.0 w.1))
  form_unique a_collection anything h k = absurd (join_fits a_collection a_number type.Number (k type.Number tt) refl)
  form_unique a_collection a_number h k = let w = a_type a_collection in absurd (join_fits a_collection a_number w.0 w.1 (h w.0 w.1))
  form_unique a_collection a_text h k = let w = a_type a_collection in absurd (join_fits a_collection a_text w.0 w.1 (h w.0 w.1))
  form_unique a_collection a_collection h k = refl
  form_unique a_collection (a_compound ts) h k = let w = a_type a_collection in absurd (join_fits a_collection (a_compound ts) w.0 w.1 (h w.0 w.1))
  form_unique a_collection (a_list t) h k = absurd (join_fits (a_list t) (a_table anything anything) a_table_type (h a_table_type (inr (type.Number, type.Number, refl))) (type.Number, type.Number, refl, tt, tt))
  form_unique a_collection (a_table l b) h k = absurd (join_fits (a_table l b) (a_list anything) a_list_type (h a_list_type (inl (type.Number, refl))) (type.Number, refl, tt))
  form_unique (a_compound ss) anything h k = absurd (join_fits (a_compound ss) a_number type.Number (k type.Number tt) refl)
  form_unique (a_compound ss) a_number h k = let w = a_type (a_compound ss) in absurd (join_fits (a_compound ss) a_number w.0 w.1 (h w.0 w.1))
  form_unique (a_compound ss) a_text h k = let w = a_type (a_compound ss) in absurd (join_fits (a_compound ss) a_text w.0 w.1 (h w.0 w.1))
  form_unique (a_compound ss) a_collection h k = let w = a_type (a_compound ss) in absurd (join_fits (a_compound ss) a_collection w.0 w.1 (h w.0 w.1))
  form_unique (a_compound ss) (a_compound ts) h k = ap a_compound (forms_unique ss ts (λ gs f. compound_in ts gs (h (type.Compound gs) (gs, refl, f))) (λ gs f. compound_in ss gs (k (type.Compound gs) (gs, refl, f))))
  form_unique (a_compound ss) (a_list t) h k = let w = a_type (a_compound ss) in absurd (join_fits (a_compound ss) (a_list t) w.0 w.1 (h w.0 w.1))
  form_unique (a_compound ss) (a_table l b) h k = let w = a_type (a_compound ss) in absurd (join_fits (a_compound ss) (a_table l b) w.0 w.1 (h w.0 w.1))
  form_unique (a_list s) anything h k = absurd (join_fits (a_list s) a_number type.Number (k type.Number tt) refl)
  form_unique (a_list s) a_number h k = let w = a_type (a_list s) in absurd (join_fits (a_list s) a_number w.0 w.1 (h w.0 w.1))
  form_unique (a_list s) a_text h k = let w = a_type (a_list s) in absurd (join_fits (a_list s) a_text w.0 w.1 (h w.0 w.1))
  form_unique (a_list s) a_collection h k = absurd (join_fits (a_list s) (a_table anything anything) a_table_type (k a_table_type (inr (type.Number, type.Number, refl))) (type.Number, type.Number, refl, tt, tt))
  form_unique (a_list s) (a_compound ts) h k = let w = a_type (a_list s) in absurd (join_fits (a_list s) (a_compound ts) w.0 w.1 (h w.0 w.1))
  form_unique (a_list s) (a_list t) h k = ap a_list (form_unique s t (λ g f. list_in t g (h (type.List g) (g, refl, f))) (λ g f. list_in s g (k (type.List g) (g, refl, f))))
  form_unique (a_list s) (a_table l b) h k = let w = a_type (a_list s) in absurd (join_fits (a_list s) (a_table l b) w.0 w.1 (h w.0 w.1))
  form_unique (a_table c a) anything h k = absurd (join_fits (a_table c a) a_number type.Number (k type.Number tt) refl)
  form_unique (a_table c a) a_number h k = let w = a_type (a_table c a) in absurd (join_fits (a_table c a) a_number w.0 w.1 (h w.0 w.1))
  form_unique (a_table c a) a_text h k = let w = a_type (a_table c a) in absurd (join_fits (a_table c a) a_text w.0 w.1 (h w.0 w.1))
  form_unique (a_table c a) a_collection h k = absurd (join_fits (a_table c a) (a_list anything) a_list_type (k a_list_type (inl (type.Number, refl))) (type.Number, refl, tt))
  form_unique (a_table c a) (a_compound ts) h k = let w = a_type (a_table c a) in absurd (join_fits (a_table c a) (a_compound ts) w.0 w.1 (h w.0 w.1))
  form_unique (a_table c a) (a_list t) h k = let w = a_type (a_table c a) in absurd (join_fits (a_table c a) (a_list t) w.0 w.1 (h w.0 w.1))
  form_unique (a_table c a) (a_table l b) h k =
      let x = a_type c in
      let y = a_type a in
      let z = a_type l in
      let w = a_type b in
      let keys = form_unique c l (λ g f. (table_in l b g y.0 (h (type.Table g y.0) (g, y.0, refl, f, y.1))).0) (λ g f. (table_in c a g w.0 (k (type.Table g w.0) (g, w.0, refl, f, w.1))).0) in
      let associates = form_unique a b (λ g f. (table_in l b x.0 g (h (type.Table x.0 g) (x.0, g, refl, x.1, f))).1) (λ g f. (table_in c a z.0 g (k (type.Table z.0 g) (z.0, g, refl, z.1, f))).1) in
      λ i. a_table (keys i) (associates i)

  forms_unique : (ss ts : Forms) → ((gs : List Ground) → each_fits ss gs → each_fits ts gs) → ((gs : List Ground) → each_fits ts gs → each_fits ss gs) → ss ≡ ts
  forms_unique no_forms no_forms h k = refl
  forms_unique no_forms (more_forms t ts) h k = absurd (h [] tt)
  forms_unique (more_forms s ss) no_forms h k = absurd (k [] tt)
  forms_unique (more_forms s ss) (more_forms t ts) h k =
      let x = a_type s in
      let y = a_type t in
      let xs = a_type (a_compound ss) in
      let ys = a_type (a_compound ts) in
      let first = form_unique s t (λ g f. (h (g ∷ xs.1.0) (f, xs.1.2)).0) (λ g f. (k (g ∷ ys.1.0) (f, ys.1.2)).0) in
      let others = forms_unique ss ts (λ gs f. (h (x.0 ∷ gs) (x.1, f)).1) (λ gs f. (k (y.0 ∷ gs) (y.1, f)).1) in
      λ i. more_forms (first i) (others i)

-- the same where there may be none
pub one_form : (o p : Option Form) → ((g : Ground) → Fits o g → Fits p g) → ((g : Ground) → Fits p g → Fits o g) → o ≡ p
one_form None None h k = refl
one_form None (Some t) h k = let x = a_type t in absurd (k x.0 x.1)
one_form (Some s) None h k = let x = a_type s in absurd (h x.0 x.1)
one_form (Some s) (Some t) h k = ap Some (form_unique s t h k)
