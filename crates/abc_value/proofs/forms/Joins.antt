-- A join is of the types that are of both forms.
use Rattle.std.proofs.Common.{◌≡◌, List, [], ◌∷◌, Option, None, Some, sym, ◌∙◌, subst, inl, inr}
use Rattle.std.specs.Option.{option_map}
use Rattle.abc_num.specs.declared.types.Ground.{Ground}
use Rattle.abc_num.specs.declared.types.Ground.TheVariants as type
use Rattle.abc_value.specs.Types.{IsCollection}
use Rattle.abc_value.specs.Forms.{Form, Forms, anything, a_number, a_text, a_collection, a_compound, a_list, a_table, no_forms, more_forms, fits, each_fits, Fits, both, join, join_each, joined}
use Rattle.abc_value.proofs.forms.Grounds.{list_part, compound_part, key_part, associate_part}

pub number_text : (g : Ground) → g ≡ type.Number → g ≡ type.Text → ⊥
number_text g e f = cc

pub number_list : (g e : Ground) → g ≡ type.Number → g ≡ type.List e → ⊥
number_list g e p q = cc

pub number_table : (g k a : Ground) → g ≡ type.Number → g ≡ type.Table k a → ⊥
number_table g k a p q = cc

number_compound : (g : Ground) (gs : List Ground) → g ≡ type.Number → g ≡ type.Compound gs → ⊥
number_compound g gs p q = cc

pub text_list : (g e : Ground) → g ≡ type.Text → g ≡ type.List e → ⊥
text_list g e p q = cc

pub text_table : (g k a : Ground) → g ≡ type.Text → g ≡ type.Table k a → ⊥
text_table g k a p q = cc

pub compound_text : (g : Ground) (gs : List Ground) → g ≡ type.Text → g ≡ type.Compound gs → ⊥
compound_text g gs p q = cc

pub list_table : (g e k a : Ground) → g ≡ type.List e → g ≡ type.Table k a → ⊥
list_table g e k a p q = cc

pub compound_list : (g e : Ground) (gs : List Ground) → g ≡ type.List e → g ≡ type.Compound gs → ⊥
compound_list g e gs p q = cc

pub compound_table : (g k a : Ground) (gs : List Ground) → g ≡ type.Table k a → g ≡ type.Compound gs → ⊥
compound_table g k a gs p q = cc

number_collection : (g : Ground) → g ≡ type.Number → IsCollection g → ⊥
number_collection g e (inl l) = number_list g l.0 e l.1
number_collection g e (inr t) = number_table g t.0 t.1 e t.2

text_collection : (g : Ground) → g ≡ type.Text → IsCollection g → ⊥
text_collection g e (inl l) = text_list g l.0 e l.1
text_collection g e (inr t) = text_table g t.0 t.1 e t.2

compound_collection : (g : Ground) (gs : List Ground) → g ≡ type.Compound gs → IsCollection g → ⊥
compound_collection g gs e (inl l) = compound_list g l.0 gs l.1 e
compound_collection g gs e (inr t) = compound_table g t.0 t.1 gs t.2 e

-- what the types of `option_map a_list o` are
pub list_of : (o : Option Form) (g e : Ground) → g ≡ type.List e → Fits o e → Fits (option_map a_list o) g
list_of None g e p f = absurd f
list_of (Some s) g e p f = (e, p, f)

pub of_list : (o : Option Form) (g : Ground) → Fits (option_map a_list o) g → (e : Ground) × (g ≡ type.List e) × Fits o e
of_list None g f = absurd f
of_list (Some s) g f = f

pub table_of_both : (o p : Option Form) (g k a : Ground) → g ≡ type.Table k a → Fits o k → Fits p a → Fits (both a_table o p) g
table_of_both None p g k a e f h = absurd f
table_of_both (Some s) None g k a e f h = absurd h
table_of_both (Some s) (Some t) g k a e f h = (k, a, e, f, h)

pub of_table : (o p : Option Form) (g : Ground) → Fits (both a_table o p) g → (k : Ground) × (a : Ground) × (g ≡ type.Table k a) × Fits o k × Fits p a
of_table None p g f = absurd f
of_table (Some s) None g f = absurd f
of_table (Some s) (Some t) g f = f

-- types of a row of forms, if there is one
abbrev pub EachFits : Option Forms → List Ground → Type 0
EachFits None gs = ⊥
EachFits (Some ss) gs = each_fits ss gs

pub compound_of : (o : Option Forms) (g : Ground) (gs : List Ground) → g ≡ type.Compound gs → EachFits o gs → Fits (option_map a_compound o) g
compound_of None g gs e f = absurd f
compound_of (Some ss) g gs e f = (gs, e, f)

pub of_compound : (o : Option Forms) (g : Ground) → Fits (option_map a_compound o) g → (gs : List Ground) × (g ≡ type.Compound gs) × EachFits o gs
of_compound None g f = absurd f
of_compound (Some ss) g f = f

pub more_of_both : (o : Option Form) (p : Option Forms) (g : Ground) (gs : List Ground) → Fits o g → EachFits p gs → EachFits (both more_forms o p) (g ∷ gs)
more_of_both None p g gs f h = absurd f
more_of_both (Some s) None g gs f h = absurd h
more_of_both (Some s) (Some ss) g gs f h = (f, h)

pub of_more : (o : Option Form) (p : Option Forms) (g : Ground) (gs : List Ground) → EachFits (both more_forms o p) (g ∷ gs) → Fits o g × EachFits p gs
of_more None p g gs f = absurd f
of_more (Some s) None g gs f = absurd f
of_more (Some s) (Some ss) g gs f = f

pub none_of_none : (o : Option Form) (p : Option Forms) → EachFits (both more_forms o p) [] → ⊥
none_of_none None p f = f
none_of_none (Some s) None f = f
none_of_none (Some s) (Some ss) f = f

at_list : (s : Form) (g e e' : Ground) → g ≡ type.List e → g ≡ type.List e' → fits s e' → fits s e
at_list s g e e' p q f = let same = list_part e' e (sym q ∙ p) in let P : Ground → Type 0 = λ x. fits s x in subst P same f

mutual
  pub join_fits : (s t : Form) (g : Ground) → fits s g → fits t g → Fits (join s t) g
  join_fits anything t g f h = h
  join_fits a_number anything g f h = f
  join_fits a_number a_number g f h = f
  join_fits a_number a_text g f h = absurd (number_text g f h)
  join_fits a_number a_collection g f h = absurd (number_collection g f h)
  join_fits a_number (a_compound ts) g f h = absurd (number_compound g h.0 f h.1)
  join_fits a_number (a_list t) g f h = absurd (number_list g h.0 f h.1)
  join_fits a_number (a_table k a) g f h = absurd (number_table g h.0 h.1 f h.2)
  join_fits a_text anything g f h = f
  join_fits a_text a_text g f h = f
  join_fits a_text a_number g f h = absurd (number_text g h f)
  join_fits a_text a_collection g f h = absurd (text_collection g f h)
  join_fits a_text (a_compound ts) g f h = absurd (compound_text g h.0 f h.1)
  join_fits a_text (a_list t) g f h = absurd (text_list g h.0 f h.1)
  join_fits a_text (a_table k a) g f h = absurd (text_table g h.0 h.1 f h.2)
  join_fits a_collection anything g f h = f
  join_fits a_collection a_collection g f h = f
  join_fits a_collection (a_list t) g f h = h
  join_fits a_collection (a_table t u) g f h = h
  join_fits a_collection a_number g f h = absurd (number_collection g h f)
  join_fits a_collection a_text g f h = absurd (text_collection g h f)
  join_fits a_collection (a_compound ts) g f h = absurd (compound_collection g h.0 h.1 f)
  join_fits (a_compound ss) anything g f h = f
  join_fits (a_compound ss) a_number g f h = absurd (number_compound g f.0 h f.1)
  join_fits (a_compound ss) a_text g f h = absurd (compound_text g f.0 h f.1)
  join_fits (a_compound ss) a_collection g f h = absurd (compound_collection g f.0 f.1 h)
  join_fits (a_compound ss) (a_list t) g f h = absurd (compound_list g h.0 f.0 h.1 f.1)
  join_fits (a_compound ss) (a_table k a) g f h = absurd (compound_table g h.0 h.1 f.0 h.2 f.1)
  join_fits (a_compound ss) (a_compound ts) g f h =
      let P : List Ground → Type 0 = λ gs. each_fits ts gs in
      compound_of (join_each ss ts) g f.0 f.1 (join_each_fits ss ts f.0 f.2 (subst P (compound_part h.0 f.0 (sym h.1 ∙ f.1)) h.2))
  join_fits (a_list s) anything g f h = f
  join_fits (a_list s) a_collection g f h = f
  join_fits (a_list s) a_number g f h = absurd (number_list g f.0 h f.1)
  join_fits (a_list s) a_text g f h = absurd (text_list g f.0 h f.1)
  join_fits (a_list s) (a_compound ts) g f h = absurd (compound_list g f.0 h.0 f.1 h.1)
  join_fits (a_list s) (a_table k a) g f h = absurd (list_table g f.0 h.0 h.1 f.1 h.2)
  join_fits (a_list s) (a_list t) g f h = list_of (join s t) g f.0 f.1 (join_fits s t f.0 f.2 (at_list t g f.0 h.0 f.1 h.1 h.2))
  join_fits (a_table k a) anything g f h = f
  join_fits (a_table k a) a_collection g f h = f
  join_fits (a_table k a) a_number g f h = absurd (number_table g f.0 f.1 h f.2)
  join_fits (a_table k a) a_text g f h = absurd (text_table g f.0 f.1 h f.2)
  join_fits (a_table k a) (a_compound ts) g f h = absurd (compound_table g f.0 f.1 h.0 f.2 h.1)
  join_fits (a_table k a) (a_list t) g f h = absurd (list_table g h.0 f.0 f.1 h.1 f.2)
  join_fits (a_table k a) (a_table l b) g f h =
      let P : Ground → Type 0 = λ x. fits l x in
      let Q : Ground → Type 0 = λ x. fits b x in
      table_of_both (join k l) (join a b) g f.0 f.1 f.2 (join_fits k l f.0 f.3 (subst P (key_part h.0 h.1 f.0 f.1 (sym h.2 ∙ f.2)) h.3))
      (join_fits a b f.1 f.4 (subst Q (associate_part h.0 h.1 f.0 f.1 (sym h.2 ∙ f.2)) h.4))

  pub join_each_fits : (ss ts : Forms) (gs : List Ground) → each_fits ss gs → each_fits ts gs → EachFits (join_each ss ts) gs
  join_each_fits no_forms no_forms gs f h = f
  join_each_fits no_forms (more_forms t ts) [] f h = absurd h
  join_each_fits no_forms (more_forms t ts) (g ∷ gs) f h = absurd f
  join_each_fits (more_forms s ss) no_forms [] f h = absurd f
  join_each_fits (more_forms s ss) no_forms (g ∷ gs) f h = absurd h
  join_each_fits (more_forms s ss) (more_forms t ts) [] f h = absurd f
  join_each_fits (more_forms s ss) (more_forms t ts) (g ∷ gs) f h =
      more_of_both (join s t) (join_each ss ts) g gs (join_fits s t g f.0 h.0) (join_each_fits ss ts gs f.1 h.1)

mutual
  pub fits_join : (s t : Form) (g : Ground) → Fits (join s t) g → fits s g × fits t g
  fits_join anything t g f = (tt, f)
  fits_join a_number anything g f = (f, tt)
  fits_join a_number a_number g f = (f, f)
  fits_join a_number a_text g f = absurd f
  fits_join a_number a_collection g f = absurd f
  fits_join a_number (a_compound ts) g f = absurd f
  fits_join a_number (a_list t) g f = absurd f
  fits_join a_number (a_table k a) g f = absurd f
  fits_join a_text anything g f = (f, tt)
  fits_join a_text a_text g f = (f, f)
  fits_join a_text a_number g f = absurd f
  fits_join a_text a_collection g f = absurd f
  fits_join a_text (a_compound ts) g f = absurd f
  fits_join a_text (a_list t) g f = absurd f
  fits_join a_text (a_table k a) g f = absurd f
  fits_join a_collection anything g f = (f, tt)
  fits_join a_collection a_collection g f = (f, f)
  fits_join a_collection (a_list t) g f = (inl (f.0, f.1), f)
  fits_join a_collection (a_table t u) g f = (inr (f.0, f.1, f.2), f)
  fits_join a_collection a_number g f = absurd f
  fits_join a_collection a_text g f = absurd f
  fits_join a_collection (a_compound ts) g f = absurd f
  fits_join (a_compound ss) anything g f = (f, tt)
  fits_join (a_compound ss) a_number g f = absurd f
  fits_join (a_compound ss) a_text g f = absurd f
  fits_join (a_compound ss) a_collection g f = absurd f
  fits_join (a_compound ss) (a_list t) g f = absurd f
  fits_join (a_compound ss) (a_table k a) g f = absurd f
  fits_join (a_compound ss) (a_compound ts) g f =
      let c = of_compound (join_each ss ts) g f in
      let e = each_fits_join ss ts c.0 c.2 in
      ((c.0, c.1, e.0), (c.0, c.1, e.1))
  fits_join (a_list s) anything g f = (f, tt)
  fits_join (a_list s) a_collection g f = (f, inl (f.0, f.1))
  fits_join (a_list s) a_number g f = absurd f
  fits_join (a_list s) a_text g f = absurd f
  fits_join (a_list s) (a_compound ts) g f = absurd f
  fits_join (a_list s) (a_table k a) g f = absurd f
  fits_join (a_list s) (a_list t) g f =
      let c = of_list (join s t) g f in
      let e = fits_join s t c.0 c.2 in
      ((c.0, c.1, e.0), (c.0, c.1, e.1))
  fits_join (a_table k a) anything g f = (f, tt)
  fits_join (a_table k a) a_collection g f = (f, inr (f.0, f.1, f.2))
  fits_join (a_table k a) a_number g f = absurd f
  fits_join (a_table k a) a_text g f = absurd f
  fits_join (a_table k a) (a_compound ts) g f = absurd f
  fits_join (a_table k a) (a_list t) g f = absurd f
  fits_join (a_table k a) (a_table l b) g f =
      let c = of_table (join k l) (join a b) g f in
      let d = fits_join k l c.0 c.3 in
      let e = fits_join a b c.1 c.4 in
      ((c.0, c.1, c.2, d.0, e.0), (c.0, c.1, c.2, d.1, e.1))

  pub each_fits_join : (ss ts : Forms) (gs : List Ground) → EachFits (join_each ss ts) gs → each_fits ss gs × each_fits ts gs
  each_fits_join no_forms no_forms gs f = (f, f)
  each_fits_join no_forms (more_forms t ts) gs f = absurd f
  each_fits_join (more_forms s ss) no_forms gs f = absurd f
  each_fits_join (more_forms s ss) (more_forms t ts) [] f = absurd (none_of_none (join s t) (join_each ss ts) f)
  each_fits_join (more_forms s ss) (more_forms t ts) (g ∷ gs) f =
      let p = of_more (join s t) (join_each ss ts) g gs f in
      let d = fits_join s t g p.0 in
      let e = each_fits_join ss ts gs p.1 in
      ((d.0, e.0), (d.1, e.1))

pub joined_fits : (o p : Option Form) (g : Ground) → Fits o g → Fits p g → Fits (joined o p) g
joined_fits None p g f h = absurd f
joined_fits (Some s) None g f h = absurd h
joined_fits (Some s) (Some t) g f h = join_fits s t g f h

pub fits_joined : (o p : Option Form) (g : Ground) → Fits (joined o p) g → Fits o g × Fits p g
fits_joined None p g f = absurd f
fits_joined (Some s) None g f = absurd f
fits_joined (Some s) (Some t) g f = fits_join s t g f
