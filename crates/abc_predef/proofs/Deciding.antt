-- Forms decide what a row takes.
use Rattle.std.proofs.Common.{◌≡◌, List, [], ◌∷◌, Option, None, Some, refl, sym, ap, ◌∙◌, subst, inl, inr}
use Rattle.std.specs.Prelude.{◌↔◌, Bool, IsTrue, IfOk, Result, Ok, Err, is_some, false}
use Rattle.std.specs.Option.{option_map}
use Rattle.abc_num.specs.declared.types.Ground.{Ground}
use Rattle.abc_num.specs.declared.types.Ground.TheVariants as type
use Rattle.abc_num.specs.Types.{IsTrainOf}
use Rattle.abc_value.specs.Tree.{Tree}
use Rattle.abc_value.specs.Types.{has, IsCollection}
use Rattle.abc_value.specs.Forms.{Form, anything, a_number, a_text, a_collection, a_compound, a_list, a_table, both, fits, Fits, joined, form_of, elements_form}
use Rattle.abc_value.proofs.forms.Grounds.{list_part, key_part}
use Rattle.abc_value.proofs.forms.Joins.{joined_fits, fits_joined, number_list, number_table, text_list, text_table, compound_list, compound_table, list_table}
use Rattle.abc_value.proofs.forms.Shaping.{has_form, form_has, a_type, elements_exact}
use Rattle.abc_predef.specs.declared.table.Letter.{Letter}
use Rattle.abc_predef.specs.declared.table.Letter.TheVariants as letter
use Rattle.abc_predef.specs.declared.table.Operands.{Operands}
use Rattle.abc_predef.specs.declared.table.Operands.TheVariants.{One, Two}
use Rattle.abc_predef.specs.Takes.{AreTaken, IsOf, StandsFor}
use Rattle.abc_predef.specs.Taken.{any_of, in_form, keys_form, lists_form, element_of, are_taken}
use Rattle.abc_predef.specs.inner.Patterns.{pattern_of}

there : (o : Option Form) (g : Ground) → Fits o g → IsTrue (is_some o)
there None g f = absurd f
there (Some s) g f = refl

typed : (o : Option Form) → IsTrue (is_some o) → (g : Ground) × Fits o g
typed None e = absurd (cc)
typed (Some s) e = a_type s

any_fits : (o : Option Form) (g e : Ground) → Fits o g → Fits (any_of o) e
any_fits None g e f = absurd f
any_fits (Some s) g e f = tt

any_typed : (o : Option Form) (e : Ground) → Fits (any_of o) e → (g : Ground) × Fits o g
any_typed None e f = absurd f
any_typed (Some s) e f = a_type s

-- a form that holds of one type alone
one_to : (s o : Option Form) (g e : Ground) → Fits s g → Fits o g → Fits (any_of (joined s o)) e
one_to s o g e f h = any_fits (joined s o) g e (joined_fits s o g f h)

one_from : (s o : Option Form) (e : Ground) → Fits (any_of (joined s o)) e → (g : Ground) × Fits s g × Fits o g
one_from s o e f = let t = any_typed (joined s o) e f in let j = fits_joined s o t.0 t.1 in (t.0, j.0, j.1)

train_to : (o : Option Form) (g e : Ground) → Fits o g → IsTrainOf g e → Fits (in_form elements_form o) e
train_to None g e f t = absurd f
train_to (Some s) g e f t = (elements_exact s e).0 (g, f, t)

train_from : (o : Option Form) (e : Ground) → Fits (in_form elements_form o) e → (g : Ground) × Fits o g × IsTrainOf g e
train_from None e f = absurd f
train_from (Some s) e f = (elements_exact s e).1 f

keys_to : (s : Form) (g e a : Ground) → fits s g → g ≡ type.Table e a → Fits (keys_form s) e
keys_to anything g e a f p = tt
keys_to a_number g e a f p = absurd (number_table g e a f p)
keys_to a_text g e a f p = absurd (text_table g e a f p)
keys_to a_collection g e a f p = tt
keys_to (a_compound ss) g e a f p = absurd (compound_table g e a f.0 p f.1)
keys_to (a_list s) g e a f p = absurd (list_table g f.0 e a f.1 p)
keys_to (a_table k b) g e a f p = let P : Ground → Type 0 = λ y. fits k y in subst P (key_part f.0 f.1 e a (sym f.2 ∙ p)) f.3

keys_from : (s : Form) (e : Ground) → Fits (keys_form s) e → (a : Ground) × fits s (type.Table e a)
keys_from anything e f = (type.Number, tt)
keys_from a_number e f = absurd f
keys_from a_text e f = absurd f
keys_from a_collection e f = (type.Number, inr (e, type.Number, refl))
keys_from (a_compound ss) e f = absurd f
keys_from (a_list s) e f = absurd f
keys_from (a_table k b) e f = let t = a_type b in (t.0, (e, t.0, refl, f, t.1))

lists_to : (s : Form) (g e : Ground) → fits s g → g ≡ type.List e → Fits (lists_form s) e
lists_to anything g e f p = tt
lists_to a_number g e f p = absurd (number_list g e f p)
lists_to a_text g e f p = absurd (text_list g e f p)
lists_to a_collection g e f p = tt
lists_to (a_compound ss) g e f p = absurd (compound_list g e f.0 p f.1)
lists_to (a_list s) g e f p = let P : Ground → Type 0 = λ y. fits s y in subst P (list_part f.0 e (sym f.1 ∙ p)) f.2
lists_to (a_table k b) g e f p = absurd (list_table g e f.0 f.1 p f.2)

lists_from : (s : Form) (e : Ground) → Fits (lists_form s) e → fits s (type.List e)
lists_from anything e f = tt
lists_from a_number e f = absurd f
lists_from a_text e f = absurd f
lists_from a_collection e f = inl (e, refl)
lists_from (a_compound ss) e f = absurd f
lists_from (a_list s) e f = (e, refl, f)
lists_from (a_table k b) e f = absurd f

keys_in : (o : Option Form) (g e a : Ground) → Fits o g → g ≡ type.Table e a → Fits (in_form keys_form o) e
keys_in None g e a f p = absurd f
keys_in (Some s) g e a f p = keys_to s g e a f p

keys_out : (o : Option Form) (e : Ground) → Fits (in_form keys_form o) e → (a : Ground) × Fits o (type.Table e a)
keys_out None e f = absurd f
keys_out (Some s) e f = keys_from s e f

lists_in : (o : Option Form) (g e : Ground) → Fits o g → g ≡ type.List e → Fits (in_form lists_form o) e
lists_in None g e f p = absurd f
lists_in (Some s) g e f p = lists_to s g e f p

lists_out : (o : Option Form) (e : Ground) → Fits (in_form lists_form o) e → Fits o (type.List e)
lists_out None e f = absurd f
lists_out (Some s) e f = lists_from s e f

of_to : (l : Letter) (e : Ground) (x : Tree) → IsOf l e x → Fits (element_of l (form_of x)) e
of_to letter.Number e x h = one_to (form_of x) (Some a_number) h.0 e (has_form x h.0 h.2) h.1
of_to letter.Text e x h = one_to (form_of x) (Some a_text) h.0 e (has_form x h.0 h.2) h.1
of_to letter.Element e x h = let P : Ground → Type 0 = λ y. Fits (form_of x) y in subst P h.1 (has_form x h.0 h.2)
of_to letter.Train e x h = train_to (form_of x) h.0 e (has_form x h.0 h.2) h.1
of_to letter.Table e x h = keys_in (form_of x) h.0 e h.1.0 (has_form x h.0 h.2) h.1.1
of_to letter.List e x h = lists_in (form_of x) h.0 e (has_form x h.0 h.2) h.1
of_to letter.Words e x h = one_to (form_of x) (Some (a_table a_number a_text)) h.0 e (has_form x h.0 h.2) (type.Number, type.Text, h.1, refl, refl)

table_of_words : (g k a : Ground) → g ≡ type.Table k a → k ≡ type.Number → a ≡ type.Text → g ≡ type.Table type.Number type.Text
table_of_words g k a p q r = p ∙ (λ i. type.Table (q i) (r i))

of_from : (l : Letter) (e : Ground) (x : Tree) → Fits (element_of l (form_of x)) e → IsOf l e x
of_from letter.Number e x f = let t = one_from (form_of x) (Some a_number) e f in (t.0, t.2, form_has x t.0 t.1)
of_from letter.Text e x f = let t = one_from (form_of x) (Some a_text) e f in (t.0, t.2, form_has x t.0 t.1)
of_from letter.Element e x f = (e, refl, form_has x e f)
of_from letter.Train e x f = let t = train_from (form_of x) e f in (t.0, t.2, form_has x t.0 t.1)
of_from letter.Table e x f = let t = keys_out (form_of x) e f in (type.Table e t.0, (t.0, refl), form_has x (type.Table e t.0) t.1)
of_from letter.List e x f = (type.List e, refl, form_has x (type.List e) (lists_out (form_of x) e f))
of_from letter.Words e x f =
    let t = one_from (form_of x) (Some (a_table a_number a_text)) e f in
    (t.0, table_of_words t.0 t.2.0 t.2.1 t.2.2 t.2.3 t.2.4, form_has x t.0 t.1)

one_exact : (l : Letter) (x : Tree) → ((e : Ground) × IsOf l e x) ↔ IsTrue (is_some (element_of l (form_of x)))
one_exact l x = (
  λ h. there (element_of l (form_of x)) h.0 (of_to l h.0 x h.1),
  λ s. let t = typed (element_of l (form_of x)) s in (t.0, of_from l t.0 x t.1),
)

two_exact : (l m : Letter) (x y : Tree) → ((e : Ground) × IsOf l e x × IsOf m e y) ↔ IsTrue (is_some (joined (element_of l (form_of x)) (element_of m (form_of y))))
two_exact l m x y =
    let a = element_of l (form_of x) in
    let b = element_of m (form_of y) in (
      λ h. there (joined a b) h.0 (joined_fits a b h.0 (of_to l h.0 x h.1) (of_to m h.0 y h.2)),
      λ s. let t = typed (joined a b) s in let j = fits_joined a b t.0 t.1 in (t.0, of_from l t.0 x j.0, of_from m t.0 y j.1),
    )

false_not_true : IsTrue false → ⊥
false_not_true e = cc

pub exact : (o : Operands) (xs : List Tree) → AreTaken o xs ↔ IsTrue (are_taken o xs)
exact (One l) [] = (λ a. absurd a, λ e. absurd (false_not_true e))
exact (One l) (x ∷ []) = one_exact l x
exact (One l) (x ∷ y ∷ xs) = (λ a. absurd a, λ e. absurd (false_not_true e))
exact (Two l m) [] = (λ a. absurd a, λ e. absurd (false_not_true e))
exact (Two l m) (x ∷ []) = (λ a. absurd a, λ e. absurd (false_not_true e))
exact (Two l m) (x ∷ y ∷ []) = two_exact l m x y
exact (Two l m) (x ∷ y ∷ z ∷ xs) = (λ a. absurd a, λ e. absurd (false_not_true e))

-- ---- what the code tests
join_anything : (s : Form) → joined (Some s) (Some anything) ≡ Some s
join_anything anything = refl
join_anything a_number = refl
join_anything a_text = refl
join_anything a_collection = refl
join_anything (a_compound ss) = refl
join_anything (a_list s) = refl
join_anything (a_table k a) = refl

any_there : (o : Option Form) → is_some (any_of o) ≡ is_some o
any_there None = refl
any_there (Some s) = refl

tabled : (s : Form) → is_some (joined (Some s) (Some (a_table anything anything))) ≡ is_some (keys_form s)
tabled anything = refl
tabled a_number = refl
tabled a_text = refl
tabled a_collection = refl
tabled (a_compound ss) = refl
tabled (a_list s) = refl
tabled (a_table k a) = λ i. is_some (both a_table (join_anything k i) (join_anything a i))

listed : (s : Form) → is_some (joined (Some s) (Some (a_list anything))) ≡ is_some (lists_form s)
listed anything = refl
listed a_number = refl
listed a_text = refl
listed a_collection = refl
listed (a_compound ss) = refl
listed (a_list s) = ap (λ o. is_some (option_map a_list o)) (join_anything s)
listed (a_table k a) = refl

-- the join with the form of a letter is there exactly where a type e is
pub by_pattern : (l : Letter) (s : Form) (o : Option Form) → o ≡ Some s → (l ≡ letter.Train → ⊥) → is_some (joined (Some s) (Some (pattern_of l))) ≡ is_some (element_of l o)
by_pattern l s o e h = by_letter l h ∙ ap (λ p. is_some (element_of l p)) (sym e)
  where
    by_letter : (l : Letter) → (l ≡ letter.Train → ⊥) → is_some (joined (Some s) (Some (pattern_of l))) ≡ is_some (element_of l (Some s))
    by_letter letter.Number h = sym (any_there (joined (Some s) (Some a_number)))
    by_letter letter.Text h = sym (any_there (joined (Some s) (Some a_text)))
    by_letter letter.Element h = ap (λ p. is_some p) (join_anything s)
    by_letter letter.Train h = absurd (h refl)
    by_letter letter.Table h = tabled s
    by_letter letter.List h = listed s
    by_letter letter.Words h = sym (any_there (joined (Some s) (Some (a_table a_number a_text))))

-- what is computed is exact
pub if_exact : {E : Type 0} (r : Result Bool E) (o : Operands) (xs : List Tree) → IfOk r (λ b. b ≡ are_taken o xs) → IfOk r (λ b. IsTrue b ↔ AreTaken o xs)
if_exact (Ok b) o xs e = (λ t. (exact o xs).1 (subst IsTrue e t), λ a. subst IsTrue (sym e) ((exact o xs).0 a))
if_exact (Err f) o xs e = tt
