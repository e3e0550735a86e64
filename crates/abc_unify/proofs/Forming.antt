-- What terms and demands say, as kinds say it.
use Rattle.std.proofs.Common.{◌≡◌, ◌∙◌, ℕ, ◌↔◌, inl, inr, List, [], ◌∷◌, map, ap, sym, subst, refl}
use Rattle.std.specs.List.{All}
use Rattle.std.proofs.lemmas.List.Elements.{All-head, All-tail}
use Rattle.abc_num.specs.declared.types.Ground.{Ground, out-Ground}
use Rattle.abc_num.specs.declared.types.Ground.TheOpen.{Ground-F}
use Rattle.abc_num.specs.declared.types.Ground.TheVariants as type
use Rattle.abc_num.specs.Types.{IsTrainOf}
use Rattle.abc_terms.specs.declared.term.VarId.{VarId}
use Rattle.abc_terms.specs.declared.term.Term.{Term}
use Rattle.abc_terms.specs.declared.term.Term.TheVariants as term
use Rattle.abc_terms.specs.Demands.{stands_for, IsCollectionOf, IsNumberOrText}
use Rattle.abc_terms.specs.Nodes.{IsVariable, IsNode, AreIn}
use Rattle.abc_terms.proofs.Grounds.{out_same, out_number, out_text, out_list, out_table, out_compound}
use Rattle.abc_terms.proofs.Terms.{stands_number, stands_text, stands_list, stands_table, stands_compound, variable_in, node_compound}
use Rattle.abc_unify.specs.Outer.{types, IsTrain, IsCollection, IsPlain}

form_is : (g h : Ground) (f : Ground-F Ground) → out-Ground h ≡ f → (g ≡ h) ↔ (out-Ground g ≡ f)
form_is g h f is = (λ e. ap out-Ground e ∙ is, λ e. out_same g h (e ∙ sym is))

module _ (t : Term) (v : ℕ → Ground) (g : Ground) where
  term_is : (u : Term) (h : Ground) (f : Ground-F Ground) → t ≡ u → stands_for v u ≡ h → out-Ground h ≡ f → (g ≡ stands_for v t) ↔ (out-Ground g ≡ f)
  term_is u h f is stands form = form_is g (stands_for v t) f (ap (λ w. out-Ground (stands_for v w)) is ∙ (ap out-Ground stands ∙ form))

  pub number_is : t ≡ term.Number → (g ≡ stands_for v t) ↔ (out-Ground g ≡ Ground-F.Number)
  number_is is = term_is term.Number type.Number Ground-F.Number is (stands_number v) out_number

  pub text_is : t ≡ term.Text → (g ≡ stands_for v t) ↔ (out-Ground g ≡ Ground-F.Text)
  text_is is = term_is term.Text type.Text Ground-F.Text is (stands_text v) out_text

  pub list_is : (a : VarId) → t ≡ term.List (term.Var a) → (g ≡ stands_for v t) ↔ (out-Ground g ≡ Ground-F.List (v a.0))
  list_is a is = term_is (term.List (term.Var a)) (type.List (v a.0)) (Ground-F.List (v a.0)) is (stands_list v a) (out_list (v a.0))

  pub table_is : (k a : VarId) → t ≡ term.Table (term.Var k) (term.Var a) → (g ≡ stands_for v t) ↔ (out-Ground g ≡ Ground-F.Table (v k.0) (v a.0))
  table_is k a is = term_is (term.Table (term.Var k) (term.Var a)) (type.Table (v k.0) (v a.0)) (Ground-F.Table (v k.0) (v a.0)) is (stands_table v k a) (out_table (v k.0) (v a.0))

  pub compound_is : (xs : List VarId) → t ≡ term.Compound (map term.Var xs) → (g ≡ stands_for v t) ↔ (out-Ground g ≡ Ground-F.Compound (types v xs))
  compound_is xs is = term_is (term.Compound (map term.Var xs)) (type.Compound (types v xs)) (Ground-F.Compound (types v xs)) is (stands_compound v xs) (out_compound (types v xs))

all_in : (n : ℕ) (xs : List VarId) → All (IsVariable n) (map term.Var xs) → AreIn n xs
all_in n [] h = tt
all_in n (x ∷ xs) h = (
  variable_in n x (All-head (IsVariable n) (term.Var x) (map term.Var xs) h),
  all_in n xs (All-tail (IsVariable n) (term.Var x) (map term.Var xs) h),
)

pub fields_in : (n : ℕ) (t : Term) (xs : List VarId) → t ≡ term.Compound (map term.Var xs) → IsNode n t → AreIn n xs
fields_in n t xs is node = all_in n xs (node_compound n (map term.Var xs) (subst (λ u. IsNode n u) is node)).1

train_from : (g e : Ground) → IsTrainOf g e → IsTrain (out-Ground g) e
train_from g e (inl both) = subst (λ f. IsTrain f e) (sym (ap out-Ground both.0 ∙ out_text)) (ap out-Ground both.1 ∙ out_text)
train_from g e (inr (inl is)) = subst (λ f. IsTrain f e) (sym (ap out-Ground is ∙ out_list e)) refl
train_from g e (inr (inr is)) = subst (λ f. IsTrain f e) (sym (ap out-Ground is.1 ∙ out_table is.0 e)) refl

train_to : (g e : Ground) (f : Ground-F Ground) → out-Ground g ≡ f → IsTrain f e → IsTrainOf g e
train_to g e Ground-F.Number is t = absurd t
train_to g e Ground-F.Text is t = inl (out_same g type.Text (is ∙ sym out_text), out_same e type.Text (t ∙ sym out_text))
train_to g e (Ground-F.Compound fields) is t = absurd t
train_to g e (Ground-F.List element) is t = inr (inl (out_same g (type.List e) (is ∙ (ap Ground-F.List t ∙ sym (out_list e)))))
train_to g e (Ground-F.Table key associate) is t = inr (inr (key, out_same g (type.Table key e) (is ∙ (ap (Ground-F.Table key) t ∙ sym (out_table key e)))))

pub train_is : (g e : Ground) → IsTrainOf g e ↔ IsTrain (out-Ground g) e
train_is g e = (train_from g e, train_to g e (out-Ground g) refl)

collection_from : (g e : Ground) → IsCollectionOf g e → IsCollection (out-Ground g) e
collection_from g e (inl is) = subst (λ f. IsCollection f e) (sym (ap out-Ground is ∙ out_list e)) refl
collection_from g e (inr is) = subst (λ f. IsCollection f e) (sym (ap out-Ground is.1 ∙ out_table is.0 e)) refl

collection_to : (g e : Ground) (f : Ground-F Ground) → out-Ground g ≡ f → IsCollection f e → IsCollectionOf g e
collection_to g e Ground-F.Number is t = absurd t
collection_to g e Ground-F.Text is t = absurd t
collection_to g e (Ground-F.Compound fields) is t = absurd t
collection_to g e (Ground-F.List element) is t = inl (out_same g (type.List e) (is ∙ (ap Ground-F.List t ∙ sym (out_list e))))
collection_to g e (Ground-F.Table key associate) is t = inr (key, out_same g (type.Table key e) (is ∙ (ap (Ground-F.Table key) t ∙ sym (out_table key e))))

pub collection_is : (g e : Ground) → IsCollectionOf g e ↔ IsCollection (out-Ground g) e
collection_is g e = (collection_from g e, collection_to g e (out-Ground g) refl)

plain_from : (g : Ground) → IsNumberOrText g → IsPlain (out-Ground g)
plain_from g (inl is) = subst (λ f. IsPlain f) (sym (ap out-Ground is ∙ out_number)) tt
plain_from g (inr is) = subst (λ f. IsPlain f) (sym (ap out-Ground is ∙ out_text)) tt

plain_to : (g : Ground) (f : Ground-F Ground) → out-Ground g ≡ f → IsPlain f → IsNumberOrText g
plain_to g Ground-F.Number is t = inl (out_same g type.Number (is ∙ sym out_number))
plain_to g Ground-F.Text is t = inr (out_same g type.Text (is ∙ sym out_text))
plain_to g (Ground-F.Compound fields) is t = absurd t
plain_to g (Ground-F.List element) is t = absurd t
plain_to g (Ground-F.Table key associate) is t = absurd t

pub plain_is : (g : Ground) → IsNumberOrText g ↔ IsPlain (out-Ground g)
plain_is g = (plain_from g, plain_to g (out-Ground g) refl)
