-- What is made of values of known types has its type.
use Rattle.std.proofs.Common.{◌≡◌, ◌∙◌, refl, ap, sym, subst, ℕ, zero, suc, ℤ, pos, Bool, true, false, ◌&&◌, List, [], ◌∷◌, map, Option, Some, None, Result, Ok, inl, inr, is_some}
use Rattle.std.specs.Prelude.{◌+◌, ◌+ℤ◌, cond, option_map, option_and_then, is_none}
use Rattle.std.specs.List.{AllByRecursion, list_all}
use Rattle.std.specs.Option.{IfSome}
use Rattle.std.specs.Ordering.{is_eq}
use Rattle.abc_num.specs.declared.types.Ground.{Ground}
use Rattle.abc_num.specs.declared.types.Ground.TheVariants as type
use Rattle.abc_num.specs.Number.{Fraction, whole_of}
use Rattle.abc_num.specs.Types.{IsTrainOf}
use Rattle.abc_tree.specs.Roles.{is_relation}
use Rattle.abc_tree.specs.declared.operations.Op.{Op}
use Rattle.abc_tree.specs.declared.operations.Op.TheVariants as op
use Rattle.abc_value.specs.declared.faults.ValueFault.{ValueFault}
use Rattle.abc_value.specs.Tree.{Tree, Trees, number, text, compound, list, table, trees, pairs, listed_pairs, no_trees, more, table_of}
use Rattle.abc_value.specs.Types.{has, each_has, all_have, pairs_have}
use Rattle.abc_value.specs.Forms.{Form, a_list, a_table, Fits, both, joined, form_of, elements_form}
use Rattle.abc_value.specs.Order.{order}
use Rattle.abc_value.specs.Parts.{parts_of, pairs_of}
use Rattle.abc_value.specs.Sizes.{size_fault}
use Rattle.abc_value.specs.Items.{elements_of, by_fault, if_small, numbers_from, characters_from, number_range, character_range, range_of}
use Rattle.abc_value.specs.Changes.{in_order, with_new, placed, associate_of}
use Rattle.abc_value.proofs.forms.Grounds.{compound_part}
use Rattle.abc_value.proofs.forms.Joins.{number_text, number_list, number_table, text_list, text_table, compound_text, compound_list, compound_table, list_table, list_of, table_of_both, joined_fits}
use Rattle.abc_value.proofs.forms.Shaping.{has_form, elements_exact}
use Rattle.abc_predef.specs.declared.table.Letter.{Letter}
use Rattle.abc_predef.specs.declared.table.Letter.TheVariants as letter
use Rattle.abc_predef.specs.declared.table.Operands.{Operands}
use Rattle.abc_predef.specs.declared.table.Operands.TheVariants.{One, Two}
use Rattle.abc_predef.specs.Rows.{row_of_one, row_of_two}
use Rattle.abc_predef.specs.Signatures.{operands, result_of}
use Rattle.abc_predef.specs.Taken.{are_taken}
use Rattle.abc_predef.specs.Takes.{StandsFor, IsOf, AreTaken}
use Rattle.abc_predef.proofs.Deciding.{exact}
use Rattle.abc_predef.proofs.ResultTypes.{one_by, two_by}
use Rattle.abc_predef.proofs.Typed.{typed_parts, add_typed, list_of_type, typed_pairs, with_typed}
use Rattle.abc_terms.specs.Demands.{IsNumberOrText}
use Rattle.abc_meaning.specs.Fits.{agree, has_type, fits_table, fits_list, gives_value, is_test, train_elements, have_range}
use Rattle.abc_ground.specs.Fits.{OperandsFit, ResultFits, ValueFits, TestFits}

-- ---- tests by forms

pub both_true : (a b : Bool) → a ≡ true → b ≡ true → (a && b) ≡ true
both_true true true h k = refl
both_true true false h k = cc
both_true false b h k = cc

pub some_form : (o : Option Form) (g : Ground) → Fits o g → is_some o ≡ true
some_form None g h = absurd h
some_form (Some s) g h = refl

pub typed_has_type : (v : Tree) (g : Ground) → has v g → has_type v ≡ true
typed_has_type v g h = some_form (form_of v) g (has_form v g h)

agreeing : (o p : Option Form) (g : Ground) → Fits o g → Fits p g → agree o p ≡ true
agreeing o p g h k = some_form (joined o p) g (joined_fits o p g h k)

pub table_fits : (t k : Tree) (o : Option Form) (l a : Ground) → has t (type.Table l a) → has k l → Fits o a → fits_table t k o ≡ true
table_fits t k o l a ht hk ho =
    agreeing (form_of t) (both a_table (form_of k) o) (type.Table l a) (has_form t (type.Table l a) ht) (table_of_both (form_of k) o (type.Table l a) l a refl (has_form k l hk) ho)

pub list_fits : (t v : Tree) (e : Ground) → has t (type.List e) → has v e → fits_list t v ≡ true
list_fits t v e ht hv = agreeing (form_of t) (option_map a_list (form_of v)) (type.List e) (has_form t (type.List e) ht) (list_of (form_of v) (type.List e) e refl (has_form v e hv))

-- ---- sizes

small_by : (t v : Tree) (o : Option ValueFault) → by_fault t o ≡ Ok v → t ≡ v
small_by t v None e = cc
small_by t v (Some f) e = cc

pub small_has : (t v : Tree) (g : Ground) → has t g → if_small t ≡ Ok v → has v g
small_has t v g h e = subst (λ u. has u g) (small_by t v (size_fault t) e) h

-- ---- values of one type

abbrev pub HaveAll : Ground → List Tree → Type 0
HaveAll e vs = AllByRecursion (λ v. has v e) vs

pub to_all : (e : Ground) (vs : List Tree) → HaveAll e vs → all_have (trees vs) e
to_all e [] h = tt
to_all e (v ∷ vs) h = (h.0, to_all e vs h.1)

pub from_all : (e : Ground) (vs : List Tree) → all_have (trees vs) e → HaveAll e vs
from_all e [] h = tt
from_all e (v ∷ vs) h = (h.0, from_all e vs h.1)

-- a list display
ordered_all : (e : Ground) (vs : List Tree) → HaveAll e vs → all_have (trees (in_order vs)) e
ordered_all e [] h = tt
ordered_all e (v ∷ vs) h = add_typed v (in_order vs) e h.0 (ordered_all e vs h.1)

pub display_has : (e : Ground) (vs : List Tree) → HaveAll e vs → has (list (trees (in_order vs))) (type.List e)
display_has e vs h = list_of_type (in_order vs) e (ordered_all e vs h)

-- a table display
abbrev pub HavePairs : Ground → Ground → List (Tree × Tree) → Type 0
HavePairs k a ps = AllByRecursion (λ p. has p.0 k × has p.1 a) ps

new_pair : (l b : Tree) (o : Option Tree) (ps : List (Tree × Tree)) (k a : Ground) → has l k → has b a → pairs_have (pairs ps) k a → pairs_have (pairs (with_new l b o ps)) k a
new_pair l b None ps k a hl hb h = with_typed l b ps k a hl hb h
new_pair l b (Some c) ps k a hl hb h = h

placed_all : (k a : Ground) (ps : List (Tree × Tree)) → HavePairs k a ps → pairs_have (pairs (placed ps)) k a
placed_all k a [] h = tt
placed_all k a (p ∷ ps) h = new_pair p.0 p.1 (associate_of p.0 (placed ps)) (placed ps) k a h.0.0 h.0.1 (placed_all k a ps h.1)

pub table_has : (ps : List (Tree × Tree)) (k a : Ground) → pairs_have (pairs ps) k a → has (table_of ps) (type.Table k a)
table_has [] k a h = inr (k, a, refl)
table_has (p ∷ ps) k a h = (k, a, refl, h)

pub entries_have : (ps : List (Tree × Tree)) (k a : Ground) → HavePairs k a ps → has (table_of (placed ps)) (type.Table k a)
entries_have ps k a h = table_has (placed ps) k a (placed_all k a ps h)

-- a compound
abbrev pub HaveEach : List Ground → List Tree → Type 0
HaveEach [] [] = Unit {0}
HaveEach (g ∷ gs) (v ∷ vs) = has v g × HaveEach gs vs
HaveEach _ _ = ⊥

pub to_each : (gs : List Ground) (vs : List Tree) → HaveEach gs vs → each_has (trees vs) gs
to_each [] [] h = tt
to_each [] (v ∷ vs) h = absurd h
to_each (g ∷ gs) [] h = absurd h
to_each (g ∷ gs) (v ∷ vs) h = (h.0, to_each gs vs h.1)

pub compound_has : (gs : List Ground) (vs : List Tree) → HaveEach gs vs → has (compound (trees vs)) (type.Compound gs)
compound_has gs vs h = (gs, refl, to_each gs vs h)

pub each_typed : (gs : List Ground) (vs : List Tree) → HaveEach gs vs → list_all has_type vs ≡ true
each_typed [] [] h = refl
each_typed [] (v ∷ vs) h = absurd h
each_typed (g ∷ gs) [] h = absurd h
each_typed (g ∷ gs) (v ∷ vs) h = both_true (has_type v) (list_all has_type vs) (typed_has_type v g h.0) (each_typed gs vs h.1)

-- ---- parts

pub fields_of : (v : Tree) (gs : List Ground) → has v (type.Compound gs) → (ts : Trees) × (v ≡ compound ts) × each_has ts gs
fields_of (number n) gs h = absurd (number_compound h)
  where
    number_compound : type.Compound gs ≡ type.Number → ⊥
    number_compound e = cc
fields_of (text b) gs h = absurd (compound_text (type.Compound gs) gs h refl)
fields_of (compound ts) gs h = (ts, refl, subst (λ hs. each_has ts hs) (sym (compound_part gs h.0 h.1)) h.2)
fields_of (list no_trees) gs (inl h) = absurd (compound_list (type.Compound gs) h.0 gs h.1 refl)
fields_of (list no_trees) gs (inr h) = absurd (compound_table (type.Compound gs) h.0 h.1 gs h.2 refl)
fields_of (list (more t ts)) gs h = absurd (compound_list (type.Compound gs) h.0 gs h.1 refl)
fields_of (table ps) gs h = absurd (compound_table (type.Compound gs) h.0 h.1 gs h.2 refl)

pub found_has : (k : Tree) (ps : List (Tree × Tree)) (l a : Ground) → pairs_have (pairs ps) l a → IfSome (associate_of k ps) (λ v. has v a)
found_has k [] l a h = tt
found_has k (p ∷ ps) l a h = by (is_eq (order p.0 k)) (found_has k ps l a h.2)
  where
    by : (b : Bool) → IfSome (associate_of k ps) (λ v. has v a) → IfSome (cond b (Some p.1) (associate_of k ps)) (λ v. has v a)
    by true rest = h.1
    by false rest = rest

pub selected_has : (k t : Tree) (l a : Ground) → has t (type.Table l a) → IfSome (associate_of k (pairs_of t)) (λ v. has v a)
selected_has k t l a h = found_has k (pairs_of t) l a (typed_pairs t l a h)

-- ---- elements of trains

train_form : (o : Option Form) (t e : Ground) → Fits o t → IsTrainOf t e → is_some (option_and_then elements_form o) ≡ true
train_form None t e h k = absurd h
train_form (Some s) t e h k = some_form (elements_form s) e ((elements_exact s e).0 (t, h, k))

characters_all : (b : List ℕ) → HaveAll type.Text (map (λ c. text (c ∷ [])) b)
characters_all [] = tt
characters_all (c ∷ b) = (refl, characters_all b)

associates_all : (k a : Ground) (ps : List (Tree × Tree)) → pairs_have (pairs ps) k a → HaveAll a (map (λ p. p.1) ps)
associates_all k a [] h = tt
associates_all k a (p ∷ ps) h = (h.1, associates_all k a ps h.2)

text_elements : (v : Tree) → has v type.Text → HaveAll type.Text (elements_of v)
text_elements (number n) h = tt
text_elements (text b) h = characters_all b
text_elements (compound ts) h = absurd (compound_text type.Text h.0 refl h.1)
text_elements (list no_trees) h = tt
text_elements (list (more t ts)) h = absurd (text_list type.Text h.0 refl h.1)
text_elements (table ps) h = absurd (text_table type.Text h.0 h.1 refl h.2)

list_elements : (v : Tree) (e : Ground) → has v (type.List e) → HaveAll e (elements_of v)
list_elements (number n) e h = tt
list_elements (text b) e h = absurd (text_list (type.List e) e h refl)
list_elements (compound ts) e h = from_all e (parts_of (compound ts)) (typed_parts (compound ts) e h)
list_elements (list ts) e h = from_all e (parts_of (list ts)) (typed_parts (list ts) e h)
list_elements (table ps) e h = from_all e (parts_of (table ps)) (typed_parts (table ps) e h)

table_elements : (v : Tree) (k e : Ground) → has v (type.Table k e) → HaveAll e (elements_of v)
table_elements (number n) k e h = tt
table_elements (text b) k e h = absurd (text_table (type.Table k e) k e h refl)
table_elements (compound ts) k e h = absurd (compound_table (type.Table k e) k e h.0 refl h.1)
table_elements (list no_trees) k e h = tt
table_elements (list (more t ts)) k e h = absurd (list_table (type.Table k e) h.0 k e h.1 refl)
table_elements (table ps) k e h = associates_all k e (listed_pairs ps) (typed_pairs (table ps) k e h)

elements_have : (v : Tree) (t e : Ground) → IsTrainOf t e → has v t → HaveAll e (elements_of v)
elements_have v t e (inl is) h = subst (λ d. HaveAll d (elements_of v)) (sym is.1) (text_elements v (subst (has v) is.0 h))
elements_have v t e (inr (inl is)) h = list_elements v e (subst (has v) is h)
elements_have v t e (inr (inr is)) h = table_elements v is.0 e (subst (has v) is.1 h)

-- a train has elements, of the type that it is a train of
pub train_has : (v : Tree) (t e : Ground) → has v t → IsTrainOf t e → (train_elements v ≡ Some (elements_of v)) × HaveAll e (elements_of v)
train_has v t e h is = (by (option_and_then elements_form (form_of v)) (train_form (form_of v) t e (has_form v t h) is), elements_have v t e is h)
  where
    by : (o : Option Form) → is_some o ≡ true → option_map (λ _. elements_of v) o ≡ Some (elements_of v)
    by None e = cc
    by (Some s) e = refl

-- ---- ranges

numeric : (v : Tree) → has v type.Number → (n : Fraction) × (v ≡ number n)
numeric (number n) h = (n, refl)
numeric (text b) h = absurd (number_text type.Number refl h)
numeric (compound ts) h = let e = h.1 in absurd (cc)
numeric (list no_trees) (inl h) = absurd (number_list type.Number h.0 refl h.1)
numeric (list no_trees) (inr h) = absurd (number_table type.Number h.0 h.1 refl h.2)
numeric (list (more t ts)) h = absurd (number_list type.Number h.0 refl h.1)
numeric (table ps) h = absurd (number_table type.Number h.0 h.1 refl h.2)

textual : (v : Tree) → has v type.Text → (b : List ℕ) × (v ≡ text b)
textual (number n) h = absurd (number_text type.Text h refl)
textual (text b) h = (b, refl)
textual (compound ts) h = absurd (compound_text type.Text h.0 refl h.1)
textual (list no_trees) (inl h) = absurd (text_list type.Text h.0 refl h.1)
textual (list no_trees) (inr h) = absurd (text_table type.Text h.0 h.1 refl h.2)
textual (list (more t ts)) h = absurd (text_list type.Text h.0 refl h.1)
textual (table ps) h = absurd (text_table type.Text h.0 h.1 refl h.2)

numbers_all : (p : ℤ) (n : ℕ) → all_have (trees (numbers_from p n)) type.Number
numbers_all p zero = tt
numbers_all p (suc n) = (refl, numbers_all (p +ℤ pos 1) n)

codes_all : (c n : ℕ) → all_have (trees (characters_from c n)) type.Text
codes_all c zero = tt
codes_all c (suc n) = (refl, codes_all (c + 1) n)

-- what is given has the type
abbrev GivenHas : Ground → Result Tree ValueFault → Type 0
GivenHas g r = (v : Tree) → r ≡ Ok v → has v g

numbers_given : (o u : Option ℤ) → GivenHas (type.List type.Number) (number_range o u)
numbers_given (Some p) (Some q) v e = small_has _ v (type.List type.Number) (list_of_type _ type.Number (numbers_all p _)) e
numbers_given None u v e = absurd (cc)
numbers_given (Some p) None v e = absurd (cc)

codes_given : (b c : List ℕ) → GivenHas (type.List type.Text) (character_range b c)
codes_given (b ∷ []) (c ∷ []) v e = small_has _ v (type.List type.Text) (list_of_type _ type.Text (codes_all b _)) e
codes_given [] c v e = absurd (cc)
codes_given (b ∷ d ∷ bs) c v e = absurd (cc)
codes_given (b ∷ []) [] v e = absurd (cc)
codes_given (b ∷ []) (c ∷ d ∷ cs) v e = absurd (cc)

abbrev RangeHas : Ground → Tree → Tree → Type 0
RangeHas e p q = (have_range p q ≡ true) × GivenHas (type.List e) (range_of p q)

pub range_has : (e : Ground) (p q : Tree) → IsNumberOrText e → has p e → has q e → RangeHas e p q
range_has e p q (inl is) hp hq =
    let n = numeric p (subst (has p) is hp) in
    let m = numeric q (subst (has q) is hq) in
    subst (λ d. RangeHas d p q) (sym is) (subst (λ x. RangeHas type.Number x q) (sym n.1) (subst (λ y. RangeHas type.Number (number n.0) y) (sym m.1) (refl, numbers_given (whole_of n.0) (whole_of m.0))))
range_has e p q (inr is) hp hq =
    let b = textual p (subst (has p) is hp) in
    let c = textual q (subst (has q) is hq) in
    subst (λ d. RangeHas d p q) (sym is) (subst (λ x. RangeHas type.Text x q) (sym b.1) (subst (λ y. RangeHas type.Text (text b.0) y) (sym c.1) (refl, codes_given b.0 c.0)))

-- ---- predefined rows

pub some_result : (e : Ground) (o : Option Letter) (t : Ground) → ResultFits e o (t ∷ []) → (m : Letter) × (o ≡ Some m) × StandsFor m e t
some_result e None t h = absurd h
some_result e (Some m) t h = (m, refl, h)

no_result : (e : Ground) (o : Option Letter) → ResultFits e o [] → o ≡ None
no_result e None h = refl
no_result e (Some m) h = absurd h

one_operand : (e : Ground) (o : Operands) (x : Ground) → OperandsFit e o (x ∷ []) → (l : Letter) × (o ≡ One l) × StandsFor l e x
one_operand e (One l) x h = (l, refl, h)
one_operand e (Two l m) x h = absurd h

two_operands : (e : Ground) (o : Operands) (x y : Ground) → OperandsFit e o (x ∷ y ∷ []) → (l : Letter) × (m : Letter) × (o ≡ Two l m) × StandsFor l e x × StandsFor m e y
two_operands e (One l) x y h = absurd h
two_operands e (Two l m) x y h = (l, m, refl, h.0, h.1)

-- a result has one type
abbrev is_single : Option Letter → Bool
is_single (Some letter.Train) = false
is_single (Some letter.Table) = false
is_single _ = true

results_are_single : (o : Op) → is_single (result_of o) ≡ true
results_are_single op.Plus = refl
results_are_single _ = refl

one_type : (m : Letter) (e g t : Ground) → is_single (Some m) ≡ true → StandsFor m e g → StandsFor m e t → g ≡ t
one_type letter.Number e g t s h k = h ∙ sym k
one_type letter.Text e g t s h k = h ∙ sym k
one_type letter.Element e g t s h k = h ∙ sym k
one_type letter.List e g t s h k = h ∙ sym k
one_type letter.Words e g t s h k = h ∙ sym k
one_type letter.Train e g t s h k = absurd (cc)
one_type letter.Table e g t s h k = absurd (cc)

result_has : (o : Op) (m : Letter) (e t : Ground) (w : Tree) → result_of o ≡ Some m → StandsFor m e t → IsOf m e w → has w t
result_has o m e t w is st h = subst (has w) (one_type m e h.0 t (sym (ap is_single is) ∙ results_are_single o) h.1 st) h.2

taken : (o : Operands) (vs : List Tree) → AreTaken o vs → are_taken o vs ≡ true
taken o vs h = (exact o vs).0 h

pub one_taken : (o : Op) (x t : Ground) (v : Tree) → ValueFits o (x ∷ []) (t ∷ []) → has v x → gives_value o (v ∷ []) ≡ true
one_taken o x t v h hv =
    let r = some_result h.0 (result_of o) t h.2 in
    let l = one_operand h.0 (operands o) x h.1 in
    both_true (is_some (result_of o)) (are_taken (operands o) (v ∷ [])) (ap is_some r.1)
    (taken (operands o) (v ∷ []) (subst (λ d. AreTaken d (v ∷ [])) (sym l.1) (h.0, (x, l.2, hv))))

pub one_has : (o : Op) (x t : Ground) (v w : Tree) → ValueFits o (x ∷ []) (t ∷ []) → has v x → row_of_one o v ≡ Ok w → has w t
one_has o x t v w h hv e =
    let r = some_result h.0 (result_of o) t h.2 in
    let l = one_operand h.0 (operands o) x h.1 in
    result_has o r.0 h.0 t w r.1 r.2 (one_by o l.0 r.0 h.0 v w l.1 r.1 (x, l.2, hv) e)

pub two_taken : (o : Op) (x y t : Ground) (u v : Tree) → ValueFits o (x ∷ y ∷ []) (t ∷ []) → has u x → has v y → gives_value o (u ∷ v ∷ []) ≡ true
two_taken o x y t u v h hu hv =
    let r = some_result h.0 (result_of o) t h.2 in
    let l = two_operands h.0 (operands o) x y h.1 in
    both_true (is_some (result_of o)) (are_taken (operands o) (u ∷ v ∷ [])) (ap is_some r.1)
    (taken (operands o) (u ∷ v ∷ []) (subst (λ d. AreTaken d (u ∷ v ∷ [])) (sym l.2) (h.0, (x, l.3, hu), (y, l.4, hv))))

pub two_has : (o : Op) (x y t : Ground) (u v w : Tree) → ValueFits o (x ∷ y ∷ []) (t ∷ []) → has u x → has v y → row_of_two o u v ≡ Ok w → has w t
two_has o x y t u v w h hu hv e =
    let r = some_result h.0 (result_of o) t h.2 in
    let l = two_operands h.0 (operands o) x y h.1 in
    result_has o r.0 h.0 t w r.1 r.2 (two_by o l.0 l.1 r.0 h.0 u v w l.2 r.1 (x, l.3, hu) (y, l.4, hv) e)

-- tests
pub membership_taken : (o : Op) (x y : Ground) (u v : Tree) → TestFits o (x ∷ y ∷ []) [] → has u x → has v y → is_test o (u ∷ v ∷ []) ≡ true
membership_taken o x y u v h hu hv =
    let l = two_operands h.0 (operands o) x y h.1 in
    both_true (is_none (result_of o)) (are_taken (operands o) (u ∷ v ∷ [])) (ap is_none (no_result h.0 (result_of o) h.2))
    (taken (operands o) (u ∷ v ∷ []) (subst (λ d. AreTaken d (u ∷ v ∷ [])) (sym l.2) (h.0, (x, l.3, hu), (y, l.4, hv))))

relation_types : (o : Op) → is_relation o ≡ true → (result_of o ≡ None) × (operands o ≡ Two letter.Element letter.Element)
relation_types op.Less h = (refl, refl)
relation_types op.AtMost h = (refl, refl)
relation_types op.Equal h = (refl, refl)
relation_types op.Unequal h = (refl, refl)
relation_types op.AtLeast h = (refl, refl)
relation_types op.More h = (refl, refl)
relation_types _ h = absurd (cc)

pub relation_taken : (o : Op) (e : Ground) (u v : Tree) → is_relation o ≡ true → has u e → has v e → is_test o (u ∷ v ∷ []) ≡ true
relation_taken o e u v is hu hv =
    let r = relation_types o is in
    both_true (is_none (result_of o)) (are_taken (operands o) (u ∷ v ∷ [])) (ap is_none r.0)
    (taken (operands o) (u ∷ v ∷ []) (subst (λ d. AreTaken d (u ∷ v ∷ [])) (sym r.1) (e, (e, refl, hu), (e, refl, hv))))
