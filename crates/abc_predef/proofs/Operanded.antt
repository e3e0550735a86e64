-- The operands that rows take: of which kinds they are.
use Rattle.std.proofs.Common.{◌≡◌, subst, [], ◌∷◌, inl, inr}
use Rattle.abc_num.specs.declared.types.Ground.{Ground}
use Rattle.abc_num.specs.declared.types.Ground.TheVariants as type
use Rattle.abc_num.specs.Types.{IsTrainOf}
use Rattle.abc_tree.specs.declared.operations.Op.{Op}
use Rattle.abc_value.specs.Tree.{Tree, number, text, compound, list, table, no_trees, more}
use Rattle.abc_value.specs.Types.{has, IsCollection}
use Rattle.abc_value.specs.Parts.{IsText, IsTable}
use Rattle.abc_value.specs.Items.{IsTrain}
use Rattle.abc_value.proofs.forms.Shaping.{of_number, of_fields, of_text}
use Rattle.abc_predef.specs.declared.table.Letter.{Letter}
use Rattle.abc_predef.specs.declared.table.Letter.TheVariants as letter
use Rattle.abc_predef.specs.declared.table.Operands.TheVariants.{One, Two}
use Rattle.abc_predef.specs.Takes.{IsNumeric, IsOf, AreTaken, GivesValue, IsTest}
use Rattle.abc_predef.specs.inner.Places.{IsLike}
use Rattle.abc_predef.specs.Signatures.{operands}
use Rattle.abc_predef.proofs.Signatures.{value_operands, test_operands}

no_collection_number : IsCollection type.Number → ⊥
no_collection_number (inl h) = let e = h.1 in cc
no_collection_number (inr h) = let e = h.2 in cc

no_collection_text : IsCollection type.Text → ⊥
no_collection_text (inl h) = let e = h.1 in cc
no_collection_text (inr h) = let e = h.2 in cc

numeric : (t : Tree) → has t type.Number → IsNumeric t
numeric (number n) h = tt
numeric (text b) h = cc
numeric (compound ts) h = let e = h.1 in cc
numeric (list no_trees) h = no_collection_number h
numeric (list (more t ts)) h = let e = h.1 in cc
numeric (table ps) h = let e = h.2 in cc

textual : (t : Tree) → has t type.Text → IsText t
textual (number n) h = cc
textual (text b) h = tt
textual (compound ts) h = let e = h.1 in cc
textual (list no_trees) h = no_collection_text h
textual (list (more t ts)) h = let e = h.1 in cc
textual (table ps) h = let e = h.2 in cc

tabular : (t : Tree) (k a : Ground) → has t (type.Table k a) → IsTable t
tabular (number n) k a h = cc
tabular (text b) k a h = cc
tabular (compound ts) k a h = let e = h.1 in cc
tabular (list no_trees) k a h = tt
tabular (list (more t ts)) k a h = let e = h.1 in cc
tabular (table ps) k a h = tt

train : (t : Tree) (g e : Ground) → IsTrainOf g e → has t g → IsTrain t
train (number n) g e k h = of_number g e h k
train (text b) g e k h = tt
train (compound ts) g e k h = of_fields g e h.0 h.1 k
train (list ts) g e k h = tt
train (table ps) g e k h = tt

like : (x t : Tree) (g e : Ground) → IsTrainOf g e → has t g → has x e → IsLike x t
like x (number n) g e k h l = tt
like x (text b) g e k h l = textual x (subst (has x) (of_text g e h k) l)
like x (compound ts) g e k h l = tt
like x (list ts) g e k h l = tt
like x (table ps) g e k h l = tt

numeric_of : (e : Ground) (t : Tree) → IsOf letter.Number e t → IsNumeric t
numeric_of e t h = numeric t (subst (has t) h.1 h.2)

text_of : (e : Ground) (t : Tree) → IsOf letter.Text e t → IsText t
text_of e t h = textual t (subst (has t) h.1 h.2)

train_of : (e : Ground) (t : Tree) → IsOf letter.Train e t → IsTrain t
train_of e t h = train t h.0 e h.1 h.2

table_of : (e : Ground) (t : Tree) → IsOf letter.Table e t → IsTable t
table_of e t h = tabular t e h.1.0 (subst (has t) h.1.1 h.2)

like_of : (e : Ground) (x t : Tree) → IsOf letter.Element e x → IsOf letter.Train e t → IsLike x t
like_of e x t h k = like x t k.0 e k.1 k.2 (subst (has x) h.1 h.2)

taken_one : (o : Op) (l : Letter) (x : Tree) → operands o ≡ One l → GivesValue o (x ∷ []) → AreTaken (One l) (x ∷ [])
taken_one o l x e g = subst (λ m. AreTaken m (x ∷ [])) e (value_operands o (x ∷ []) g)

taken_two : (o : Op) (l m : Letter) (x y : Tree) → operands o ≡ Two l m → GivesValue o (x ∷ y ∷ []) → AreTaken (Two l m) (x ∷ y ∷ [])
taken_two o l m x y e g = subst (λ n. AreTaken n (x ∷ y ∷ [])) e (value_operands o (x ∷ y ∷ []) g)

pub one_number : (o : Op) (x : Tree) → operands o ≡ One letter.Number → GivesValue o (x ∷ []) → IsNumeric x
one_number o x e g = let t = taken_one o letter.Number x e g in numeric_of t.0 x t.1

pub one_text : (o : Op) (x : Tree) → operands o ≡ One letter.Text → GivesValue o (x ∷ []) → IsText x
one_text o x e g = let t = taken_one o letter.Text x e g in text_of t.0 x t.1

pub one_train : (o : Op) (x : Tree) → operands o ≡ One letter.Train → GivesValue o (x ∷ []) → IsTrain x
one_train o x e g = let t = taken_one o letter.Train x e g in train_of t.0 x t.1

pub one_table : (o : Op) (x : Tree) → operands o ≡ One letter.Table → GivesValue o (x ∷ []) → IsTable x
one_table o x e g = let t = taken_one o letter.Table x e g in table_of t.0 x t.1

pub first_number : (o : Op) (m : Letter) (x y : Tree) → operands o ≡ Two letter.Number m → GivesValue o (x ∷ y ∷ []) → IsNumeric x
first_number o m x y e g = let t = taken_two o letter.Number m x y e g in numeric_of t.0 x t.1

pub second_number : (o : Op) (l : Letter) (x y : Tree) → operands o ≡ Two l letter.Number → GivesValue o (x ∷ y ∷ []) → IsNumeric y
second_number o l x y e g = let t = taken_two o l letter.Number x y e g in numeric_of t.0 y t.2

pub first_text : (o : Op) (m : Letter) (x y : Tree) → operands o ≡ Two letter.Text m → GivesValue o (x ∷ y ∷ []) → IsText x
first_text o m x y e g = let t = taken_two o letter.Text m x y e g in text_of t.0 x t.1

pub second_text : (o : Op) (l : Letter) (x y : Tree) → operands o ≡ Two l letter.Text → GivesValue o (x ∷ y ∷ []) → IsText y
second_text o l x y e g = let t = taken_two o l letter.Text x y e g in text_of t.0 y t.2

pub first_train : (o : Op) (m : Letter) (x y : Tree) → operands o ≡ Two letter.Train m → GivesValue o (x ∷ y ∷ []) → IsTrain x
first_train o m x y e g = let t = taken_two o letter.Train m x y e g in train_of t.0 x t.1

pub second_train : (o : Op) (l : Letter) (x y : Tree) → operands o ≡ Two l letter.Train → GivesValue o (x ∷ y ∷ []) → IsTrain y
second_train o l x y e g = let t = taken_two o l letter.Train x y e g in train_of t.0 y t.2

pub element_like : (o : Op) (x y : Tree) → operands o ≡ Two letter.Element letter.Train → GivesValue o (x ∷ y ∷ []) → IsLike x y
element_like o x y e g = let t = taken_two o letter.Element letter.Train x y e g in like_of t.0 x y t.1 t.2

pub test_train : (o : Op) (x y : Tree) → operands o ≡ Two letter.Element letter.Train → IsTest o (x ∷ y ∷ []) → IsTrain y
test_train o x y e g = let t = subst (λ n. AreTaken n (x ∷ y ∷ [])) e (test_operands o (x ∷ y ∷ []) g) in train_of t.0 y t.2

pub test_like : (o : Op) (x y : Tree) → operands o ≡ Two letter.Element letter.Train → IsTest o (x ∷ y ∷ []) → IsLike x y
test_like o x y e g = let t = subst (λ n. AreTaken n (x ∷ y ∷ [])) e (test_operands o (x ∷ y ∷ []) g) in like_of t.0 x y t.1 t.2
