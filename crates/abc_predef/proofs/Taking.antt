-- Operands of known types are taken: for the tests.
use Rattle.std.proofs.Common.{◌≡◌, refl, sym, subst, List, [], ◌∷◌, inl, inr}
use Rattle.std.specs.Prelude.{IsSome, IsNone}
use Rattle.abc_num.specs.declared.types.Ground.{Ground}
use Rattle.abc_num.specs.declared.types.Ground.TheVariants as type
use Rattle.abc_tree.specs.declared.operations.Op.{Op}
use Rattle.abc_value.specs.Tree.{Tree, number, text, compound, list, table, trees, pairs}
use Rattle.abc_value.specs.Types.{has}
use Rattle.abc_value.specs.Parts.{IsText, parts_of, pairs_of}
use Rattle.abc_value.specs.Changes.{add, with_pair}
use Rattle.abc_predef.specs.declared.table.Letter.TheVariants as letter
use Rattle.abc_predef.specs.declared.table.Operands.{Operands}
use Rattle.abc_predef.specs.declared.table.Operands.TheVariants.{One, Two}
use Rattle.abc_predef.specs.Takes.{IsNumeric, AreTaken, GivesValue, IsTest}
use Rattle.abc_predef.specs.Signatures.{operands, result_of}
use Rattle.abc_predef.proofs.Typed.{typed_parts, add_typed, list_of_type, typed_pairs, with_typed}

gives : (o : Op) (l : Operands) (xs : List Tree) → operands o ≡ l → IsSome (result_of o) → AreTaken l xs → GivesValue o xs
unfolding GivesValue
gives o l xs e s a = (s, subst (λ m. AreTaken m xs) (sym e) a)

tests : (o : Op) (l : Operands) (xs : List Tree) → operands o ≡ l → IsNone (result_of o) → AreTaken l xs → IsTest o xs
unfolding IsTest
tests o l xs e s a = (s, subst (λ m. AreTaken m xs) (sym e) a)

numeric_has : (t : Tree) → IsNumeric t → has t type.Number
numeric_has (number n) h = refl
numeric_has (text b) h = absurd h
numeric_has (compound ts) h = absurd h
numeric_has (list ts) h = absurd h
numeric_has (table ps) h = absurd h

text_has : (t : Tree) → IsText t → has t type.Text
text_has (number n) h = absurd h
text_has (text b) h = refl
text_has (compound ts) h = absurd h
text_has (list ts) h = absurd h
text_has (table ps) h = absurd h

abbrev pub numbers : Ground
numbers = type.List type.Number

abbrev pub texts : Ground
texts = type.Table type.Number type.Text

pub one_number : (o : Op) → operands o ≡ One letter.Number → IsSome (result_of o) → (x : Tree) → IsNumeric x → GivesValue o (x ∷ [])
one_number o e s x h = gives o (One letter.Number) (x ∷ []) e s (type.Number, (type.Number, refl, numeric_has x h))

pub two_numbers : (o : Op) → operands o ≡ Two letter.Number letter.Number → IsSome (result_of o) → (x y : Tree) → IsNumeric x → IsNumeric y → GivesValue o (x ∷ y ∷ [])
two_numbers o e s x y h k =
    gives o (Two letter.Number letter.Number) (x ∷ y ∷ []) e s (type.Number, (type.Number, refl, numeric_has x h), (type.Number, refl, numeric_has y k))

pub number_aligned : (o : Op) → operands o ≡ Two letter.Element letter.Number → IsSome (result_of o) → (x y : Tree) → IsNumeric x → IsNumeric y → GivesValue o (x ∷ y ∷ [])
number_aligned o e s x y h k =
    gives o (Two letter.Element letter.Number) (x ∷ y ∷ []) e s (type.Number, (type.Number, refl, numeric_has x h), (type.Number, refl, numeric_has y k))

pub numbers_tested : (o : Op) → operands o ≡ Two letter.Element letter.Element → IsNone (result_of o) → (x y : Tree) → IsNumeric x → IsNumeric y → IsTest o (x ∷ y ∷ [])
numbers_tested o e s x y h k =
    tests o (Two letter.Element letter.Element) (x ∷ y ∷ []) e s (type.Number, (type.Number, refl, numeric_has x h), (type.Number, refl, numeric_has y k))

pub one_text : (o : Op) → operands o ≡ One letter.Text → IsSome (result_of o) → (x : Tree) → IsText x → GivesValue o (x ∷ [])
one_text o e s x h = gives o (One letter.Text) (x ∷ []) e s (type.Text, (type.Text, refl, text_has x h))

pub train_of_text : (o : Op) → operands o ≡ One letter.Train → IsSome (result_of o) → (x : Tree) → IsText x → GivesValue o (x ∷ [])
train_of_text o e s x h = gives o (One letter.Train) (x ∷ []) e s (type.Text, (type.Text, inl (refl, refl), text_has x h))

pub two_texts : (o : Op) → operands o ≡ Two letter.Text letter.Text → IsSome (result_of o) → (x y : Tree) → IsText x → IsText y → GivesValue o (x ∷ y ∷ [])
two_texts o e s x y h k =
    gives o (Two letter.Text letter.Text) (x ∷ y ∷ []) e s (type.Text, (type.Text, refl, text_has x h), (type.Text, refl, text_has y k))

pub text_in_text : (o : Op) → operands o ≡ Two letter.Element letter.Train → IsSome (result_of o) → (x y : Tree) → IsText x → IsText y → GivesValue o (x ∷ y ∷ [])
text_in_text o e s x y h k =
    gives o (Two letter.Element letter.Train) (x ∷ y ∷ []) e s (type.Text, (type.Text, refl, text_has x h), (type.Text, inl (refl, refl), text_has y k))

pub text_tested : (o : Op) → operands o ≡ Two letter.Element letter.Train → IsNone (result_of o) → (x y : Tree) → IsText x → IsText y → IsTest o (x ∷ y ∷ [])
text_tested o e s x y h k =
    tests o (Two letter.Element letter.Train) (x ∷ y ∷ []) e s (type.Text, (type.Text, refl, text_has x h), (type.Text, inl (refl, refl), text_has y k))

pub texts_tested : (o : Op) → operands o ≡ Two letter.Element letter.Element → IsNone (result_of o) → (x y : Tree) → IsText x → IsText y → IsTest o (x ∷ y ∷ [])
texts_tested o e s x y h k =
    tests o (Two letter.Element letter.Element) (x ∷ y ∷ []) e s (type.Text, (type.Text, refl, text_has x h), (type.Text, refl, text_has y k))

pub text_and_number : (o : Op) → operands o ≡ Two letter.Text letter.Number → IsSome (result_of o) → (x y : Tree) → IsText x → IsNumeric y → GivesValue o (x ∷ y ∷ [])
text_and_number o e s x y h k =
    gives o (Two letter.Text letter.Number) (x ∷ y ∷ []) e s (type.Text, (type.Text, refl, text_has x h), (type.Number, refl, numeric_has y k))

pub text_aligned : (o : Op) → operands o ≡ Two letter.Element letter.Number → IsSome (result_of o) → (x y : Tree) → IsText x → IsNumeric y → GivesValue o (x ∷ y ∷ [])
text_aligned o e s x y h k =
    gives o (Two letter.Element letter.Number) (x ∷ y ∷ []) e s (type.Text, (type.Text, refl, text_has x h), (type.Number, refl, numeric_has y k))

pub item_of_text : (o : Op) → operands o ≡ Two letter.Train letter.Number → IsSome (result_of o) → (x y : Tree) → IsText x → IsNumeric y → GivesValue o (x ∷ y ∷ [])
item_of_text o e s x y h k =
    gives o (Two letter.Train letter.Number) (x ∷ y ∷ []) e s (type.Text, (type.Text, inl (refl, refl), text_has x h), (type.Number, refl, numeric_has y k))

pub one_list : (o : Op) → operands o ≡ One letter.Train → IsSome (result_of o) → (x : Tree) → has x numbers → GivesValue o (x ∷ [])
one_list o e s x h = gives o (One letter.Train) (x ∷ []) e s (type.Number, (numbers, inr (inl refl), h))

pub number_in_list : (o : Op) → operands o ≡ Two letter.Element letter.Train → IsSome (result_of o) → (x y : Tree) → IsNumeric x → has y numbers → GivesValue o (x ∷ y ∷ [])
number_in_list o e s x y h k =
    gives o (Two letter.Element letter.Train) (x ∷ y ∷ []) e s (type.Number, (type.Number, refl, numeric_has x h), (numbers, inr (inl refl), k))

pub number_tested : (o : Op) → operands o ≡ Two letter.Element letter.Train → IsNone (result_of o) → (x y : Tree) → IsNumeric x → has y numbers → IsTest o (x ∷ y ∷ [])
number_tested o e s x y h k =
    tests o (Two letter.Element letter.Train) (x ∷ y ∷ []) e s (type.Number, (type.Number, refl, numeric_has x h), (numbers, inr (inl refl), k))

pub list_aligned : (o : Op) → operands o ≡ Two letter.Element letter.Number → IsSome (result_of o) → (x y : Tree) → has x numbers → IsNumeric y → GivesValue o (x ∷ y ∷ [])
list_aligned o e s x y h k =
    gives o (Two letter.Element letter.Number) (x ∷ y ∷ []) e s (numbers, (numbers, refl, h), (type.Number, refl, numeric_has y k))

pub item_of_list : (o : Op) → operands o ≡ Two letter.Train letter.Number → IsSome (result_of o) → (x y : Tree) → has x numbers → IsNumeric y → GivesValue o (x ∷ y ∷ [])
item_of_list o e s x y h k =
    gives o (Two letter.Train letter.Number) (x ∷ y ∷ []) e s (type.Number, (numbers, inr (inl refl), h), (type.Number, refl, numeric_has y k))

pub one_table : (o : Op) → operands o ≡ One letter.Table → IsSome (result_of o) → (x : Tree) → has x texts → GivesValue o (x ∷ [])
one_table o e s x h = gives o (One letter.Table) (x ∷ []) e s (type.Number, (texts, (type.Text, refl), h))

pub train_of_table : (o : Op) → operands o ≡ One letter.Train → IsSome (result_of o) → (x : Tree) → has x texts → GivesValue o (x ∷ [])
train_of_table o e s x h = gives o (One letter.Train) (x ∷ []) e s (type.Text, (texts, inr (inr (type.Number, refl)), h))

pub text_in_table : (o : Op) → operands o ≡ Two letter.Element letter.Train → IsSome (result_of o) → (x y : Tree) → IsText x → has y texts → GivesValue o (x ∷ y ∷ [])
text_in_table o e s x y h k =
    gives o (Two letter.Element letter.Train) (x ∷ y ∷ []) e s (type.Text, (type.Text, refl, text_has x h), (texts, inr (inr (type.Number, refl)), k))

pub number_added : (t e new : Tree) → has t numbers → IsNumeric e → new ≡ list (trees (add e (parts_of t))) → has new numbers
number_added t e new h k is =
    subst (λ u. has u numbers) (sym is) (list_of_type (add e (parts_of t)) type.Number (add_typed e (parts_of t) type.Number (numeric_has e k) (typed_parts t type.Number h)))

pub pair_put : (t k a new : Tree) → has t texts → IsNumeric k → IsText a → new ≡ table (pairs (with_pair k a (pairs_of t))) → has new texts
pair_put t k a new h i j is =
    subst (λ u. has u texts) (sym is)
    (type.Number, type.Text, refl, with_typed k a (pairs_of t) type.Number type.Text (numeric_has k i) (text_has a j) (typed_pairs t type.Number type.Text h))
