-- Whether some types fit what a node works on. Where none do, its meaning is wrong.
use Rattle.std.specs.Prelude.{Bool, true, false, ◌&&◌, List, [], ◌∷◌, Option, Some, None, option_map, option_and_then, is_some, map, is_none}
use Rattle.abc_tree.specs.declared.operations.Op.{Op}
use Rattle.abc_tree.specs.declared.formulas.Expr.{Expr, fold-Expr}
use Rattle.abc_tree.specs.declared.formulas.Expr.TheOpen.{Expr-F, Fill-F, Piece-F, Pair-F}
use Rattle.abc_value.specs.Tree.{Tree, number, text}
use Rattle.abc_value.specs.Items.{elements_of}
use Rattle.abc_value.specs.Forms.{Form, anything, a_number, a_text, a_compound, a_list, a_table, forms, joined, both, form_of, elements_form}
use Rattle.abc_predef.specs.Signatures.{operands, result_of}
use Rattle.abc_predef.specs.Taken.{are_taken}

-- some type is of both forms
abbrev pub agree : Option Form → Option Form → Bool
agree s t = is_some (joined s t)

-- the value has some type; one that has none fits no rule
abbrev pub has_type : Tree → Bool
has_type v = is_some (form_of v)

-- some types fit a table, a key and what stands there, if its form is this
abbrev pub fits_table : Tree → Tree → Option Form → Bool
fits_table t k a = agree (form_of t) (both a_table (form_of k) a)

-- some type fits a list and an element
abbrev pub fits_list : Tree → Tree → Bool
fits_list t v = agree (form_of t) (option_map a_list (form_of v))

-- a row that gives a value takes the operands
abbrev pub gives_value : Op → List Tree → Bool
gives_value op vs = is_some (result_of op) && are_taken (operands op) vs

-- a row that is a test takes the operands
abbrev pub is_test : Op → List Tree → Bool
is_test op vs = is_none (result_of op) && are_taken (operands op) vs

-- the elements of a train
abbrev pub train_elements : Tree → Option (List Tree)
train_elements t = option_map (λ _. elements_of t) (option_and_then elements_form (form_of t))

-- both are numbers, or both are texts
abbrev pub have_range : Tree → Tree → Bool
have_range (number x) (number y) = true
have_range (text b) (text c) = true
have_range _ _ = false

-- the form of the type of an example: a literal without `{}`
abbrev pub forms_in : List (Option Form) → Option Form
forms_in [] = Some anything
forms_in (s ∷ ss) = joined s (forms_in ss)

abbrev pub fields_in : List (Option Form) → Option (List Form)
fields_in [] = Some []
fields_in (s ∷ ss) = both (λ f fs. f ∷ fs) s (fields_in ss)

abbrev pub fill_form : Fill-F (Option Form) (Option Form) (Option Form) (Option Form × Option Form) → Option Form
fill_form (Fill-F.One e) = e
fill_form (Fill-F.Range p q) = None

abbrev pub piece_form : Piece-F (Option Form) (Option Form) (Option Form) (Option Form × Option Form) → Option Form
piece_form (Piece-F.Chars b) = Some a_text
piece_form (Piece-F.Conversion e) = None

abbrev pub pair_form : Pair-F (Option Form) (Option Form) (Option Form) (Option Form × Option Form) → Option Form × Option Form
pair_form p = (p.key, p.associate)

abbrev pub literal_form : Expr-F (Option Form) (Option Form) (Option Form) (Option Form × Option Form) → Option Form
literal_form (Expr-F.Number n) = Some a_number
literal_form (Expr-F.Text pieces) = joined (Some a_text) (forms_in pieces)
literal_form (Expr-F.Compound es) = option_map (λ fs. a_compound (forms fs)) (fields_in es)
literal_form (Expr-F.List fills) = option_map a_list (forms_in fills)
literal_form (Expr-F.Table pairs) = both a_table (forms_in (map (λ p. p.0) pairs)) (forms_in (map (λ p. p.1) pairs))
literal_form (Expr-F.Apply1 op x) = joined (Some a_number) x
literal_form (Expr-F.Apply2 op x y) = joined (Some a_number) (joined x y)
literal_form _ = None

abbrev pub example_form : Expr → Option Form
example_form = fold-Expr (Option Form) (Option Form) (Option Form) (Option Form × Option Form) literal_form fill_form piece_form pair_form
