-- Whether a row takes its operands, computed by their forms.
use Rattle.std.specs.Prelude.{◌↔◌, List, [], ◌∷◌, Option, None, Some, Bool, false, is_some, IsTrue}
use Rattle.abc_value.specs.Tree.{Tree}
use Rattle.abc_value.specs.Forms.{Form, anything, a_number, a_text, a_collection, a_list, a_table, joined, form_of, elements_form}
use Rattle.abc_predef.specs.declared.table.Letter.{Letter}
use Rattle.abc_predef.specs.declared.table.Letter.TheVariants as letter
use Rattle.abc_predef.specs.declared.table.Operands.{Operands}
use Rattle.abc_predef.specs.declared.table.Operands.TheVariants.{One, Two}
use Rattle.abc_predef.specs.Takes.{AreTaken}

-- any type, where the form is there
abbrev pub any_of : Option Form → Option Form
any_of None = None
any_of (Some s) = Some anything

-- what a form gives, where it is there
abbrev pub in_form : (Form → Option Form) → Option Form → Option Form
in_form f None = None
in_form f (Some s) = f s

-- the form of the keys of tables of a form
abbrev pub keys_form : Form → Option Form
keys_form anything = Some anything
keys_form a_collection = Some anything
keys_form (a_table k a) = Some k
keys_form _ = None

-- the form of the elements of lists of a form
abbrev pub lists_form : Form → Option Form
lists_form anything = Some anything
lists_form a_collection = Some anything
lists_form (a_list s) = Some s
lists_form _ = None

-- the form of the types e of the row, where a value of this form has a type for which the letter stands
abbrev pub element_of : Letter → Option Form → Option Form
element_of letter.Number s = any_of (joined s (Some a_number))
element_of letter.Text s = any_of (joined s (Some a_text))
element_of letter.Element s = s
element_of letter.Train s = in_form elements_form s
element_of letter.Table s = in_form keys_form s
element_of letter.List s = in_form lists_form s
element_of letter.Words s = any_of (joined s (Some (a_table a_number a_text)))

-- whether types for the letters exist such that each operand has its type
abbrev pub are_taken : Operands → List Tree → Bool
are_taken (One l) (x ∷ []) = is_some (element_of l (form_of x))
are_taken (Two l m) (x ∷ y ∷ []) = is_some (joined (element_of l (form_of x)) (element_of m (form_of y)))
are_taken _ _ = false

-- operands are taken exactly where this is computed
abbrev pub TakenIsExact : Type 0
TakenIsExact = (o : Operands) (xs : List Tree) → AreTaken o xs ↔ IsTrue (are_taken o xs)
