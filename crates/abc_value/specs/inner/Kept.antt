-- What is kept beside the parts of a list or a table: the form that they have together, and how many have this very form.
use Rattle.std.specs.Prelude.{◌≡◌, ◌≢◌, ℕ, ◌+◌, ◌≤◌, List, [], ◌∷◌, Bool, true, false, ◌&&◌, Option, None, Some, if◌then◌else◌}
use Rattle.abc_value.specs.Tree.{Tree, trees}
use Rattle.abc_value.specs.Forms.{Form, Forms, anything, a_number, a_text, a_collection, a_compound, a_list, a_table, no_forms, more_forms, join, form_of, common}

abbrev mutual
  -- whether two forms are one
  pub same_form : Form → Form → Bool
  same_form anything anything = true
  same_form a_number a_number = true
  same_form a_text a_text = true
  same_form a_collection a_collection = true
  same_form (a_compound ss) (a_compound ts) = same_forms ss ts
  same_form (a_list s) (a_list t) = same_form s t
  same_form (a_table k a) (a_table l b) = same_form k l && same_form a b
  same_form _ _ = false

  pub same_forms : Forms → Forms → Bool
  same_forms no_forms no_forms = true
  same_forms (more_forms s ss) (more_forms t ts) = same_form s t && same_forms ss ts
  same_forms _ _ = false

-- whether there is a form, and it is s
abbrev pub is_form : Option Form → Form → Bool
is_form None s = false
is_form (Some t) s = same_form t s

-- n where the test holds, else none
abbrev pub counted : Bool → ℕ → ℕ
counted b n = if b then n else 0

-- how many of these values have the form s
abbrev pub wholes : Form → List Tree → ℕ
wholes s [] = 0
wholes s (t ∷ ts) = counted (is_form (form_of t) s) 1 + wholes s ts

-- the form that these values have together, if they have one
abbrev pub common_form : List Tree → Option Form
common_form ts = common (Some anything) (trees ts)

-- so many of these values at least have the form, if there is one
abbrev pub AreWhole : Option Form → ℕ → List Tree → Type 0
AreWhole None n ts = Unit {0}
AreWhole (Some s) n ts = n ≤ wholes s ts

-- the form is that of all these values, and so many at least have it
pub record IsKept (o : Option Form) (n : ℕ) (ts : List Tree) : Type 0 where
  pub form : ts ≢ [] → o ≡ common_form ts
  pub whole : AreWhole o n ts

-- the second form is there, and its types are of the first
abbrev pub IsWithin : Option Form → Option Form → Type 0
IsWithin (Some s) (Some t) = join s t ≡ Some t
IsWithin _ _ = ⊥
