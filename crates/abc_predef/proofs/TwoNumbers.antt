-- Which letters take two numbers.
use Rattle.std.proofs.Common.{◌≡◌, refl, true, false, Some}
use Rattle.std.specs.Prelude.{is_some}
use Rattle.abc_value.specs.Tree.{Tree, number, text, compound, list, table, no_trees, more}
use Rattle.abc_value.specs.declared.value.Kind.TheVariants as kind
use Rattle.abc_value.specs.Forms.{a_number, form_of, joined}
use Rattle.abc_value.specs.Parts.{kind_of}
use Rattle.abc_predef.specs.declared.table.Letter.{Letter}
use Rattle.abc_predef.specs.declared.table.Letter.TheVariants as letter
use Rattle.abc_predef.specs.Taken.{element_of}

pub form_of_number : (x : Tree) → kind.Number ≡ kind_of x → form_of x ≡ Some a_number
form_of_number (number n) h = refl
form_of_number (text b) h = cc
form_of_number (compound ts) h = cc
form_of_number (list no_trees) h = cc
form_of_number (list (more t ts)) h = cc
form_of_number (table ps) h = cc

pub none_taken : (l m : Letter) → is_some (element_of l (Some a_number)) ≡ false → is_some (joined (element_of l (Some a_number)) (element_of m (Some a_number))) ≡ false
none_taken letter.Number m h = cc
none_taken letter.Text m h = refl
none_taken letter.Element m h = cc
none_taken letter.Train m h = refl
none_taken letter.Table m h = refl
none_taken letter.List m h = refl
none_taken letter.Words m h = refl

other_taken : (m : Letter) → is_some (joined (Some a_number) (element_of m (Some a_number))) ≡ is_some (element_of m (Some a_number))
other_taken letter.Number = refl
other_taken letter.Text = refl
other_taken letter.Element = refl
other_taken letter.Train = refl
other_taken letter.Table = refl
other_taken letter.List = refl
other_taken letter.Words = refl

pub both_taken : (l m : Letter) → is_some (element_of l (Some a_number)) ≡ true → is_some (joined (element_of l (Some a_number)) (element_of m (Some a_number))) ≡ is_some (element_of m (Some a_number))
both_taken letter.Number letter.Number h = refl
both_taken letter.Number letter.Text h = refl
both_taken letter.Number letter.Element h = refl
both_taken letter.Number letter.Train h = refl
both_taken letter.Number letter.Table h = refl
both_taken letter.Number letter.List h = refl
both_taken letter.Number letter.Words h = refl
both_taken letter.Text m h = cc
both_taken letter.Element m h = other_taken m
both_taken letter.Train m h = cc
both_taken letter.Table m h = cc
both_taken letter.List m h = cc
both_taken letter.Words m h = cc
