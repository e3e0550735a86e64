-- What is kept is the form of the list or of the table.
use Rattle.std.proofs.Common.{◌≡◌, ◌≢◌, ℕ, ◌<◌, List, [], ◌∷◌, length, map, Option, Some, None, refl, ap, ◌∙◌, arith, Global}
use Rattle.std.specs.Option.{option_map}
use Rattle.std.specs.declared.rc.Rc.{Rc}
use Rattle.std.proofs.lemmas.List.{length-map}
use Rattle.abc_value.specs.Tree.{Tree, trees, pairs, list, table}
use Rattle.abc_value.specs.Forms.{Form, a_list, a_table, both, form_of}
use Rattle.abc_value.specs.declared.common.Common.{Common}
use Rattle.abc_value.specs.declared.shape.Shape.{Shape}
use Rattle.abc_value.specs.declared.value.Entry.{Entry}
use Rattle.abc_value.specs.View.{as_pair, entry_keys}
use Rattle.abc_value.specs.inner.Kept.{IsKept, common_form}
use Rattle.abc_value.specs.inner.Keeps.{kept_form, entry_associates}
use Rattle.abc_value.proofs.tables.Keys.{firsts, keys_are}
use Rattle.abc_value.proofs.tables.Columns.{table_form}
use Rattle.abc_value.proofs.forms.ShapeSteps.{list_form}

-- the form that is kept, as the shape was found
pub there : (c : Common) (r : Rc Shape Global) → c.shape ≡ Some r → kept_form c ≡ Some r.value
there c r is = ap (λ (s : Option (Rc Shape Global)). option_map (λ (q : Rc Shape Global). q.value) s) is

pub absent : (c : Common) → c.shape ≡ None → kept_form c ≡ None
absent c is = ap (λ (s : Option (Rc Shape Global)). option_map (λ (q : Rc Shape Global). q.value) s) is

pub list_kept : (o : Option Form) (n : ℕ) (xs ys : List Tree) → xs ≡ ys → (length xs ≡ 0 → ⊥) → IsKept o n xs → option_map a_list o ≡ form_of (list (trees ys))
list_kept o n xs ys is some k = ap (option_map a_list) (k.form (λ h. some (ap length h))) ∙ list_form xs some ∙ ap (λ zs. form_of (list (trees zs))) is

associates_are : (es : List Entry) → entry_associates es ≡ map (λ p. p.1) (map as_pair es)
associates_are [] = refl
associates_are (e ∷ es) = ap (λ vs. e.associate ∷ vs) (associates_are es)

some_column : (part : Entry → Tree) (es fs : List Entry) → es ≡ fs → 0 < length fs → map part es ≢ []
some_column part es fs is some h = omega (arith, ap length h, length-map es part, ap length is)

pub table_kept : (k a : Option Form) (n m : ℕ) (es fs : List Entry) → es ≡ fs → 0 < length fs → IsKept k n (entry_keys es) → IsKept a m (entry_associates es) → both a_table k a ≡ form_of (table (pairs (map as_pair fs)))
table_kept k a n m es fs is some p q =
    let keys : k ≡ common_form (firsts (map as_pair es)) = p.form (some_column (λ (e : Entry). e.key) es fs is some) ∙ ap common_form (keys_are es) in
    let associates : a ≡ common_form (map (λ r. r.1) (map as_pair es)) = q.form (some_column (λ (e : Entry). e.associate) es fs is some) ∙ ap common_form (associates_are es) in
    (λ i. both a_table (keys i) (associates i)) ∙ table_form (map as_pair es) ∙ ap (λ gs. form_of (table (pairs (map as_pair gs)))) is
