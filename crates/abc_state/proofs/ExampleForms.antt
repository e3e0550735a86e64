-- Forms of examples, from the last to the first.
use Rattle.std.proofs.Common.{◌≡◌, List, [], ◌∷◌, ◌++◌, Option, Some, None, map, refl, sym, ap, ◌∙◌, rules}
use Rattle.abc_tree.specs.declared.formulas.Expr.{Expr, the_lemmas as exprs}
use Rattle.abc_tree.specs.declared.formulas.Expr.TheVariants.{Table}
use Rattle.abc_tree.specs.declared.formulas.Pair.{Pair}
use Rattle.abc_value.specs.Forms.{Form, anything, a_table, both, joined}
use Rattle.abc_meaning.specs.Fits.{example_form, forms_in, fields_in}
use Rattle.abc_state.specs.inner.Examples.{forms_onto, pair_example, key_example, associate_example}

pub forms_all : (xs : List (Option Form)) → forms_in xs ≡ forms_onto xs (Some anything)
forms_all [] = refl
forms_all (x ∷ xs) = ap (joined x) (forms_all xs)

pub onto_last : (xs : List (Option Form)) (x s : Option Form) → forms_onto (xs ++ x ∷ []) s ≡ forms_onto xs (joined x s)
onto_last [] x s = refl
onto_last (y ∷ xs) x s = ap (joined y) (onto_last xs x s)

pub fields_there : (fs : List Form) → fields_in (map (λ f. Some f) fs) ≡ Some fs
fields_there [] = refl
fields_there (f ∷ fs) = ap (both (λ f fs. f ∷ fs) (Some f)) (fields_there fs)

pub fields_lost : (fs : List Form) (rest : List (Option Form)) → fields_in (map (λ f. Some f) fs ++ None ∷ rest) ≡ None
fields_lost [] rest = refl
fields_lost (f ∷ fs) rest = ap (both (λ f fs. f ∷ fs) (Some f)) (fields_lost fs rest)

keys_first : (ps : List Pair) → map (λ p. p.0) (map pair_example ps) ≡ map key_example ps
keys_first [] = refl
keys_first (p ∷ ps) = ap (λ l. key_example p ∷ l) (keys_first ps)

associates_second : (ps : List Pair) → map (λ p. p.1) (map pair_example ps) ≡ map associate_example ps
associates_second [] = refl
associates_second (p ∷ ps) = ap (λ l. associate_example p ∷ l) (associates_second ps)

pub table_example : (e : Expr) (ps : List Pair) → e ≡ Table ps → both a_table (forms_in (map key_example ps)) (forms_in (map associate_example ps)) ≡ example_form e
table_example e ps h =
    let t : example_form (Table ps) ≡ both a_table (forms_in (map (λ p. p.0) (map pair_example ps))) (forms_in (map (λ p. p.1) (map pair_example ps))) = search (rules, exprs) in
    sym (ap example_form h ∙ t ∙ (λ i. both a_table (forms_in (keys_first ps i)) (forms_in (associates_second ps i))))
