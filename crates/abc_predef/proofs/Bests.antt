-- The best of some values, one after the other.
use Rattle.std.proofs.Common.{◌≡◌, ℕ, ◌+◌, ◌<◌, List, [], ◌∷◌, ◌++◌, length, take, refl, sym, ap, ◌∙◌, subst, Option, Some, None, Bool, true, cond, Result, inl, inr}
use Rattle.std.specs.Option.{option_map, ok_or}
use Rattle.std.specs.List.{filter}
use Rattle.std.proofs.lemmas.List.{take_more}
use Rattle.std.proofs.lemmas.List.Elements.{filter-append}
use Rattle.abc_value.specs.Tree.{Tree}
use Rattle.abc_value.specs.Items.{elements_of}
use Rattle.abc_tree.specs.declared.operations.Op.{Op}
use Rattle.abc_value.specs.declared.faults.RunFault.{RunFault}
use Rattle.abc_value.specs.declared.faults.ValueFault.{ValueFault}
use Rattle.abc_value.specs.declared.faults.ValueFault.TheVariants.{NoElement}
use Rattle.abc_value.specs.Items.{IsAnswer}
use Rattle.abc_predef.specs.Answers.{IsRowAnswer, of_value_answer}
use Rattle.abc_predef.specs.Rows.{row_of_one}
use Rattle.abc_predef.specs.declared.extremes.Extreme.{Extreme}
use Rattle.abc_predef.specs.declared.extremes.Extreme.TheVariants.{Least, Greatest}
use Rattle.abc_predef.specs.Trains.{better, best_with, best_of, extreme_element}
use Rattle.abc_predef.specs.inner.Places.{element_at, better_with, is_wanted, IsPlaceOfBest}

with_more : (end : Extreme) (y : Tree) (xs : List Tree) (x : Tree) → best_with end y (xs ++ x ∷ []) ≡ better end (best_with end y xs) x
with_more end y [] x = refl
with_more end y (z ∷ xs) x = with_more end (better end y z) xs x

-- the best with one more is the better one of the best and that
pub best_more : (end : Extreme) (xs : List Tree) (x : Tree) → best_of end (xs ++ x ∷ []) ≡ Some (better_with end (best_of end xs) x)
best_more end [] x = refl
best_more end (y ∷ xs) x = ap Some (with_more end y xs x)

-- where the next is wanted, and stands at the place of the better one
pub best_moves : (end : Extreme) (t : Tree) (xs : List Tree) (f : Tree → Bool) (x : Tree) (best : Option ℕ) (place : ℕ) → f x ≡ true → place < length (elements_of t) → element_at t place ≡ better_with end (option_map (element_at t) best) x → IsPlaceOfBest end t xs best → IsPlaceOfBest end t (xs ++ filter f (x ∷ [])) (Some place)
best_moves end t xs f x None place e l is h =
    (l, ap (λ b. best_of end (xs ++ cond b (x ∷ []) [])) e ∙ best_more end xs x ∙ ap (λ o. Some (better_with end o x)) h ∙ ap Some (sym is))
best_moves end t xs f x (Some k) place e l is h =
    (l, ap (λ b. best_of end (xs ++ cond b (x ∷ []) [])) e ∙ best_more end xs x ∙ ap (λ o. Some (better_with end o x)) h.1 ∙ ap Some (sym is))

-- the elements that are wanted, with one more
pub wanted_more : (f : Tree → Bool) (t : Tree) (i : ℕ) → i < length (elements_of t) → filter f (take (i + 1) (elements_of t)) ≡ filter f (take i (elements_of t)) ++ filter f (element_at t i ∷ [])
wanted_more f t i h = ap (filter f) (take_more (elements_of t) i t h) ∙ filter-append f (take i (elements_of t)) (element_at t i ∷ [])

-- where there is no e, all are wanted
pub all_wanted : (end : Extreme) (xs : List Tree) → filter (is_wanted end None) xs ≡ xs
all_wanted Least [] = refl
all_wanted Least (x ∷ xs) = ap (λ ys. x ∷ ys) (all_wanted Least xs)
all_wanted Greatest [] = refl
all_wanted Greatest (x ∷ xs) = ap (λ ys. x ∷ ys) (all_wanted Greatest xs)

as_row : (a r : Result Tree ValueFault) → IsAnswer a r → IsRowAnswer (of_value_answer a) (of_value_answer r)
as_row a r (inl e) = inl (ap of_value_answer e)
as_row a r (inr e) = inr (ap of_value_answer e)

-- the best of all is the row's
pub extreme_is : (end : Extreme) (t : Tree) (o : Op) (r : Result Tree ValueFault) (s : Result Tree RunFault) → row_of_one o t ≡ of_value_answer (extreme_element end t) → IsAnswer (ok_or (best_of end (filter (is_wanted end None) (elements_of t))) NoElement) r → s ≡ of_value_answer r → IsRowAnswer (row_of_one o t) s
extreme_is end t o r s e a is =
    let P : List Tree → Type 0 = λ xs. IsAnswer (ok_or (best_of end xs) NoElement) r in
    let b = subst P (all_wanted end (elements_of t)) a in
    let Q : Result Tree RunFault → Type 0 = λ answer. IsRowAnswer answer s in
    subst Q (sym e) (subst (IsRowAnswer (of_value_answer (extreme_element end t))) (sym is) (as_row (extreme_element end t) r b))
