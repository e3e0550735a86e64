-- The results of the operations on trains, which are texts, lists and tables.
use Rattle.std.specs.Prelude.{ℕ, List, [], ◌∷◌, Bool, if◌then◌else◌, Option, None, Some, Result}
use Rattle.std.specs.Option.{ok_or}
use Rattle.std.specs.declared.cmp.Ordering.{Ordering}
use Rattle.std.specs.Ordering.{is_eq, is_lt, is_gt}
use Rattle.std.specs.List.{filter, list_any, count_by}
use Rattle.abc_value.specs.declared.faults.ValueFault.{ValueFault}
use Rattle.abc_value.specs.declared.faults.ValueFault.TheVariants.{NoElement}
use Rattle.abc_value.specs.Tree.{Tree}
use Rattle.abc_value.specs.Order.{order}
use Rattle.abc_value.specs.Items.{elements_of}
use Rattle.abc_predef.specs.declared.extremes.Extreme.{Extreme}
use Rattle.abc_predef.specs.declared.extremes.Extreme.TheVariants.{Least, Greatest}

-- whether x is the better one, by the order of x and y: the less for the least, the greater for the greatest
abbrev pub is_better : Extreme → Ordering → Bool
is_better Least o = is_lt o
is_better Greatest o = is_gt o

-- the lesser or the greater of two values
abbrev pub better : Extreme → Tree → Tree → Tree
better end x y = if is_better end (order y x) then y else x

-- the least or the greatest of x and some values
abbrev pub best_with : Extreme → Tree → List Tree → Tree
best_with end x [] = x
best_with end x (y ∷ ys) = best_with end (better end x y) ys

-- the least or the greatest of some values, if there is one
abbrev pub best_of : Extreme → List Tree → Option Tree
best_of end [] = None
best_of end (x ∷ xs) = Some (best_with end x xs)

-- the least or the greatest element
abbrev pub extreme_element : Extreme → Tree → Result Tree ValueFault
extreme_element end t = ok_or (best_of end (elements_of t)) NoElement

-- the least element that is greater than e
abbrev pub least_above : Tree → Tree → Result Tree ValueFault
least_above e t = ok_or (best_of Least (filter (λ x. is_gt (order x e)) (elements_of t))) NoElement

-- the greatest element that is less than e
abbrev pub greatest_below : Tree → Tree → Result Tree ValueFault
greatest_below e t = ok_or (best_of Greatest (filter (λ x. is_lt (order x e)) (elements_of t))) NoElement

-- how many elements equal e
abbrev pub count_of : Tree → Tree → ℕ
count_of e t = count_by (λ x. is_eq (order x e)) (elements_of t)

-- whether an element equals e
abbrev pub is_in : Tree → Tree → Bool
is_in e t = list_any (λ x. is_eq (order x e)) (elements_of t)
