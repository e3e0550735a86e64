-- What holds of the elements of lists: of those of two lists in a row, and what follows for each.
use Rattle.std.proofs.Common.{◌+◌, List, [], ◌∷◌, ◌++◌, length, subst, arith, length-append}
use Rattle.std.specs.Prelude.{All}
use Rattle.std.specs.List.{AllByRecursion}
use Rattle.std.proofs.Math.ListN.{get_or-append}
use Rattle.std.proofs.lemmas.List.{get_or-append-add}

pub All-front : {X : Type 0} (P : X → Type 0) (xs ys : List X) → All P (xs ++ ys) → All P xs
All-front P xs ys m k d h = subst (λ y. P y) (get_or-append xs ys d k h) (m k d (omega (arith, length-append xs ys)))

pub All-behind : {X : Type 0} (P : X → Type 0) (xs ys : List X) → All P (xs ++ ys) → All P ys
All-behind P xs ys m k d h = subst (λ y. P y) (get_or-append-add xs ys k d) (m (length xs + k) d (omega (arith, length-append xs ys)))

pub each_weaker : {X : Type 0} (P Q : X → Type 0) → ((x : X) → P x → Q x) → (xs : List X) → AllByRecursion P xs → AllByRecursion Q xs
each_weaker P Q f [] h = tt
each_weaker P Q f (x ∷ xs) h = (f x h.0, each_weaker P Q f xs h.1)
