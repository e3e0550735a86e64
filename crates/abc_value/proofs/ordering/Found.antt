-- A value is found among values exactly where it is one of them.
use Rattle.std.proofs.Common.{◌≡◌, zero, suc, Bool, true, false, List, [], ◌∷◌, refl, ap, ◌∙◌, arith, ◌||◌}
use Rattle.std.specs.List.{Contains}
use Rattle.std.specs.Ordering.{is_eq}
use Rattle.std.specs.declared.cmp.Ordering.{Ordering}
use Rattle.std.specs.declared.cmp.Ordering.TheVariants.{Less, Equal, Greater}
use Rattle.abc_value.specs.Tree.{Tree, trees}
use Rattle.abc_value.specs.Order.{order}
use Rattle.abc_value.specs.Regular.{IsRegular, AllRegular}
use Rattle.abc_value.specs.Changes.{is_element}
use Rattle.abc_value.proofs.ordering.OrderLaws.{order-refl, order-same}

equal_by : (r : Ordering) → is_eq r ≡ true → r ≡ Equal
equal_by Less h = cc
equal_by Equal h = refl
equal_by Greater h = cc

behind : (e x : Tree) (xs : List Tree) → Contains xs e → Contains (x ∷ xs) e
behind e x xs h = (suc h.0, omega (arith, h.1), h.2)

pub element_there : (e : Tree) (xs : List Tree) → IsRegular e → AllRegular (trees xs) → is_element e xs ≡ true → Contains xs e
unfolding AllRegular
element_there e [] i r h = cc
element_there e (x ∷ xs) i r h = by_test e x xs i r.0 (is_eq (order x e)) refl h (element_there e xs i r.1)
  where
    by_test : (e x : Tree) (xs : List Tree) → IsRegular e → IsRegular x → (b : Bool) → is_eq (order x e) ≡ b → (b || is_element e xs) ≡ true → (is_element e xs ≡ true → Contains xs e) → Contains (x ∷ xs) e
    by_test e x xs i j true t h k = (0, omega arith, order-same x e j i (equal_by (order x e) t))
    by_test e x xs i j false t h k = behind e x xs (k h)

or_true : (a b : Bool) → b ≡ true → (a || b) ≡ true
or_true true b h = refl
or_true false b h = h

pub there_element : (e : Tree) (xs : List Tree) → Contains xs e → is_element e xs ≡ true
there_element e [] h = absurd (let l = h.1 in omega arith)
there_element e (x ∷ xs) (zero, l, is) = let t : is_eq (order x e) ≡ true = ap (λ y. is_eq (order y e)) is ∙ ap is_eq (order-refl e) in ap (λ b. b || is_element e xs) t
there_element e (x ∷ xs) (suc n, l, is) = or_true (is_eq (order x e)) (is_element e xs) (there_element e xs (n, omega arith, is))
