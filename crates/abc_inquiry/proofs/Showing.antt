-- What is shown of elements, one after the other, and what of it is still to come.
use Rattle.std.proofs.Common.{◌≡◌, ℕ, zero, suc, ◌+◌, ◌-◌, ◌<◌, ◌≤◌, List, [], ◌∷◌, ◌++◌, length, get_or, drop, slice_get, replicate, Some, None, refl, sym, ap, ◌∙◌, arith}
use Rattle.std.specs.List.{flat_map}
use Rattle.std.proofs.lemmas.List.{drop_more, drop_all}
use Rattle.std.proofs.lemmas.Option.{slice_get_within, get_or_from_slice_get}
use Rattle.abc_tokens.specs.Bytes.{space}
use Rattle.abc_inquiry.specs.Inquiry.{within}

-- the element at a place is shown next
pub next_shown : {X : Type 0} (f : X → List ℕ) (xs : List X) (i : ℕ) (x : X) → i < length xs → x ≡ get_or xs i x → flat_map f (drop i xs) ≡ f x ++ flat_map f (drop (i + 1) xs)
next_shown f xs i x h e = ap (flat_map f) (drop_more xs i x h) ∙ ap (λ y. f y ++ flat_map f (drop (i + 1) xs)) (sym e)

pub found_shown : {X : Type 0} (f : X → List ℕ) (xs : List X) (i : ℕ) (x : X) → slice_get xs i ≡ Some x → flat_map f (drop i xs) ≡ f x ++ flat_map f (drop (i + 1) xs)
found_shown f xs i x look = next_shown f xs i x (slice_get_within xs i x look) (sym (get_or_from_slice_get xs i x x look))

-- past the last one nothing is left
pub all_shown : {X : Type 0} (f : X → List ℕ) (xs : List X) (i : ℕ) → length xs ≤ i → flat_map f (drop i xs) ≡ []
all_shown f xs i h = ap (flat_map f) (drop_all i xs h)

pub none_shown : {X : Type 0} (f : X → List ℕ) (xs : List X) (i : ℕ) → slice_get xs i ≡ None → flat_map f (drop i xs) ≡ []
none_shown f [] zero none = refl
none_shown f [] (suc i) none = refl
none_shown f (x ∷ xs) zero none = absurd (cc)
none_shown f (x ∷ xs) (suc i) none = none_shown f xs i none

pub space_next : (left : ℕ) → 0 < left → replicate left space ≡ (space ∷ []) ++ replicate (left - 1) space
space_next zero h = absurd (omega (arith, h))
space_next (suc left) h = let e : suc left - 1 ≡ left = omega arith in ap (λ n. space ∷ replicate n space) (sym e)
