-- Texts that are equal or not, and lists that are made by a map.
use Rattle.std.proofs.Common.{◌≡◌, ℕ, zero, suc, Bool, true, false, List, [], ◌∷◌, map, refl, sym, ap, ◌∙◌, arith}
use Rattle.std.specs.List.{Contains}
use Rattle.std.specs.declared.cmp.Ordering.TheVariants.{Less, Equal}
use Rattle.std.specs.Cmp.Lexicographic.{nat_list_cmp_total}
use Rattle.std.proofs.lemmas.Cmp.{tied_itself}
use Rattle.std.proofs.lemmas.Map.Lookups.{exact_bytes}
use Rattle.abc_num.specs.Text.{text_cmp, text_eq}
use Rattle.abc_num.proofs.Texts.{text_eq-Decides}

pub itself : (s : List ℕ) → text_cmp s s ≡ Equal
itself s = tied_itself nat_list_cmp_total s

pub one_text : (s t : List ℕ) → text_cmp s t ≡ Equal → s ≡ t
one_text s t e = exact_bytes s t e

pub apart : (s t : List ℕ) → text_cmp s t ≡ Less → s ≡ t → ⊥
apart s t less e = let f : Equal ≡ Less = sym (itself s) ∙ ap (text_cmp s) e ∙ less in cc

pub untrue : (b : Bool) → (b ≡ true → ⊥) → b ≡ false
untrue true n = absurd (n refl)
untrue false n = refl

pub eq_no : (s t : List ℕ) → (s ≡ t → ⊥) → text_eq s t ≡ false
eq_no s t n = untrue (text_eq s t) (λ e. n ((text_eq-Decides s t).0 e))

pub eq_yes : (s t : List ℕ) → s ≡ t → text_eq s t ≡ true
eq_yes s t e = (text_eq-Decides s t).1 e

-- an element of a list that a map made
pub contains_map : {X Y : Type 0} (f : X → Y) (xs : List X) (y : Y) → Contains (map f xs) y → (x : X) × Contains xs x × (f x ≡ y)
contains_map f [] y c = absurd (omega (arith, c.1))
contains_map f (x ∷ xs) y (zero, h, e) = (x, (zero, omega arith, refl), e)
contains_map f (x ∷ xs) y (suc i, h, e) = let r = contains_map f xs y (i, omega (arith, h), e) in (r.0, (suc r.1.0, omega (arith, r.1.1), r.1.2), r.2)

pub map_contains : {X Y : Type 0} (f : X → Y) (xs : List X) (x : X) → Contains xs x → Contains (map f xs) (f x)
map_contains f [] x c = absurd (omega (arith, c.1))
map_contains f (y ∷ xs) x (zero, h, e) = (zero, omega arith, ap f e)
map_contains f (y ∷ xs) x (suc i, h, e) = let r = map_contains f xs x (i, omega (arith, h), e) in (suc r.0, omega (arith, r.1), r.2)
