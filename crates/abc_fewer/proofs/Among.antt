-- Elements of lists, and texts that are taken out of one.
use Rattle.std.proofs.Common.{◌≡◌, ◌∙◌, ◌<◌, ◌⊎◌, inl, inr, ℕ, zero, suc, Bool, true, false, List, [], ◌∷◌, map, length, ap, sym, refl, arith}
use Rattle.std.specs.List.{Contains}
use Rattle.abc_num.specs.Text.{text_eq}
use Rattle.abc_num.proofs.Texts.{text_eq-Decides}

abbrev pub Decided : Type 0 → Type 0
Decided P = P ⊎ (P → ⊥)

-- two texts are one, or not
pub same_or : (s t : List ℕ) → Decided (s ≡ t)
same_or s t = by_test (text_eq s t) refl
  where
    by_test : (b : Bool) → text_eq s t ≡ b → Decided (s ≡ t)
    by_test true is = inl ((text_eq-Decides s t).0 is)
    by_test false is = inr (λ e. let f : true ≡ false = sym ((text_eq-Decides s t).1 e) ∙ is in cc)

module _ {X : Type 0} where
  pub at_first : (x y : X) (xs : List X) → x ≡ y → Contains (x ∷ xs) y
  at_first x y xs e = (zero, omega arith, e)

  pub at_later : (y : X) (xs : List X) (x : X) → Contains xs x → Contains (y ∷ xs) x
  at_later y xs x c = (suc c.0, omega (arith, c.1), c.2)

  pub no_element : (x : X) → Contains [] x → ⊥
  no_element x c = omega (arith, c.1)

  pub either : (y : X) (xs : List X) (x : X) → Contains (y ∷ xs) x → (y ≡ x) ⊎ Contains xs x
  either y xs x (zero, lt, e) = inl e
  either y xs x (suc i, lt, e) = inr (i, omega (arith, lt), e)

-- an element of a list that a map made
pub contains_map : {X Y : Type 0} (f : X → Y) (xs : List X) (y : Y) → Contains (map f xs) y → (x : X) × Contains xs x × (f x ≡ y)
contains_map f [] y c = absurd (no_element y c)
contains_map f (x ∷ xs) y c = by_place (either (f x) (map f xs) y c) (contains_map f xs y)
  where
    by_place : (f x ≡ y) ⊎ Contains (map f xs) y → (Contains (map f xs) y → (z : _) × Contains xs z × (f z ≡ y)) → (z : _) × Contains (x ∷ xs) z × (f z ≡ y)
    by_place (inl e) rest = (x, at_first x x xs refl, e)
    by_place (inr m) rest = let r = rest m in (r.0, at_later x xs r.0 r.1, r.2)

pub map_contains : {X Y : Type 0} (f : X → Y) (xs : List X) (x : X) → Contains xs x → Contains (map f xs) (f x)
map_contains f [] x c = absurd (no_element x c)
map_contains f (y ∷ xs) x c = by_place (either y xs x c) (map_contains f xs x)
  where
    by_place : (y ≡ x) ⊎ Contains xs x → (Contains xs x → Contains (map f xs) (f x)) → Contains (map f (y ∷ xs)) (f x)
    by_place (inl e) rest = at_first (f y) (f x) (map f xs) (ap f e)
    by_place (inr m) rest = at_later (f y) (map f xs) (f x) (rest m)

-- ---- texts without one

abbrev pub Texts : Type 0
Texts = List (List ℕ)

-- this in front of those, unless it is the one that is taken out
abbrev unless : {s t : List ℕ} → Decided (s ≡ t) → List ℕ → Texts → Texts
unless (inl e) t rest = rest
unless (inr n) t rest = t ∷ rest

pub others : List ℕ → Texts → Texts
others s [] = []
others s (t ∷ ts) = unless (same_or s t) t (others s ts)

-- all others stay
pub other_stays : (s : List ℕ) (ts : Texts) (t : List ℕ) → Contains ts t → (s ≡ t → ⊥) → Contains (others s ts) t
unfolding others same_or
other_stays s [] t c n = absurd (no_element t c)
other_stays s (x ∷ ts) t c n = by_text (same_or s x) (either x ts t c) (λ m. other_stays s ts t m n)
  where
    by_text : (d : Decided (s ≡ x)) → (x ≡ t) ⊎ Contains ts t → (Contains ts t → Contains (others s ts) t) → Contains (unless d x (others s ts)) t
    by_text (inl e) (inl f) rest = absurd (n (e ∙ f))
    by_text (inl e) (inr m) rest = rest m
    by_text (inr a) (inl f) rest = at_first x t (others s ts) f
    by_text (inr a) (inr m) rest = at_later x (others s ts) t (rest m)

no_more : (s : List ℕ) (ts : Texts) → length (others s ts) < suc (length ts)
unfolding others same_or
no_more s [] = omega arith
no_more s (x ∷ ts) = by_text (same_or s x) (no_more s ts)
  where
    by_text : (d : Decided (s ≡ x)) → length (others s ts) < suc (length ts) → length (unless d x (others s ts)) < suc (suc (length ts))
    by_text (inl e) lt = omega (arith, lt)
    by_text (inr a) lt = omega (arith, lt)

-- one is gone
pub fewer_others : (s : List ℕ) (ts : Texts) → Contains ts s → length (others s ts) < length ts
unfolding others same_or
fewer_others s [] c = absurd (no_element s c)
fewer_others s (x ∷ ts) c = by_text (same_or s x) (either x ts s c) (fewer_others s ts)
  where
    by_text : (d : Decided (s ≡ x)) → (x ≡ s) ⊎ Contains ts s → (Contains ts s → length (others s ts) < length ts) → length (unless d x (others s ts)) < suc (length ts)
    by_text (inl e) c rest = no_more s ts
    by_text (inr a) (inl f) rest = absurd (a (sym f))
    by_text (inr a) (inr m) rest = let lt = rest m in omega (arith, lt)
