-- The names of an item are all different.
use Rattle.std.proofs.Common.{◌≡◌, ◌∙◌, ap, ℕ, Bool, true, false, not, cond, List, [], ◌∷◌, ◌++◌, refl, sym}
use Rattle.std.specs.List.{AllByRecursion, IsDistinct, list_any}
use Rattle.std.specs.Prelude.{◌||◌}
use Rattle.std.proofs.lemmas.Bool.{and_from, or_parts}
use Rattle.abc_num.specs.Names.{with_name}
use Rattle.abc_num.specs.Text.{text_eq}
use Rattle.abc_num.proofs.Texts.{text_eq-Decides}
use Rattle.abc_tree.specs.RegularItems.{are_different, is_one_of}
use Rattle.abc_expressions.specs.Addresses.{each_once}
use Rattle.abc_expressions.specs.NameTokens.{own_among}
use Rattle.abc_outline.specs.declared.rows.Row.{Row}
use Rattle.abc_outline.specs.OwnNames.{all_name_tokens, item_names, own_names, used_names}

pub turned_round : (s t : List ℕ) → text_eq s t ≡ false → text_eq t s ≡ false
turned_round s t e = by (text_eq t s) refl where
  by : (b : Bool) → text_eq t s ≡ b → b ≡ false
  by true f = let z : text_eq s t ≡ true = (text_eq-Decides s t).1 (sym ((text_eq-Decides t s).0 f)) in absurd cc
  by false f = refl

last_apart : (x : List ℕ) (ys : List (List ℕ)) (t : List ℕ) → text_eq x t ≡ false → AllByRecursion (λ y. text_eq x y ≡ false) ys → AllByRecursion (λ y. text_eq x y ≡ false) (ys ++ t ∷ [])
last_apart x [] t e a = (e, tt)
last_apart x (y ∷ ys) t e a = (a.0, last_apart x ys t e a.1)

distinct_new : (names : List (List ℕ)) (t : List ℕ) → list_any (text_eq t) names ≡ false → IsDistinct text_eq names → IsDistinct text_eq (names ++ t ∷ [])
unfolding IsDistinct
distinct_new [] t e d = (tt, tt)
distinct_new (x ∷ names) t e d =
    let q = or_parts (text_eq t x) (list_any (text_eq t) names) e in (last_apart x names t (turned_round t x q.0) d.0, distinct_new names t q.1 d.1)

distinct_with : (names : List (List ℕ)) (t : List ℕ) → IsDistinct text_eq names → IsDistinct text_eq (with_name names t)
distinct_with names t d = by (list_any (text_eq t) names) refl where
  by : (b : Bool) → list_any (text_eq t) names ≡ b → IsDistinct text_eq (cond b names (names ++ t ∷ []))
  by true e = d
  by false e = distinct_new names t e d

pub distinct_each : (found xs : List (List ℕ)) → IsDistinct text_eq found → IsDistinct text_eq (each_once found xs)
distinct_each found [] d = d
distinct_each found (x ∷ xs) d = distinct_each (with_name found x) xs (distinct_with found x d)

pub names_distinct : (targets : List (List ℕ)) (rows : List Row) → IsDistinct text_eq (item_names targets rows)
unfolding item_names used_names IsDistinct
names_distinct targets rows = distinct_each [] (own_among (own_names targets rows) (all_name_tokens rows)) tt

no_other : (x : List ℕ) (ys : List (List ℕ)) → AllByRecursion (λ y. text_eq x y ≡ false) ys → is_one_of ys x ≡ false
no_other x [] a = refl
no_other x (y ∷ ys) a = ap (λ b. b || is_one_of ys x) a.0 ∙ no_other x ys a.1

all_different : (names : List (List ℕ)) → IsDistinct text_eq names → are_different names ≡ true
unfolding IsDistinct
all_different [] d = refl
all_different (x ∷ names) d = and_from _ _ (ap not (no_other x names d.0)) (all_different names d.1)

pub names_different : (targets : List (List ℕ)) (rows : List Row) → are_different (item_names targets rows) ≡ true
names_different targets rows = all_different (item_names targets rows) (names_distinct targets rows)
