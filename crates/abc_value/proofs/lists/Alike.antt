-- Elements that have the same sizes and the same form.
use Rattle.std.proofs.Common.{◌≡◌, ◌≢◌, ℕ, ◌+◌, ◌*◌, ◌<◌, ◌≤◌, List, [], ◌∷◌, length, get_or, refl, sym, ap, ◌∙◌, subst, arith, Option, Some, None}
use Rattle.std.specs.List.{AllByRecursion}
use Rattle.std.proofs.Math.Nat.{mul-le-mul_left}
use Rattle.abc_num.specs.declared.types.Ground.{Ground}
use Rattle.abc_num.specs.declared.limits.TheConstants.{MOST_ELEMENTS, MOST_WEIGHT}
use Rattle.abc_value.specs.Tree.{Tree, compound, trees}
use Rattle.abc_value.specs.Sizes.{height_of, weight_of, trees_height, trees_weight, size_fault}
use Rattle.abc_value.specs.Types.{all_have}
use Rattle.abc_value.specs.Forms.{Form, Fits, form_of}
use Rattle.abc_value.specs.inner.Alike.{IsLike, AreAlike}
use Rattle.abc_value.specs.inner.Kept.{counted, AreWhole, IsKept}
use Rattle.abc_value.proofs.forms.Shaping.{has_form, form_has}
use Rattle.abc_value.proofs.forms.CommonForms.{common_is}
use Rattle.abc_value.proofs.kept_forms.Wholes.{is_where_form}
use Rattle.abc_value.proofs.lists.Adding.{no_fault}

-- ---- sizes
height_like : (t : Tree) (ts : List Tree) → AllByRecursion (IsLike t) ts → trees_height (trees ts) ≤ height_of t + 1
height_like t [] a = omega arith
height_like t (u ∷ us) a = omega (arith, a.0.height, height_like t us a.1)

weight_like : (t : Tree) (ts : List Tree) → AllByRecursion (IsLike t) ts → trees_weight (trees ts) ≡ weight_of t * length ts
weight_like t [] a = omega arith
weight_like t (u ∷ us) a = omega (arith, a.0.weight, weight_like t us a.1)

alike_height : (ts : List Tree) (t : Tree) → AreAlike ts → 0 < length ts → t ≡ get_or ts 0 t → height_of t + 1 ≡ trees_height (trees ts)
alike_height [] t a some is = absurd (omega arith)
alike_height (u ∷ us) t a some is = omega (arith, ap height_of is, height_like u us a.1)

alike_weight : (ts : List Tree) (t : Tree) → AreAlike ts → t ≡ get_or ts 0 t → weight_of t * length ts ≡ trees_weight (trees ts)
alike_weight [] t a is = omega arith
alike_weight (u ∷ us) t a is = ap (λ w. w * length (u ∷ us)) (ap weight_of is) ∙ sym (weight_like u (u ∷ us) a)

-- the sizes that are computed of the first
pub alike_sizes : (ts : List Tree) (t u : Tree) (h w n : ℕ) → AreAlike ts → 0 < length ts → t ≡ get_or ts 0 t → u ≡ get_or ts 0 u → h ≡ height_of t → w ≡ weight_of u → n ≡ length ts
    → (h + 1 ≡ trees_height (trees ts)) × (w * n + 5 ≡ trees_weight (trees ts) + 5)
alike_sizes ts t u h w n a some first again high heavy count =
    (ap (λ k. k + 1) high ∙ alike_height ts t a some first, (λ i. heavy i * count i + 5) ∙ ap (λ k. k + 5) (alike_weight ts u a again))

pub no_parts_small : (ts : List Tree) → length ts ≡ 0 → size_fault (compound (trees ts)) ≡ None
unfolding size_fault
no_parts_small [] h = no_fault 0 0 5 (omega arith) (omega arith) (omega arith)
no_parts_small (t ∷ ts) h = absurd (omega arith)

-- so many equal weights
pub many_weights : (n w : ℕ) → n ≤ MOST_ELEMENTS → w ≤ MOST_WEIGHT → w * n ≤ MOST_WEIGHT * MOST_ELEMENTS
many_weights n w few light = omega (arith, mul-le-mul_left w few, mul-le-mul_left MOST_ELEMENTS light)

-- ---- the form
abbrev pub HaveForm : Option Form → List Tree → Type 0
HaveForm o ts = AllByRecursion (λ t. form_of t ≡ o) ts

all_have_form : (o : Option Form) (ts : List Tree) (g : Ground) → HaveForm o ts → Fits o g → all_have (trees ts) g
all_have_form o [] g a f = tt
all_have_form o (t ∷ ts) g a f = let P : Option Form → Type 0 = λ p. Fits p g in (form_has t g (subst P (sym a.0) f), all_have_form o ts g a.1 f)

first_has_form : (o : Option Form) (ts : List Tree) (g : Ground) → ts ≢ [] → HaveForm o ts → all_have (trees ts) g → Fits o g
first_has_form o [] g some a h = absurd (some refl)
first_has_form o (t ∷ ts) g some a h = let P : Option Form → Type 0 = λ p. Fits p g in subst P a.0 (has_form t g h.0)

all_whole : (o : Option Form) (ts : List Tree) → HaveForm o ts → AreWhole o (length ts) ts
all_whole None ts a = tt
all_whole (Some s) [] a = omega arith
all_whole (Some s) (t ∷ ts) a = omega (arith, ap (λ b. counted b 1) (is_where_form (form_of t) s a.0), all_whole (Some s) ts a.1)

pub many_kept : (o p : Option Form) (n : ℕ) (ts : List Tree) → o ≡ p → length ts ≡ n → HaveForm p ts → IsKept o n ts
many_kept o p n ts is count a =
    let P : Option Form → Type 0 = λ q. HaveForm q ts in
    let b : HaveForm o ts = subst P (sym is) a in
    let Q : ℕ → Type 0 = λ m. AreWhole o m ts in
    record {
      form = λ some. common_is o ts (λ g f. all_have_form o ts g b f) (λ g h. first_has_form o ts g some b h);
      whole = subst Q count (all_whole o ts b);
    }

forms_like : (t : Tree) (ts : List Tree) → AllByRecursion (IsLike t) ts → HaveForm (form_of t) ts
forms_like t [] a = tt
forms_like t (u ∷ us) a = (a.0.form, forms_like t us a.1)

pub alike_forms : (ts : List Tree) (t : Tree) → AreAlike ts → t ≡ get_or ts 0 t → HaveForm (form_of t) ts
alike_forms [] t a is = tt
alike_forms (u ∷ us) t a is = let P : Tree → Type 0 = λ v. HaveForm (form_of v) (u ∷ us) in subst P (sym is) (forms_like u (u ∷ us) a)
