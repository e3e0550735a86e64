-- The form that values have together is that of the types that all of them have, in whatever order they stand.
use Rattle.std.proofs.Common.{◌≡◌, ℕ, zero, suc, ◌<◌, List, [], ◌∷◌, length, get_or, Option, Some, sym, subst, arith}
use Rattle.std.specs.List.{insert, remove, slice_set}
use Rattle.abc_num.specs.declared.types.Ground.{Ground}
use Rattle.abc_value.specs.Tree.{Tree, Trees, trees, no_trees, more}
use Rattle.abc_value.specs.Types.{has, all_have}
use Rattle.abc_value.specs.Forms.{Form, anything, Fits, joined, form_of, common}
use Rattle.abc_value.proofs.forms.Joins.{joined_fits, fits_joined}
use Rattle.abc_value.proofs.forms.Shaping.{has_form, form_has}
use Rattle.abc_value.specs.inner.Kept.{common_form}
use Rattle.abc_value.proofs.forms.OneForm.{one_form}

have_common : (ts : Trees) (o : Option Form) (g : Ground) → Fits o g → all_have ts g → Fits (common o ts) g
have_common no_trees o g f h = f
have_common (more t ts) o g f h = have_common ts (joined o (form_of t)) g (joined_fits o (form_of t) g f (has_form t g h.0)) h.1

common_have : (ts : Trees) (o : Option Form) (g : Ground) → Fits (common o ts) g → Fits o g × all_have ts g
common_have no_trees o g f = (f, tt)
common_have (more t ts) o g f =
    let c = common_have ts (joined o (form_of t)) g f in
    let j = fits_joined o (form_of t) g c.0 in
    (j.0, (form_has t g j.1, c.1))

pub all_fit : (xs : List Tree) (g : Ground) → all_have (trees xs) g → Fits (common_form xs) g
all_fit xs g h = have_common (trees xs) (Some anything) g tt h

pub fit_all : (xs : List Tree) (g : Ground) → Fits (common_form xs) g → all_have (trees xs) g
fit_all xs g f = (common_have (trees xs) (Some anything) g f).1

-- the form is that of all types which all of the values have
pub common_is : (o : Option Form) (xs : List Tree) → ((g : Ground) → Fits o g → all_have (trees xs) g) → ((g : Ground) → all_have (trees xs) g → Fits o g) → o ≡ common_form xs
common_is o xs h k = one_form o (common_form xs) (λ g f. all_fit xs g (h g f)) (λ g f. k g (fit_all xs g f))

-- one value more
pub more_common : (e : Tree) (xs : List Tree) → joined (common_form xs) (form_of e) ≡ common_form (e ∷ xs)
more_common e xs =
    common_is (joined (common_form xs) (form_of e)) (e ∷ xs)
    (λ g f. let j = fits_joined (common_form xs) (form_of e) g f in (form_has e g j.1, fit_all xs g j.0))
    (λ g h. joined_fits (common_form xs) (form_of e) g (all_fit xs g h.1) (has_form e g h.0))

pub one_common : (e : Tree) → form_of e ≡ common_form (e ∷ [])
one_common e = common_is (form_of e) (e ∷ []) (λ g f. (form_has e g f, tt)) (λ g h. has_form e g h.0)

-- lists of the same types have one form
pub same_common : (xs ys : List Tree) → ((g : Ground) → all_have (trees xs) g → all_have (trees ys) g) → ((g : Ground) → all_have (trees ys) g → all_have (trees xs) g) → common_form xs ≡ common_form ys
same_common xs ys h k = common_is (common_form xs) ys (λ g f. h g (fit_all xs g f)) (λ g f. all_fit xs g (k g f))

-- ---- the types that the values of a list have, wherever one more stands
pub inserted_have : (xs : List Tree) (i : ℕ) (e : Tree) (g : Ground) → has e g → all_have (trees xs) g → all_have (trees (insert xs i e)) g
inserted_have [] zero e g h k = (h, tt)
inserted_have [] (suc i) e g h k = (h, tt)
inserted_have (x ∷ xs) zero e g h k = (h, k)
inserted_have (x ∷ xs) (suc i) e g h k = (k.0, inserted_have xs i e g h k.1)

pub have_inserted : (xs : List Tree) (i : ℕ) (e : Tree) (g : Ground) → all_have (trees (insert xs i e)) g → has e g × all_have (trees xs) g
have_inserted [] zero e g h = (h.0, tt)
have_inserted [] (suc i) e g h = (h.0, tt)
have_inserted (x ∷ xs) zero e g h = (h.0, h.1)
have_inserted (x ∷ xs) (suc i) e g h = let r = have_inserted xs i e g h.1 in (r.0, (h.0, r.1))

pub removed_have : (xs : List Tree) (i : ℕ) (e : Tree) (g : Ground) → i < length xs → e ≡ get_or xs i e → all_have (trees xs) g → has e g × all_have (trees (remove xs i)) g
removed_have [] i e g l is h = absurd (omega arith)
removed_have (x ∷ xs) zero e g l is h = let P : Tree → Type 0 = λ t. has t g in (subst P (sym is) h.0, h.1)
removed_have (x ∷ xs) (suc i) e g l is h = let r = removed_have xs i e g (omega arith) is h.1 in (r.0, (h.0, r.1))

pub have_removed : (xs : List Tree) (i : ℕ) (e : Tree) (g : Ground) → i < length xs → e ≡ get_or xs i e → has e g → all_have (trees (remove xs i)) g → all_have (trees xs) g
have_removed [] i e g l is h k = absurd (omega arith)
have_removed (x ∷ xs) zero e g l is h k = let P : Tree → Type 0 = λ t. has t g in (subst P is h, k)
have_removed (x ∷ xs) (suc i) e g l is h k = (k.0, have_removed xs i e g (omega arith) is h k.1)

pub replaced_have : (xs : List Tree) (i : ℕ) (e : Tree) (g : Ground) → i < length xs → has e g → all_have (trees (remove xs i)) g → all_have (trees (slice_set xs i e)) g
replaced_have [] i e g l h k = absurd (omega arith)
replaced_have (x ∷ xs) zero e g l h k = (h, k)
replaced_have (x ∷ xs) (suc i) e g l h k = (k.0, replaced_have xs i e g (omega arith) h k.1)

pub have_replaced : (xs : List Tree) (i : ℕ) (e : Tree) (g : Ground) → i < length xs → all_have (trees (slice_set xs i e)) g → has e g × all_have (trees (remove xs i)) g
have_replaced [] i e g l h = absurd (omega arith)
have_replaced (x ∷ xs) zero e g l h = (h.0, h.1)
have_replaced (x ∷ xs) (suc i) e g l h = let r = have_replaced xs i e g (omega arith) h.1 in (r.0, (h.0, r.1))
