-- Tests of lists, and what is found by them.
use Rattle.std.proofs.Common.{◌≡◌, ◌⊎◌, inl, inr, ◌≤◌, ℕ, zero, suc, Bool, true, false, ◌&&◌, ◌||◌, List, [], ◌∷◌, length, map, get_or, Contains, refl, sym, ap, ◌∙◌, arith}
use Rattle.std.specs.List.{list_any}
use Rattle.std.proofs.lemmas.List.Folds.{list_any-append}
use Rattle.std.specs.declared.cmp.Ordering.{Ordering}
use Rattle.std.specs.declared.cmp.Ordering.TheVariants.{Equal}
use Rattle.abc_num.specs.Text.{text_cmp, text_eq}
use Rattle.abc_tree.specs.Lists.{flat}
use Rattle.abc_tree.specs.Templates.{template_text}
use Rattle.abc_tree.specs.declared.templates.Template.{Template}
use Rattle.abc_groups.specs.Program.{texts}
use Rattle.abc_groups.proofs.Texts.{eq_no, eq_yes, itself, one_text}
use Rattle.abc_outcome.specs.inner.Lines.{are_one}

pub or_cases : (a b : Bool) → (a || b) ≡ true → (a ≡ true) ⊎ (b ≡ true)
or_cases true b e = inl refl
or_cases false b e = inr e

pub or_left : (a b : Bool) → a ≡ true → (a || b) ≡ true
or_left true b e = refl
or_left false b e = absurd cc

pub or_right : (a b : Bool) → b ≡ true → (a || b) ≡ true
or_right true b e = refl
or_right false b e = e

pub or_none : (a : Bool) → (a || false) ≡ a
or_none true = refl
or_none false = refl

pub and_both : (a b : Bool) → a ≡ true → b ≡ true → (a && b) ≡ true
and_both true b e f = f
and_both false b e f = absurd cc

pub and_first : (a b : Bool) → (a && b) ≡ true → a ≡ true
and_first true b e = refl
and_first false b e = absurd cc

pub and_second : (a b : Bool) → (a && b) ≡ true → b ≡ true
and_second true b e = e
and_second false b e = absurd cc

-- what a list has is found
pub any_of : {X : Type 0} (p : X → Bool) (xs : List X) (x : X) → Contains xs x → p x ≡ true → list_any p xs ≡ true
any_of p [] x c e = absurd (omega (arith, c.1))
any_of p (y ∷ ys) x (zero, h, is) e = or_left (p y) (list_any p ys) (ap p is ∙ e)
any_of p (y ∷ ys) x (suc i, h, is) e = or_right (p y) (list_any p ys) (any_of p ys x (i, omega (arith, h), is) e)

-- and what is found the list has
pub found_any : {X : Type 0} (p : X → Bool) (xs : List X) → list_any p xs ≡ true → (x : X) × Contains xs x × (p x ≡ true)
found_any p [] e = absurd cc
found_any p (y ∷ ys) e = elim (or_cases (p y) (list_any p ys) e) [
  | inl here ↦ (y, (zero, omega arith, refl), here)
  | inr more ↦ let r = found_any p ys more in (r.0, (suc r.1.0, omega (arith, r.1.1), r.1.2), r.2)
]

pub any_flat : {X Y : Type 0} (p : Y → Bool) (f : X → List Y) (xs : List X) → list_any p (flat (map f xs)) ≡ list_any (λ x. list_any p (f x)) xs
any_flat p f [] = refl
any_flat p f (x ∷ xs) = list_any-append p (f x) (flat (map f xs)) ∙ ap (λ b. list_any p (f x) || b) (any_flat p f xs)

-- ---- templates

pub one_template : (s t : Template) → text_cmp (template_text s) (template_text t) ≡ Equal → true ≡ are_one s t
one_template s t e = sym (eq_yes (template_text s) (template_text t) (one_text (template_text s) (template_text t) e))

pub two_templates : (s t : Template) (o : Ordering) → text_cmp (template_text s) (template_text t) ≡ o → (o ≡ Equal → ⊥) → false ≡ are_one s t
two_templates s t o e other = sym (eq_no (template_text s) (template_text t) (λ f. other (sym e ∙ ap (text_cmp (template_text s)) (sym f) ∙ itself (template_text s))))

pub among_texts : (t : Template) (ts : List Template) → list_any (are_one t) ts ≡ list_any (text_eq (template_text t)) (texts ts)
among_texts t [] = refl
among_texts t (x ∷ xs) = ap (λ b. are_one t x || b) (among_texts t xs)

-- what is said of a first element, whatever follows it
pub first_comes : {X : Type 0} (p : List X → Bool) (xs : List X) (x : X) (b : Bool) → 1 ≤ length xs → x ≡ get_or xs 0 x → ((rest : List X) → p (x ∷ rest) ≡ b) → b ≡ p xs
first_comes p [] x b some is each = absurd (omega (arith, some))
first_comes p (y ∷ ys) x b some is each = sym (ap (λ z. p (z ∷ ys)) (sym is) ∙ each ys)
