-- The groups of three units: A and B call each other, and D calls A.
use Rattle.std.specs.Prelude.{◌≡◌, ◌⊎◌, ℕ, zero, suc, List, [], ◌∷◌, Some, None, codes, refl}
use Rattle.std.proofs.Common.{◌∙◌, inl, inr, ap, sym, subst, arith, rules}
use Rattle.std.specs.List.{Contains}
use Rattle.std.specs.Ordering.{match_ordering}
use Rattle.std.specs.declared.cmp.Ordering.{Ordering}
use Rattle.std.specs.declared.cmp.Ordering.TheVariants.{Less, Equal, Greater}
use Rattle.abc_tree.specs.Calls.{called_upto, unit_nodes}
use Rattle.abc_tree.specs.Templates.{template_cmp, template_text}
use Rattle.abc_tree.specs.declared.formulas.Expr.{the_lemmas}
use Rattle.abc_tree.specs.declared.formulas.Test.{the_lemmas as tests}
use Rattle.abc_tree.specs.declared.templates.Template.{Template}
use Rattle.abc_tree.specs.declared.commands.ActionNode.{the_lemmas as actions}
use Rattle.abc_tree.specs.declared.commands.ActionNode.TheVariants as n
use Rattle.abc_ground.specs.Groups.{Cut, cut_of, template_of, called, Way, LeadsTo, AreTogether}
use Rattle.abc_fewer.proofs.Ways.{cut_same, cut_found}
use Rattle.abc_principal.specs.Exact.{IsGroup}
use Rattle.abc_examples.proofs.Units.{keyword, on, how_to, cut, apart}

abbrev A : Template
A = keyword (codes "A")

abbrev B : Template
B = keyword (codes "B")

abbrev D : Template
D = keyword (codes "D")

-- a unit that calls one other
abbrev calling : List ℕ → Template → Cut
calling word t = cut (how_to word (on 2 (n.Call t []) ∷ [])) 2

abbrev of_A : Cut
of_A = calling (codes "A") B

abbrev of_B : Cut
of_B = calling (codes "B") A

abbrev of_D : Cut
of_D = calling (codes "D") A

abbrev w : List Cut
w = of_A ∷ of_B ∷ of_D ∷ []

calls_one : (word : List ℕ) (t : Template) → called_upto 2 (how_to word (on 2 (n.Call t []) ∷ [])) ≡ t ∷ []
calls_one word t = search (rules, the_lemmas, tests, actions)

nodes_of : (word : List ℕ) (t : Template) → unit_nodes 2 (how_to word (on 2 (n.Call t []) ∷ [])) ≡ t ∷ []
nodes_of word t = search (rules, the_lemmas, tests, actions)

-- ---- what leads where

does_call : (word : List ℕ) (t : Template) → Contains (called (Some (calling word t))) t
does_call word t = subst (λ ts. Contains ts t) (sym (calls_one word t)) (0, omega arith, refl)

A_and_B : AreTogether w A B
A_and_B = ((1, (B, does_call (codes "A") B, refl)), (1, (A, does_call (codes "B") A, refl)))

itself : (t : Template) → AreTogether w t t
itself t = ((0, refl), (0, refl))

one_of : {X : Type 0} {x y : X} → Contains (x ∷ []) y → x ≡ y
one_of (zero, lt, is) = is
one_of (suc i, lt, is) = absurd (omega (arith, lt))

-- from A and B no way leads to D
no_way : (k : ℕ) (t : Template) → (template_text t ≡ codes "A") ⊎ (template_text t ≡ codes "B") → Way w k t D → ⊥
no_way zero t (inl is) way = apart (codes "A") (codes "D") refl (sym is ∙ way)
no_way zero t (inr is) way = apart (codes "B") (codes "D") refl (sym is ∙ way)
no_way (suc k) t (inl is) way =
    let next : B ≡ way.0 = one_of (subst (λ ts. Contains ts way.0) (ap called (cut_same w t A is) ∙ calls_one (codes "A") B) way.1) in
    no_way k way.0 (inr (ap template_text (sym next))) way.2
no_way (suc k) t (inr is) way =
    let next : A ≡ way.0 = one_of (subst (λ ts. Contains ts way.0) (ap called (cut_same w t B is) ∙ calls_one (codes "B") A) way.1) in
    no_way k way.0 (inl (ap template_text (sym next))) way.2

-- a way to a template leads to each that is written alike
way_to : (k : ℕ) (t u v : Template) → template_text u ≡ template_text v → Way w k t u → Way w k t v
way_to zero t u v alike way = way ∙ alike
way_to (suc k) t u v alike way = (way.0, way.1, way_to k way.0 u v alike way.2)

-- ---- the group

abbrev members : List Cut
members = of_A ∷ of_B ∷ []

abbrev IsEither : Cut → Type 0
IsEither c = (of_A ≡ c) ⊎ (of_B ≡ c)

either : {c : Cut} → Contains members c → IsEither c
either (zero, lt, is) = inl is
either (suc zero, lt, is) = inr is
either (suc (suc i), lt, is) = absurd (omega (arith, lt))

there : (c : Cut) → IsEither c → cut_of (template_of c) w ≡ Some c
there c (inl is) = subst (λ (x : Cut). cut_of (template_of x) w ≡ Some x) is refl
there c (inr is) = subst (λ (x : Cut). cut_of (template_of x) w ≡ Some x) is refl

together : (c d : Cut) → IsEither c → IsEither d → AreTogether w (template_of c) (template_of d)
together c d (inl is) (inl same) = subst (λ (x : Cut). AreTogether w (template_of x) (template_of d)) is (subst (λ (x : Cut). AreTogether w A (template_of x)) same (itself A))
together c d (inl is) (inr same) = subst (λ (x : Cut). AreTogether w (template_of x) (template_of d)) is (subst (λ (x : Cut). AreTogether w A (template_of x)) same A_and_B)
together c d (inr is) (inl same) = subst (λ (x : Cut). AreTogether w (template_of x) (template_of d)) is (subst (λ (x : Cut). AreTogether w B (template_of x)) same (A_and_B.1, A_and_B.0))
together c d (inr is) (inr same) = subst (λ (x : Cut). AreTogether w (template_of x) (template_of d)) is (subst (λ (x : Cut). AreTogether w B (template_of x)) same (itself B))

leads_to_no_D : (c : Cut) → IsEither c → LeadsTo w (template_of c) D → ⊥
leads_to_no_D c (inl is) way = no_way way.0 (template_of c) (inl (ap (λ (x : Cut). template_text (template_of x)) (sym is))) way.1
leads_to_no_D c (inr is) way = no_way way.0 (template_of c) (inr (ap (λ (x : Cut). template_text (template_of x)) (sym is))) way.1

-- which unit is found
found : (t : Template) (d : Cut) → cut_of t w ≡ Some d → IsEither d ⊎ (of_D ≡ d)
found t d = by (template_cmp A t) (template_cmp B t) (template_cmp D t)
  where
    by : (a b c : Ordering) → match_ordering a (match_ordering b (match_ordering c None (Some of_D) None) (Some of_B) None) (Some of_A) None ≡ Some d → IsEither d ⊎ (of_D ≡ d)
    by Equal b c e = let f : of_A ≡ d = cc in inl (inl f)
    by Greater b c e = absurd (cc)
    by Less Equal c e = let f : of_B ≡ d = cc in inl (inr f)
    by Less Greater c e = absurd (cc)
    by Less Less Equal e = let f : of_D ≡ d = cc in inr f
    by Less Less Less e = absurd (cc)
    by Less Less Greater e = absurd (cc)

all : (c d : Cut) (t : Template) → IsEither c → AreTogether w (template_of c) t → cut_of t w ≡ Some d → Contains members d
all c d t at both is = by (found t d is)
  where
    by : IsEither d ⊎ (of_D ≡ d) → Contains members d
    by (inl (inl same)) = (0, omega arith, same)
    by (inl (inr same)) = (1, omega arith, same)
    by (inr same) = absurd (leads_to_no_D c at (both.0.0, way_to both.0.0 (template_of c) t D ((cut_found w t d is).1 ∙ ap (λ (x : Cut). template_text (template_of x)) (sym same)) both.0.1))

spelled : (c d : Cut) (t : Template) → IsEither c → IsEither d → Contains (unit_nodes c.lines c.unit) t → template_text t ≡ template_text (template_of d) → t ≡ template_of d
spelled c d t (inl is) (inl same) calls alike = absurd (apart (codes "B") (codes "A") refl (ap template_text (called_by is calls) ∙ (alike ∙ ap (λ (x : Cut). template_text (template_of x)) (sym same))))
  where
    called_by : of_A ≡ c → Contains (unit_nodes c.lines c.unit) t → B ≡ t
    called_by is calls = one_of (subst (λ ts. Contains ts t) (ap (λ (x : Cut). unit_nodes x.lines x.unit) (sym is) ∙ nodes_of (codes "A") B) calls)
spelled c d t (inl is) (inr same) calls alike = sym (one_of (subst (λ ts. Contains ts t) (ap (λ (x : Cut). unit_nodes x.lines x.unit) (sym is) ∙ nodes_of (codes "A") B) calls)) ∙ ap template_of same
spelled c d t (inr is) (inl same) calls alike = sym (one_of (subst (λ ts. Contains ts t) (ap (λ (x : Cut). unit_nodes x.lines x.unit) (sym is) ∙ nodes_of (codes "B") A) calls)) ∙ ap template_of same
spelled c d t (inr is) (inr same) calls alike = absurd (apart (codes "A") (codes "B") refl (ap template_text (called_by is calls) ∙ (alike ∙ ap (λ (x : Cut). template_text (template_of x)) (sym same))))
  where
    called_by : of_B ≡ c → Contains (unit_nodes c.lines c.unit) t → A ≡ t
    called_by is calls = one_of (subst (λ ts. Contains ts t) (ap (λ (x : Cut). unit_nodes x.lines x.unit) (sym is) ∙ nodes_of (codes "B") A) calls)

A_and_B_are_a_group : IsGroup w members
A_and_B_are_a_group = record {
  rising = ((refl, tt), (tt, tt));
  there = λ c at. there c (either at);
  together = λ c d at at_2. together c d (either at) (either at_2);
  all = λ c d t at. all c d t (either at);
  spelled = λ c d t at at_2. spelled c d t (either at) (either at_2);
}

-- B belongs to the group of A
A_alone_is_none : IsGroup w (of_A ∷ []) → ⊥
A_alone_is_none group = apart (codes "A") (codes "B") refl (ap (λ (x : Cut). template_text (template_of x)) (one_of (group.all of_A of_B B (0, omega arith, refl) A_and_B refl)))

-- D calls A, but A doesn't lead to D
with_D_is_none : IsGroup w w → ⊥
with_D_is_none group = leads_to_no_D of_A (inl refl) (group.together of_A of_D (0, omega arith, refl) (2, omega arith, refl)).0

-- the order is that of the templates
backwards_is_none : IsGroup w (of_B ∷ of_A ∷ []) → ⊥
backwards_is_none group = let f : Greater ≡ Less = group.rising.0.0 in absurd (cc)
