-- Which units are fewer than others: A has three lines, B two.
use Rattle.std.specs.Prelude.{◌≡◌, ◌≤◌, ℕ, List, [], ◌∷◌, length, Option, Some, None, codes, refl}
use Rattle.std.proofs.Common.{ap, arith}
use Rattle.std.specs.Ordering.{match_ordering}
use Rattle.std.specs.declared.cmp.Ordering.{Ordering}
use Rattle.std.specs.declared.cmp.Ordering.TheVariants.{Less, Equal, Greater}
use Rattle.abc_tree.specs.Templates.{template_cmp}
use Rattle.abc_tree.specs.declared.commands.ActionNode.TheVariants as n
use Rattle.abc_tree.specs.declared.commands.Unit.{Unit as Routine}
use Rattle.abc_tree.specs.declared.templates.Template.{Template}
use Rattle.abc_ground.specs.Groups.{Cut, cut_of}
use Rattle.abc_fewer.specs.Fewer.{AreFewer}
use Rattle.abc_examples.proofs.Units.{keyword, on, how_to, cut}

abbrev A : Routine
A = how_to (codes "A") (on 2 n.Pass ∷ on 3 n.Quit ∷ [])

abbrev B : Routine
B = how_to (codes "B") (on 2 n.Pass ∷ [])

-- the same template with another suite
abbrev other_A : Routine
other_A = how_to (codes "A") (on 2 n.Quit ∷ [])

abbrev both : List Cut
both = cut A 3 ∷ cut B 2 ∷ []

-- what is found in both for a unit
abbrev IsIn : List Cut → Template → Cut → Type 0
IsIn high t c = (d : Cut) × (cut_of t high ≡ Some d) × (d.unit ≡ c.unit) × (c.lines ≤ d.lines)

-- no unit is fewer than any
none_are_fewer : AreFewer [] both
none_are_fewer t c is = absurd (cc)

-- A up to its second line, without B
a_unit_dropped_and_a_line : AreFewer (cut A 2 ∷ []) both
a_unit_dropped_and_a_line t c is = by (template_cmp (keyword (codes "A")) t) is
  where
    by : (o : Ordering) → match_ordering o None (Some (cut A 2)) None ≡ Some c
        → (d : Cut) × (match_ordering o (cut_of t (cut B 2 ∷ [])) (Some (cut A 3)) None ≡ Some d) × (d.unit ≡ c.unit) × (c.lines ≤ d.lines)
    by Less e = absurd (cc)
    by Equal e = let f : cut A 2 ≡ c = cc in (cut A 3, refl, ap (λ (x : Cut). x.unit) f, omega (arith, ap (λ (x : Cut). x.lines) f))
    by Greater e = absurd (cc)

-- where A has a line more than in the other
no_line_more : AreFewer (cut A 3 ∷ []) (cut A 2 ∷ cut B 2 ∷ []) → ⊥
no_line_more fewer =
    let found : IsIn (cut A 2 ∷ cut B 2 ∷ []) (keyword (codes "A")) (cut A 3) = fewer (keyword (codes "A")) (cut A 3) refl in
    let f : cut A 2 ≡ found.0 = cc (found.1) in
    absurd (omega (arith, ap (λ (x : Cut). x.lines) f, found.3))

-- a unit that isn't there at all
no_other_unit : AreFewer (cut B 1 ∷ []) (cut A 3 ∷ []) → ⊥
no_other_unit fewer = let found : IsIn (cut A 3 ∷ []) (keyword (codes "B")) (cut B 1) = fewer (keyword (codes "B")) (cut B 1) refl in absurd (none found.1)
  where
    none : {d : Cut} → ◌≡◌ {A = Option Cut} None (Some d) → ⊥
    none e = absurd (cc)

-- one with another suite is another, though it has as many lines or fewer
no_other_suite : AreFewer (cut other_A 2 ∷ []) both → ⊥
no_other_suite fewer =
    let found : IsIn both (keyword (codes "A")) (cut other_A 2) = fewer (keyword (codes "A")) (cut other_A 2) refl in
    let f : cut A 3 ≡ found.0 = cc (found.1) in
    two_suites (ap (λ (x : Cut). length x.unit.body) f) (ap (λ (u : Routine). length u.body) found.2)
  where
    two_suites : {n : ℕ} → 2 ≡ n → n ≡ 1 → ⊥
    two_suites e f = omega (arith, e, f)
