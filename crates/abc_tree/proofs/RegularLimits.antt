-- Commands and units at the limits of their names, formals and suites.
use Rattle.std.specs.Prelude.{◌≡◌, ℕ, zero, suc, ◌+◌, Bool, true, false, ◌&&◌, ◌==◌, nat_le, nat_lt, List, [], ◌∷◌, ◌++◌, length, map, None, codes, refl}
use Rattle.std.specs.List.{list_all}
use Rattle.std.proofs.Common.{rules, ap, ◌∙◌, arith}
use Rattle.std.proofs.lemmas.Bool.Decides.{nat_tests}
use Rattle.std.proofs.lemmas.List.{append-nil}
use Rattle.std.proofs.lemmas.List.Folds.{list_all-map}
use Rattle.abc_num.specs.declared.limits.TheConstants.{MOST_NAMES, MOST_FORMALS, MOST_SUITES}
use Rattle.abc_tree.specs.Lists.{flat}
use Rattle.abc_tree.specs.declared.formulas.Expr.{the_lemmas}
use Rattle.abc_tree.specs.declared.formulas.Bound.{the_lemmas as bounds}
use Rattle.abc_tree.specs.declared.formulas.Test.{the_lemmas as tests}
use Rattle.abc_tree.specs.declared.commands.Action.{Action}
use Rattle.abc_tree.specs.declared.commands.ActionNode.{the_lemmas as actions}
use Rattle.abc_tree.specs.declared.commands.ActionNode.TheVariants as n
use Rattle.abc_tree.specs.declared.commands.Unit.{Unit as Routine}
use Rattle.abc_tree.specs.Regular.{Names, is_regular_template, is_regular_bound}
use Rattle.abc_tree.specs.RegularItems.{Part, Parts, Exits, parts_of, is_regular_part, do_not_fall, lines_of, bounds_of, addressed, is_regular_command, is_regular_unit, line_of, bounds_in, are_apart, names_of, are_different, has_plain_formals, has_regular_bodies, has_regular_lines, has_single_roles}
use Rattle.abc_tree.proofs.RegularItemRows.{on, positive}

-- A command with these names, which it doesn't use.
depends_on_names : (names : List (List ℕ)) → is_regular_command (record { names = names; action = on 1 n.Pass }) ≡ nat_le (length names) MOST_NAMES
unfolding is_regular_command
depends_on_names names = search (rules, the_lemmas, bounds, tests, actions)

as_many_names_as_may_be : (names : List (List ℕ)) → length names ≡ 1000 → is_regular_command (record { names = names; action = on 1 n.Pass }) ≡ true
as_many_names_as_may_be names e = depends_on_names names ∙ ap (λ k. nat_le k MOST_NAMES) e

one_name_too_many : (names : List (List ℕ)) → length names ≡ 1001 → is_regular_command (record { names = names; action = on 1 n.Pass }) ≡ false
one_name_too_many names e = depends_on_names names ∙ ap (λ k. nat_le k MOST_NAMES) e

-- A command in this many suites.
abbrev nested : ℕ → Action
nested zero = on 1 n.Pass
nested (suc k) = on 1 (n.If positive (nested k ∷ []))

flat_one : {X : Type 0} (xs : List X) → flat (xs ∷ []) ≡ xs
flat_one xs = append-nil xs

abbrev deeper : Parts → Parts
deeper parts = map (λ part. (suc part.0, part.1)) parts

-- one suite more round what stands there
parts_nested : (k : ℕ) → parts_of (nested (suc k)) ≡ (0, Part.line 1) ∷ (0, Part.test positive) ∷ deeper (parts_of (nested k))
parts_nested k = search (rules, the_lemmas, bounds, tests, actions) ∙ ap (λ parts. (0, Part.line 1) ∷ (0, Part.test positive) ∷ deeper parts) (flat_one (parts_of (nested k)))

abbrev all_names : Names
all_names = record { count = 1; refinement = λ i. None }

abbrev exits : Exits
exits = record { quit = true; return = false; report = false }

-- in this many suites more, all that stands there is regular exactly where no more suites are open than may be
abbrev is_within : ℕ → ℕ × Part → Bool
is_within more part = nat_le (part.0 + more) MOST_SUITES && is_regular_part all_names [] exits part.1

shifted : (more : ℕ) → (λ (part : ℕ × Part). is_within more (suc part.0, part.1)) ≡ is_within (suc more)
shifted more i part = nat_le (one_up part.0 i) MOST_SUITES && is_regular_part all_names [] exits part.1
  where
    one_up : (a : ℕ) → suc a + more ≡ a + suc more
    one_up a = omega arith

-- a test is regular in no more suites than may be, and so is what stands deeper
both_within : (k more : ℕ) (rest : Bool) → rest ≡ nat_le (k + suc more) MOST_SUITES → (nat_le (0 + more) MOST_SUITES && true) && ((nat_le (0 + more) MOST_SUITES && true) && rest) ≡ nat_le (suc k + more) MOST_SUITES
both_within k more rest e = grind (arith, nat_tests, e)

is_positive : is_regular_part all_names [] exits (Part.test positive) ≡ true
is_positive = search (rules, the_lemmas, bounds, tests, actions)

within_nested : (k more : ℕ) → list_all (is_within more) (parts_of (nested k)) ≡ nat_le (k + more) MOST_SUITES
within_nested zero more = search (rules, the_lemmas, bounds, tests, actions)
within_nested (suc k) more = ap (list_all (is_within more)) (parts_nested k)
    ∙ ap (λ is. (nat_le (0 + more) MOST_SUITES && true) && ((nat_le (0 + more) MOST_SUITES && is) && list_all (is_within more) (deeper (parts_of (nested k))))) is_positive
    ∙ both_within k more (list_all (is_within more) (deeper (parts_of (nested k)))) (list_all-map (is_within more) (λ part. (suc part.0, part.1)) (parts_of (nested k))
    ∙ ap (λ is. list_all is (parts_of (nested k))) (shifted more) ∙ within_nested k (suc more))

-- The lines of such a command are all the first, and it binds no name.
abbrev ones : ℕ → List ℕ
ones zero = 1 ∷ []
ones (suc k) = 1 ∷ ones k

do_not_fall_ones : (k : ℕ) → do_not_fall (ones k) ≡ true
do_not_fall_ones zero = refl
do_not_fall_ones (suc zero) = refl
do_not_fall_ones (suc (suc k)) = do_not_fall_ones (suc k)

-- what is taken of each part doesn't depend on the suites round it
same_deeper : (of : Part → List ℕ) (parts : Parts) → flat (map (λ part. of part.1) (deeper parts)) ≡ flat (map (λ part. of part.1) parts)
same_deeper of [] = refl
same_deeper of (part ∷ parts) = ap (λ ns. of part.1 ++ ns) (same_deeper of parts)

lines_nested : (k : ℕ) → lines_of (parts_of (nested k)) ≡ ones k
lines_nested zero = search (rules, the_lemmas, bounds, tests, actions)
lines_nested (suc k) = ap lines_of (parts_nested k) ∙ ap (λ ns. 1 ∷ ns) (same_deeper line_of (parts_of (nested k)) ∙ lines_nested k)

no_bounds : bounds_in (Part.test positive) ≡ []
no_bounds = search (rules, the_lemmas, bounds, tests, actions)

bounds_nested : (k : ℕ) → bounds_of (parts_of (nested k)) ≡ []
bounds_nested zero = search (rules, the_lemmas, bounds, tests, actions)
bounds_nested (suc k) = ap bounds_of (parts_nested k) ∙ ap (λ ns. ns ++ flat (map (λ part. bounds_in part.1) (deeper (parts_of (nested k))))) no_bounds
    ∙ same_deeper bounds_in (parts_of (nested k)) ∙ bounds_nested k

abbrev command : Action → Bool
command action = is_regular_command (record { names = codes "x" ∷ []; action = action })

unshifted : (λ (part : ℕ × Part). nat_le part.0 MOST_SUITES && is_regular_part all_names [] exits part.1) ≡ is_within 0
unshifted i part = nat_le (unmoved part.0 i) MOST_SUITES && is_regular_part all_names [] exits part.1
  where
    unmoved : (a : ℕ) → a ≡ a + 0
    unmoved a = omega arith

abbrev apart_from : ℕ → List ℕ → Bool
apart_from k ns = are_apart ns (addressed (parts_of (nested k)))

depends_on_suites : (k : ℕ) → command (nested k) ≡ nat_le k MOST_SUITES
unfolding is_regular_command
depends_on_suites k = ap (λ is. is && do_not_fall (lines_of (parts_of (nested k))) && apart_from k (bounds_of (parts_of (nested k))) && true) (ap (λ is. list_all is (parts_of (nested k))) unshifted ∙ within_nested k 0)
    ∙ ap (λ ns. nat_le (k + 0) MOST_SUITES && do_not_fall ns && apart_from k (bounds_of (parts_of (nested k))) && true) (lines_nested k)
    ∙ ap (λ is. nat_le (k + 0) MOST_SUITES && is && apart_from k (bounds_of (parts_of (nested k))) && true) (do_not_fall_ones k)
    ∙ ap (λ ns. nat_le (k + 0) MOST_SUITES && true && apart_from k ns && true) (bounds_nested k)
    ∙ grind (arith, nat_tests)

as_many_suites_as_may_be : command (nested 50) ≡ true
as_many_suites_as_may_be = depends_on_suites 50

one_suite_too_many : command (nested 51) ≡ false
one_suite_too_many = depends_on_suites 51

-- A unit with this many formals is irregular, whatever else it has.
third_decides : (a b c d f g k l h i j : Bool) → c ≡ false → (a && b && c && d && f && g && k && l && h && i && j) ≡ false
third_decides true true c d f g k l h i j e = ap (λ is. true && true && is && d && f && g && k && l && h && i && j) e
third_decides true false c d f g k l h i j e = refl
third_decides false b c d f g k l h i j e = refl

one_formal_too_many : (unit : Routine) → length unit.formals ≡ 51 → is_regular_unit unit ≡ false
unfolding is_regular_unit
one_formal_too_many unit e = third_decides (is_regular_template unit.template) (length unit.formals == unit.template.places) (nat_le (length unit.formals) MOST_FORMALS)
    (list_all (is_regular_bound (names_of unit)) unit.formals) (list_all (λ i. nat_lt i.0 (length unit.names)) unit.shared) (nat_le (length unit.names) MOST_NAMES)
    (are_different unit.names) (has_plain_formals unit.template.kind unit.formals) (has_regular_bodies unit) (has_regular_lines unit) (has_single_roles unit) (ap (λ k. nat_le k MOST_FORMALS) e)
