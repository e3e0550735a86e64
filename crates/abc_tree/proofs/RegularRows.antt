-- Regular and irregular expressions and tests, by computing.
use Rattle.std.specs.Prelude.{◌≡◌, ℕ, zero, suc, Bool, true, false, List, [], ◌∷◌, Option, Some, None, codes, pos, nat_le, ◌&&◌, refl}
use Rattle.std.proofs.Common.{rules, ap, ◌∙◌}
use Rattle.abc_num.specs.declared.limits.TheConstants.{MOST_TREE_HEIGHT}
use Rattle.abc_tree.specs.Height.{height}
use Rattle.abc_num.specs.Number.{whole_number}
use Rattle.abc_tokens.specs.Scanned as scanned
use Rattle.abc_tree.specs.declared.formulas.Expr.{Expr, the_lemmas}
use Rattle.abc_tree.specs.declared.formulas.Expr.TheVariants as e
use Rattle.abc_tree.specs.declared.formulas.Piece.TheVariants as piece
use Rattle.abc_tree.specs.declared.formulas.Pair.{Pair, roll-Pair}
use Rattle.abc_tree.specs.declared.formulas.Fill.TheVariants as fill
use Rattle.abc_tree.specs.declared.formulas.Bound.{Bound, the_lemmas as bounds}
use Rattle.abc_tree.specs.declared.formulas.Bound.TheVariants as b
use Rattle.abc_tree.specs.declared.formulas.Link.{Link}
use Rattle.abc_tree.specs.declared.formulas.Quantifier.TheVariants as q
use Rattle.abc_tree.specs.declared.formulas.Test.{Test, the_lemmas as tests}
use Rattle.abc_tree.specs.declared.formulas.Test.TheVariants as t
use Rattle.abc_tree.specs.declared.operations.Op.{Op}
use Rattle.abc_tree.specs.declared.operations.Op.TheVariants as op
use Rattle.abc_tree.specs.declared.templates.Template.{Template}
use Rattle.abc_tree.specs.declared.templates.TemplateKind.TheVariants as kind
use Rattle.abc_tree.specs.declared.templates.Word.{Word}
use Rattle.abc_tree.specs.declared.templates.Word.TheVariants as w
use Rattle.abc_tree.specs.declared.commands.RefinementKind.{RefinementKind}
use Rattle.abc_tree.specs.declared.commands.RefinementKind.TheVariants as refines
use Rattle.abc_tree.specs.Regular.{Names, has_regular_parts, is_regular_template, is_regular_expression, is_regular_bound, is_regular_test, is_address, is_literal}

-- a target and a refinement of each kind
abbrev kind_of : ℕ → Option RefinementKind
kind_of (suc zero) = Some refines.Expression
kind_of (suc (suc zero)) = Some refines.Test
kind_of (suc (suc (suc zero))) = Some refines.Command
kind_of _ = None

abbrev names : Names
names = record { count = 4; refinement = kind_of }

abbrev name : ℕ → Expr
name i = e.Name (record { 0 = i })

abbrev x : Expr
x = name 0

abbrev one : Expr
one = e.Number (whole_number (pos 1))

-- Templates.
abbrev function : List Word → ℕ → Template
function words places = record { kind = kind.Function; words = words; places = places }

abbrev command : List Word → ℕ → Template
command words places = record { kind = kind.Command; words = words; places = places }

abbrev predicate : List Word → ℕ → Template
predicate words places = record { kind = kind.Predicate; words = words; places = places }

one_place : is_regular_template (function (w.Key (codes "f") ∷ w.Place ∷ []) 1) ≡ true
unfolding scanned.word_in_front
one_place = refl

two_places : is_regular_template (function (w.Place ∷ w.Key (codes "f") ∷ w.Place ∷ []) 2) ≡ true
unfolding scanned.word_in_front
two_places = refl

no_place : is_regular_template (predicate (w.Key (codes "f") ∷ []) 0) ≡ true
unfolding scanned.word_in_front
no_place = refl

place_in_front : is_regular_template (function (w.Place ∷ w.Key (codes "f") ∷ []) 1) ≡ false
unfolding scanned.word_in_front
place_in_front = refl

two_names : is_regular_template (function (w.Key (codes "f") ∷ w.Key (codes "g") ∷ []) 0) ≡ false
unfolding scanned.word_in_front
two_names = refl

keyword_as_name : is_regular_template (function (w.Key (codes "F") ∷ w.Place ∷ []) 1) ≡ false
unfolding scanned.word_in_front
keyword_as_name = refl

name_as_keyword : is_regular_template (command (w.Key (codes "f") ∷ w.Place ∷ []) 1) ≡ false
unfolding scanned.word_in_front
name_as_keyword = refl

two_tokens : is_regular_template (function (w.Key (codes "f g") ∷ []) 0) ≡ false
unfolding scanned.word_in_front
two_tokens = refl

miscounted : is_regular_template (function (w.Key (codes "f") ∷ w.Place ∷ []) 2) ≡ false
unfolding scanned.word_in_front
miscounted = refl

keywords : is_regular_template (command (w.Key (codes "DRAW") ∷ w.Place ∷ w.Key (codes "IN") ∷ w.Place ∷ w.Key (codes "NOW") ∷ []) 2) ≡ true
unfolding scanned.word_in_front
keywords = refl

keywords_alone : is_regular_template (command (w.Key (codes "DRAW") ∷ w.Key (codes "NOW") ∷ []) 0) ≡ true
unfolding scanned.word_in_front
keywords_alone = refl

places_together : is_regular_template (command (w.Key (codes "DRAW") ∷ w.Place ∷ w.Place ∷ []) 2) ≡ false
unfolding scanned.word_in_front
places_together = refl

place_first : is_regular_template (command (w.Place ∷ w.Key (codes "DRAW") ∷ []) 1) ≡ false
unfolding scanned.word_in_front
place_first = refl

reserved : is_regular_template (command (w.Key (codes "PUT") ∷ w.Place ∷ []) 1) ≡ false
unfolding scanned.word_in_front
reserved = refl

no_words : is_regular_template (command [] 0) ≡ false
unfolding scanned.word_in_front
no_words = refl

-- Expressions.
abbrev is_regular : Expr → Bool
is_regular = is_regular_expression names

abbrev pair : Expr → Expr → Pair
pair key associate = roll-Pair (record { key = key; associate = associate })

abbrev called : Template
called = function (w.Key (codes "f") ∷ w.Place ∷ []) 1

abbrev holds : Template
holds = predicate (w.Key (codes "f") ∷ w.Place ∷ []) 1

a_name : is_regular (x) ≡ true
a_name = search (rules, the_lemmas)

an_expression_refinement : is_regular (name 1) ≡ true
an_expression_refinement = search (rules, the_lemmas)

a_test_as_value : is_regular (name 2) ≡ false
a_test_as_value = search (rules, the_lemmas)

a_command_as_value : is_regular (name 3) ≡ false
a_command_as_value = search (rules, the_lemmas)

a_name_past_the_last : is_regular (name 4) ≡ false
a_name_past_the_last = search (rules, the_lemmas)

a_number : is_regular (one) ≡ true
a_number = search (rules, the_lemmas)

the_empty_text : is_regular (e.Text []) ≡ true
the_empty_text = search (rules, the_lemmas)

a_text : is_regular (e.Text (piece.Chars (codes "a") ∷ piece.Conversion x ∷ [])) ≡ true
a_text = search (rules, the_lemmas)

a_control_character : is_regular (e.Text (piece.Chars (10 ∷ []) ∷ [])) ≡ false
a_control_character = search (rules, the_lemmas)

a_conversion_of_a_test : is_regular (e.Text (piece.Conversion (name 2) ∷ [])) ≡ false
a_conversion_of_a_test = search (rules, the_lemmas)

a_compound : is_regular (e.Compound (x ∷ one ∷ [])) ≡ true
a_compound = search (rules, the_lemmas)

a_compound_of_one : is_regular (e.Compound (x ∷ [])) ≡ false
a_compound_of_one = search (rules, the_lemmas)

a_part_of_a_compound : is_regular (e.Compound (x ∷ name 2 ∷ [])) ≡ false
a_part_of_a_compound = search (rules, the_lemmas)

the_empty_display : is_regular (e.Empty) ≡ true
the_empty_display = search (rules, the_lemmas)

a_list : is_regular (e.List (fill.One x ∷ fill.Range one x ∷ [])) ≡ true
a_list = search (rules, the_lemmas)

a_list_of_nothing : is_regular (e.List []) ≡ false
a_list_of_nothing = search (rules, the_lemmas)

a_filler : is_regular (e.List (fill.One (name 2) ∷ [])) ≡ false
a_filler = search (rules, the_lemmas)

an_end : is_regular (e.List (fill.Range one (name 2) ∷ [])) ≡ false
an_end = search (rules, the_lemmas)

a_table : is_regular (e.Table (pair x one ∷ [])) ≡ true
a_table = search (rules, the_lemmas)

a_table_of_nothing : is_regular (e.Table []) ≡ false
a_table_of_nothing = search (rules, the_lemmas)

a_key : is_regular (e.Table (pair (name 2) one ∷ [])) ≡ false
a_key = search (rules, the_lemmas)

an_associate : is_regular (e.Table (pair x (name 2) ∷ [])) ≡ false
an_associate = search (rules, the_lemmas)

a_selection : is_regular (e.Select x one) ≡ true
a_selection = search (rules, the_lemmas)

a_prefix : is_regular (e.Apply1 op.Negate x) ≡ true
a_prefix = search (rules, the_lemmas)

an_infix_as_prefix : is_regular (e.Apply1 op.Subtract x) ≡ false
an_infix_as_prefix = search (rules, the_lemmas)

an_infix : is_regular (e.Apply2 op.Subtract x one) ≡ true
an_infix = search (rules, the_lemmas)

a_prefix_as_infix : is_regular (e.Apply2 op.Negate x one) ≡ false
a_prefix_as_infix = search (rules, the_lemmas)

a_relation_as_infix : is_regular (e.Apply2 op.Less x one) ≡ false
a_relation_as_infix = search (rules, the_lemmas)

a_membership_as_infix : is_regular (e.Apply2 op.In x one) ≡ false
a_membership_as_infix = search (rules, the_lemmas)

a_call : is_regular (e.Call called (x ∷ [])) ≡ true
unfolding scanned.word_in_front
a_call = search (rules, the_lemmas)

a_call_with_two_actuals : is_regular (e.Call called (x ∷ one ∷ [])) ≡ false
unfolding scanned.word_in_front
a_call_with_two_actuals = search (rules, the_lemmas)

a_call_of_a_predicate : is_regular (e.Call holds (x ∷ [])) ≡ false
unfolding scanned.word_in_front
a_call_of_a_predicate = search (rules, the_lemmas)

an_actual : is_regular (e.Call called (name 2 ∷ [])) ≡ false
unfolding scanned.word_in_front
an_actual = search (rules, the_lemmas)

-- as high as may be, and one higher
abbrev nested : ℕ → Expr
nested zero = x
nested (suc n) = e.Apply1 op.Negate (nested n)

height_of : (n : ℕ) → height (nested n) ≡ n
height_of zero = search (rules, the_lemmas)
height_of (suc n) = one_higher n ∙ ap suc (height_of n)
  where
    one_higher : (n : ℕ) → height (nested (suc n)) ≡ suc (height (nested n))
    one_higher n = search (rules, the_lemmas)

parts_of : (n : ℕ) → has_regular_parts names (nested n) ≡ true
parts_of zero = search (rules, the_lemmas)
parts_of (suc n) = same_parts n ∙ parts_of n
  where
    same_parts : (n : ℕ) → has_regular_parts names (nested (suc n)) ≡ has_regular_parts names (nested n)
    same_parts n = search (rules, the_lemmas)

depends_on_height : (n : ℕ) → is_regular (nested n) ≡ nat_le n MOST_TREE_HEIGHT
depends_on_height n = ap (λ is. is && nat_le (height (nested n)) MOST_TREE_HEIGHT) (parts_of n) ∙ ap (λ h. nat_le h MOST_TREE_HEIGHT) (height_of n)

as_high_as_may_be : is_regular (nested 100) ≡ true
as_high_as_may_be = depends_on_height 100

too_high : is_regular (nested 101) ≡ false
too_high = depends_on_height 101

-- Addresses and literals.
abbrev pair_of_ones : Expr
pair_of_ones = e.Compound (one ∷ one ∷ [])

an_address : is_address (x) ≡ true
an_address = search (rules, the_lemmas)

a_place : is_address (e.Select (e.Select x one) one) ≡ true
a_place = search (rules, the_lemmas)

addresses : is_address (e.Compound (x ∷ e.Select x one ∷ [])) ≡ true
addresses = search (rules, the_lemmas)

a_place_in_a_number : is_address (e.Select one x) ≡ false
a_place_in_a_number = search (rules, the_lemmas)

a_value : is_address (one) ≡ false
a_value = search (rules, the_lemmas)

addresses_and_a_value : is_address (e.Compound (x ∷ one ∷ [])) ≡ false
addresses_and_a_value = search (rules, the_lemmas)

a_literal : is_literal (one) ≡ true
a_literal = search (rules, the_lemmas)

with_sign : is_literal (e.Apply1 op.Negate one) ≡ true
with_sign = search (rules, the_lemmas)

with_two_signs : is_literal (e.Apply1 op.Negate (e.Apply1 op.Plus one)) ≡ false
with_two_signs = search (rules, the_lemmas)

with_another_prefix : is_literal (e.Apply1 op.Numerator one) ≡ false
with_another_prefix = search (rules, the_lemmas)

a_ratio : is_literal (e.Apply2 op.Divide (e.Apply1 op.Negate one) one) ≡ true
a_ratio = search (rules, the_lemmas)

a_sign_below : is_literal (e.Apply2 op.Divide one (e.Apply1 op.Negate one)) ≡ false
a_sign_below = search (rules, the_lemmas)

over_zero : is_literal (e.Apply2 op.Divide one (e.Number (whole_number (pos 0)))) ≡ false
over_zero = search (rules, the_lemmas)

a_sum : is_literal (e.Apply2 op.Add one one) ≡ false
a_sum = search (rules, the_lemmas)

a_sign_before_a_ratio : is_literal (e.Apply1 op.Negate (e.Apply2 op.Divide one one)) ≡ false
a_sign_before_a_ratio = search (rules, the_lemmas)

a_literal_text : is_literal (e.Text (piece.Chars (codes "a") ∷ [])) ≡ true
a_literal_text = search (rules, the_lemmas)

with_conversion : is_literal (e.Text (piece.Conversion one ∷ [])) ≡ false
with_conversion = search (rules, the_lemmas)

a_literal_compound : is_literal (pair_of_ones) ≡ true
a_literal_compound = search (rules, the_lemmas)

a_name_among_literals : is_literal (e.Compound (one ∷ x ∷ [])) ≡ false
a_name_among_literals = search (rules, the_lemmas)

a_literal_list : is_literal (e.List (fill.One pair_of_ones ∷ [])) ≡ true
a_literal_list = search (rules, the_lemmas)

a_range : is_literal (e.List (fill.Range one one ∷ [])) ≡ false
a_range = search (rules, the_lemmas)

a_literal_table : is_literal (e.Table (pair one one ∷ [])) ≡ true
a_literal_table = search (rules, the_lemmas)

a_name_as_key : is_literal (e.Table (pair x one ∷ [])) ≡ false
a_name_as_key = search (rules, the_lemmas)

an_empty_literal : is_literal (e.Empty) ≡ false
an_empty_literal = search (rules, the_lemmas)

a_name_as_literal : is_literal (x) ≡ false
a_name_as_literal = search (rules, the_lemmas)

-- Names that are bound, and tests.
abbrev bound : ℕ → Bound
bound i = b.One (record { 0 = i })

abbrev link : Op → Link
link o = record { op = o; right = one }

abbrev is_test : Test → Bool
is_test = is_regular_test names

abbrev positive : Test
positive = t.Chain x (link op.More ∷ [])

one_bound : is_regular_bound names (bound 0) ≡ true
one_bound = search (rules, bounds)

two_bound : is_regular_bound names (b.Several (bound 0 ∷ bound 1 ∷ [])) ≡ true
two_bound = search (rules, bounds)

a_bound_in_brackets : is_regular_bound names (b.Several (bound 0 ∷ [])) ≡ false
a_bound_in_brackets = search (rules, bounds)

a_bound_past_the_last : is_regular_bound names (bound 4) ≡ false
a_bound_past_the_last = search (rules, bounds)

a_relation : is_test (positive) ≡ true
a_relation = search (rules, the_lemmas, bounds, tests)

a_chain : is_test (t.Chain x (link op.Less ∷ link op.Equal ∷ [])) ≡ true
a_chain = search (rules, the_lemmas, bounds, tests)

no_relation : is_test (t.Chain x []) ≡ false
no_relation = search (rules, the_lemmas, bounds, tests)

an_operation_as_relation : is_test (t.Chain x (link op.Add ∷ [])) ≡ false
an_operation_as_relation = search (rules, the_lemmas, bounds, tests)

a_membership_as_relation : is_test (t.Chain x (link op.In ∷ [])) ≡ false
a_membership_as_relation = search (rules, the_lemmas, bounds, tests)

a_membership : is_test (t.Member op.NotIn one x) ≡ true
a_membership = search (rules, the_lemmas, bounds, tests)

a_relation_as_membership : is_test (t.Member op.Less one x) ≡ false
a_relation_as_membership = search (rules, the_lemmas, bounds, tests)

both : is_test (t.And positive (t.Not positive)) ≡ true
both = search (rules, the_lemmas, bounds, tests)

either : is_test (t.Or positive (t.Refinement (record { 0 = 2 }))) ≡ true
either = search (rules, the_lemmas, bounds, tests)

an_expression_as_test : is_test (t.Refinement (record { 0 = 1 })) ≡ false
an_expression_as_test = search (rules, the_lemmas, bounds, tests)

a_quantifier : is_test (t.Quantified q.Each (bound 0) x positive) ≡ true
a_quantifier = search (rules, the_lemmas, bounds, tests)

a_quantifier_of_nothing : is_test (t.Quantified q.No (bound 4) x positive) ≡ false
a_quantifier_of_nothing = search (rules, the_lemmas, bounds, tests)

a_call_of_a_test : is_test (t.Call holds (x ∷ [])) ≡ true
unfolding scanned.word_in_front
a_call_of_a_test = search (rules, the_lemmas, bounds, tests)

a_call_of_a_function : is_test (t.Call called (x ∷ [])) ≡ false
unfolding scanned.word_in_front
a_call_of_a_function = search (rules, the_lemmas, bounds, tests)
