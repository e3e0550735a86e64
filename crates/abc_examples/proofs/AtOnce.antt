-- Which values, tests and addresses are found at once.
use Rattle.std.specs.Prelude.{◌≡◌, List, true, false, [], ◌∷◌, codes, pos}
use Rattle.std.proofs.Common.{rules}
use Rattle.abc_num.specs.Number.{whole_number}
use Rattle.abc_tree.specs.declared.operations.Op.TheVariants as op
use Rattle.abc_tree.specs.declared.formulas.Expr.{Expr, the_lemmas}
use Rattle.abc_tree.specs.declared.formulas.Expr.TheVariants as e
use Rattle.abc_tree.specs.declared.formulas.Fill.TheVariants as fill
use Rattle.abc_tree.specs.declared.formulas.Link.{Link}
use Rattle.abc_tree.specs.declared.formulas.Test.TheOpen.{Test-F}
use Rattle.abc_tree.specs.declared.formulas.Test.{Test}
use Rattle.abc_tree.specs.declared.commands.Action.{Action}
use Rattle.abc_tree.specs.declared.commands.RefinementKind.TheVariants as refines
use Rattle.abc_tree.specs.declared.templates.Template.{Template}
use Rattle.abc_meaning.specs.Here.{Scope, in_command, in_unit}
use Rattle.abc_pending.specs.AtOnce.{is_address_at_once, is_at_once, is_truth_at_once}
use Rattle.abc_pending.specs.declared.at_once.TheConstants.{HEIGHT_AT_ONCE}

-- among the names of a command, of which none is a refinement
abbrev names : Action → Scope
names a = in_command (record { names = codes "t" ∷ codes "i" ∷ []; action = a })

-- in a unit where i is a refinement and t is none
abbrev refined : Template → List Action → Scope
refined f suite = in_unit (record {
  template = f;
  formals = [];
  names = codes "t" ∷ codes "i" ∷ [];
  shared = [];
  body = [];
  refinements = record { name = codes "i"; kind = refines.Expression; line = 2; suite = suite } ∷ [];
  lines = [];
})

-- 1, the names t and i, i+1, t[i+1], < 1
abbrev one : Expr
one = e.Number (whole_number (pos 1))

abbrev t : Expr
t = e.Name (record { 0 = 0 })

abbrev i : Expr
i = e.Name (record { 0 = 1 })

abbrev next : Expr
next = e.Apply2 op.Add i one

abbrev part : Expr
part = e.Select t next

abbrev below : Link
below = record { op = op.Less; right = one }

-- -i, and i below so many signs
abbrev minus : Expr → Expr
minus x = e.Apply1 op.Negate x

abbrev eight : Expr
eight = minus (minus (minus (minus (minus (minus (minus (minus i)))))))

-- an operation needs a node above its operands, and a selection at such a key two
sum_with_room : (a : Action) → is_at_once 1 (names a) next ≡ true
unfolding is_at_once
sum_with_room a = search (rules, the_lemmas)

sum_without_room : (a : Action) → is_at_once 0 (names a) next ≡ false
unfolding is_at_once
sum_without_room a = search (rules, the_lemmas)

look_with_room : (a : Action) → is_at_once 2 (names a) part ≡ true
unfolding is_at_once
look_with_room a = search (rules, the_lemmas)

look_without_room : (a : Action) → is_at_once 1 (names a) part ≡ false
unfolding is_at_once
look_without_room a = search (rules, the_lemmas)

-- there is room for eight nodes above a name, and not for nine
as_high_as_may_be : (a : Action) → is_at_once HEIGHT_AT_ONCE (names a) eight ≡ true
unfolding is_at_once
as_high_as_may_be a = search (rules, the_lemmas)

too_high : (a : Action) → is_at_once HEIGHT_AT_ONCE (names a) (minus eight) ≡ false
unfolding is_at_once
too_high a = search (rules, the_lemmas)

-- a refinement is work, and so is what it is an operand of; as an address it is a name like another
refinement_is_work : (f : Template) (suite : List Action) → is_at_once 8 (refined f suite) i ≡ false
unfolding is_at_once
refinement_is_work f suite = search (rules, the_lemmas)

operand_is_work : (f : Template) (suite : List Action) → is_at_once 8 (refined f suite) next ≡ false
unfolding is_at_once
operand_is_work f suite = search (rules, the_lemmas)

name_beside_a_refinement : (f : Template) (suite : List Action) → is_at_once 8 (refined f suite) t ≡ true
unfolding is_at_once
name_beside_a_refinement f suite = search (rules, the_lemmas)

refinement_as_address : (f : Template) (suite : List Action) → is_address_at_once 0 (refined f suite) i ≡ true
unfolding is_address_at_once
refinement_as_address f suite = search (rules, the_lemmas)

-- a text is work
text_is_work : (a : Action) → is_at_once 8 (names a) (e.Text []) ≡ false
unfolding is_at_once
text_is_work a = search (rules, the_lemmas)

-- a display is work
display_is_work : (a : Action) → is_at_once 8 (names a) (e.List (fill.One one ∷ [])) ≡ false
unfolding is_at_once
display_is_work a = search (rules, the_lemmas)

-- a part of a table is an address, a number is none
part_is_address : (a : Action) → is_address_at_once 1 (names a) part ≡ true
unfolding is_address_at_once is_at_once
part_is_address a = search (rules, the_lemmas)

-- each selection needs room, and its key is a value that is found at once
part_without_room : (a : Action) → is_address_at_once 1 (names a) (e.Select part i) ≡ false
unfolding is_address_at_once is_at_once
part_without_room a = search (rules, the_lemmas)

part_with_room : (a : Action) → is_address_at_once 2 (names a) (e.Select part i) ≡ true
unfolding is_address_at_once is_at_once
part_with_room a = search (rules, the_lemmas)

key_is_too_high : (a : Action) → is_address_at_once 8 (names a) (e.Select t (minus eight)) ≡ false
unfolding is_address_at_once is_at_once
key_is_too_high a = search (rules, the_lemmas)

number_is_no_address : (a : Action) → is_address_at_once 8 (names a) one ≡ false
unfolding is_address_at_once
number_is_no_address a = search (rules, the_lemmas)

-- one relation is found at once, a chain of two is work
relation_is_found : (a : Action) → is_truth_at_once (names a) (Test-F.Chain part (below ∷ [])) ≡ true
unfolding is_at_once
relation_is_found a = search (rules, the_lemmas)

chain_is_work : (a : Action) → is_truth_at_once (names a) (Test-F.Chain part (below ∷ below ∷ [])) ≡ false
chain_is_work a = search (rules, the_lemmas)

-- a membership is found at once; what two tests make is work
membership_is_found : (a : Action) → is_truth_at_once (names a) (Test-F.Member op.In i t) ≡ true
unfolding is_at_once
membership_is_found a = search (rules, the_lemmas)

high_operand_is_work : (a : Action) → is_truth_at_once (names a) (Test-F.Member op.In (minus eight) t) ≡ false
unfolding is_at_once
high_operand_is_work a = search (rules, the_lemmas)

two_tests_are_work : (a : Action) (x y : Test) → is_truth_at_once (names a) (Test-F.And x y) ≡ false
two_tests_are_work a x y = search (rules, the_lemmas)
