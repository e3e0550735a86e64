-- The type line of `PUT 1 IN x`: there is none in an empty workspace, and it is line 1 where x is a text.
use Rattle.std.specs.Prelude.{◌≡◌, ◌-◌, ℕ, zero, suc, List, [], ◌∷◌, Option, Some, None, codes, refl, slice_get}
use Rattle.std.proofs.Common.{◌∙◌, ap, sym, subst, arith, rules}
use Rattle.std.specs.List.{Contains}
use Rattle.std.proofs.lemmas.List.Elements.{All-nil, All-head}
use Rattle.abc_num.specs.declared.types.Ground.{Ground}
use Rattle.abc_num.specs.declared.types.Ground.TheVariants as type
use Rattle.abc_num.proofs.Proper.{proper_number}
use Rattle.abc_value.specs.Tree.{Tree}
use Rattle.abc_value.specs.Tree as tree
use Rattle.abc_value.specs.Types.{has}
use Rattle.abc_tree.specs.Calls.{command_called_upto}
use Rattle.abc_tree.specs.RegularItems.{bounds_of, parts_of}
use Rattle.abc_tree.specs.declared.templates.Template.{Template}
use Rattle.abc_tree.specs.declared.formulas.Expr.{the_lemmas}
use Rattle.abc_tree.specs.declared.formulas.Bound.{the_lemmas as bounds}
use Rattle.abc_tree.specs.declared.formulas.Test.{the_lemmas as tests}
use Rattle.abc_tree.specs.declared.commands.ActionNode.{the_lemmas as actions}
use Rattle.abc_tree.specs.declared.commands.Item.{Item}
use Rattle.abc_groups.specs.Program.{LAST_LINE, texts}
use Rattle.abc_ground.specs.Seen.{numeral, name, command_upto}
use Rattle.abc_ground.specs.Fits.{Signature, Typing, RuleFits, each_fits}
use Rattle.abc_ground.specs.Calls.{any_allowed}
use Rattle.abc_ground.specs.Typable.{IsOffered, IsTypeLine}
use Rattle.abc_store.specs.Workspace.{Workspace, empty}
use Rattle.abc_outcome.specs.Missing.{called_by, first_missing}
use Rattle.abc_outcome.specs.Checks.{TakesCommand, TellsOf, IsTypeLineOf}
use Rattle.abc_examples.proofs.Typing.{pair, numeral_has_one, name_has_one, pair_fits, pair_rule, number_is_no_text}
use Rattle.abc_examples.proofs.Principals.{had_is, some_is}
use Rattle.abc_examples.proofs.Reading.{put_line, put, read, read_with_x}

abbrev pub x_is_a : Workspace
x_is_a = record { targets = (codes "x", tree.text (codes "a")) ∷ []; units = [] }

put_seen : (m : ℕ) → command_upto (suc m) put ≡ pair numeral (name 0)
put_seen m = search (rules, the_lemmas, bounds, tests, actions)

no_bound : bounds_of (parts_of put.action) ≡ []
no_bound = search (rules, the_lemmas, bounds, tests, actions)

calls_none : command_called_upto LAST_LINE put ≡ []
calls_none = search (rules, the_lemmas, tests, actions)

-- no unit is missing
pub reaches_none : first_missing [] (called_by put) ≡ None
unfolding first_missing
reaches_none = ap (λ ts. first_missing [] (texts ts)) calls_none

-- ---- where there is no target

number_is_taken : TakesCommand empty put LAST_LINE
number_is_taken = (
  (λ target. type.Number),
  record { proper = λ target. proper_number; held = All-nil _; units = λ t there. absurd (cc) },
  (
    typing,
    record {
      names = refl;
      targets_are = λ i apart t is. at i t is;
      result = refl;
      body = subst (λ xs. each_fits uses typing xs [] tt tt) (sym (put_seen (LAST_LINE - 1))) (pair_fits uses typing numeral (name 0) type.Number refl refl);
    },
  ),
)
  where
    typing : Typing
    typing = record { names = type.Number ∷ []; result = None }

    uses : Template → Unit {0} → Option Signature → Unit {0} → Type 0
    uses = any_allowed (λ t o. IsOffered [] (λ target. type.Number) t o)

    at : (i : ℕ) (t : List ℕ) → slice_get put.names i ≡ Some t → slice_get typing.names i ≡ Some type.Number
    at zero t is = refl
    at (suc i) t is = absurd (cc)

pub accepted : IsTypeLineOf empty put_line None
accepted = subst (λ (found : Option Item). TellsOf empty found None) (sym read) (λ none. number_is_taken)

pub has_no_line : (n : ℕ) → IsTypeLineOf empty put_line (Some n) → ⊥
has_no_line n told = (subst (λ (found : Option Item). TellsOf empty found (Some n)) read told reaches_none).1 number_is_taken

-- ---- where x is a text

refused_upto : (m : ℕ) → TakesCommand x_is_a put (suc m) → ⊥
refused_upto m taken =
    clash taken.2.0 (any_allowed (λ t o. IsOffered [] taken.0 t o))
    (taken.2.1.targets_are 0 (λ c. absurd (omega (arith, (subst (λ is. Contains is 0) no_bound c).1))) (codes "x") refl)
    (subst (λ xs. each_fits (any_allowed (λ t o. IsOffered [] taken.0 t o)) taken.2.0 xs [] tt tt) (put_seen m) taken.2.1.body)
  where
    held : taken.0 (codes "x") ≡ type.Text
    held = All-head (λ (v : List ℕ × Tree). has v.1 (taken.0 v.0)) (codes "x", tree.text (codes "a")) [] taken.1.held

    clash : (g : Typing) (uses : Template → Unit {0} → Option Signature → Unit {0} → Type 0) → slice_get g.names 0 ≡ Some (taken.0 (codes "x")) → each_fits uses g (pair numeral (name 0)) [] tt tt → ⊥
    clash g uses x_is body =
        let two : (t : Ground) × RuleFits g numeral [] (t ∷ []) × RuleFits g (name 0) [] (t ∷ []) = pair_rule uses g numeral (name 0) numeral_has_one (name_has_one 0) body in
        let same : Some (taken.0 (codes "x")) ≡ Some two.0 = sym x_is ∙ had_is (slice_get g.names 0) two.0 two.2 in
        number_is_no_text (sym two.1 ∙ (sym (some_is same) ∙ held))

first_line : IsTypeLine (TakesCommand x_is_a put) 1
first_line = record { from = omega arith; refused = refused_upto 0; before = λ m low high. absurd (omega (arith, low, high)) }

pub refused : IsTypeLineOf x_is_a put_line (Some 1)
refused = subst (λ (found : Option Item). TellsOf x_is_a found (Some 1)) (sym read_with_x) (λ none. (first_line, refused_upto (LAST_LINE - 1)))

-- and nothing else is told of it: neither that it is accepted, nor a later line
pub is_not_accepted : IsTypeLineOf x_is_a put_line None → ⊥
is_not_accepted told = refused_upto (LAST_LINE - 1) (subst (λ (found : Option Item). TellsOf x_is_a found None) read_with_x told reaches_none)

pub has_one_line : (n : ℕ) → IsTypeLineOf x_is_a put_line (Some n) → n ≡ 1
has_one_line n told = by n (subst (λ (found : Option Item). TellsOf x_is_a found (Some n)) read_with_x told reaches_none).0
  where
    by : (n : ℕ) → IsTypeLine (TakesCommand x_is_a put) n → n ≡ 1
    by zero line = absurd (omega (arith, line.from))
    by (suc zero) line = refl
    by (suc (suc k)) line = absurd (refused_upto 0 (line.before 1 (omega arith) (omega arith)))
