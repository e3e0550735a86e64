-- Regular and irregular commands and units, by computing.
use Rattle.std.specs.Prelude.{◌≡◌, ℕ, Bool, true, false, List, [], ◌∷◌, Some, None, codes, pos}
use Rattle.std.proofs.Common.{rules}
use Rattle.abc_num.specs.Number.{whole_number}
use Rattle.abc_num.specs.declared.lines.Line.{Line}
use Rattle.abc_tokens.specs.Scanned as scanned
use Rattle.abc_tree.specs.declared.formulas.Expr.{Expr, the_lemmas}
use Rattle.abc_tree.specs.declared.formulas.Expr.TheVariants as e
use Rattle.abc_tree.specs.declared.formulas.NameId.{NameId}
use Rattle.abc_tree.specs.declared.formulas.Bound.{Bound, the_lemmas as bounds}
use Rattle.abc_tree.specs.declared.formulas.Bound.TheVariants as b
use Rattle.abc_tree.specs.declared.formulas.Test.{Test, the_lemmas as tests}
use Rattle.abc_tree.specs.declared.formulas.Test.TheVariants as t
use Rattle.abc_tree.specs.declared.operations.Op.TheVariants as op
use Rattle.abc_tree.specs.declared.templates.Template.{Template}
use Rattle.abc_tree.specs.declared.templates.TemplateKind.{TemplateKind}
use Rattle.abc_tree.specs.declared.templates.TemplateKind.TheVariants as kind
use Rattle.abc_tree.specs.declared.templates.Word.TheVariants as w
use Rattle.abc_tree.specs.declared.commands.Action.{Action, roll-Action}
use Rattle.abc_tree.specs.declared.commands.Alternative.{Alternative, roll-Alternative}
use Rattle.abc_tree.specs.declared.commands.ActionNode.{ActionNode, the_lemmas as actions}
use Rattle.abc_tree.specs.declared.commands.ActionNode.TheVariants as n
use Rattle.abc_tree.specs.declared.commands.Unit.{Unit as Routine}
use Rattle.abc_tree.specs.declared.commands.Refinement.{Refinement}
use Rattle.abc_tree.specs.declared.commands.RefinementKind.{RefinementKind}
use Rattle.abc_tree.specs.declared.commands.RefinementKind.TheVariants as refines
use Rattle.abc_tree.specs.RegularItems.{is_regular_command, is_regular_unit}

abbrev pub name : ℕ → Expr
name i = e.Name (record { 0 = i })

abbrev pub x : Expr
x = name 0

abbrev pub one : Expr
one = e.Number (whole_number (pos 1))

abbrev bound : ℕ → Bound
bound i = b.One (record { 0 = i })

abbrev pub positive : Test
positive = t.Chain x (record { op = op.More; right = one } ∷ [])

abbrev pub on : ℕ → ActionNode → Action
on line node = roll-Action (record { line = line; node = node })

abbrev otherwise : ℕ → List Action → Alternative
otherwise line suite = roll-Alternative (record { line = line; test = None; suite = suite })

abbrev when : ℕ → Test → List Action → Alternative
when line test suite = roll-Alternative (record { line = line; test = Some test; suite = suite })

abbrev template : TemplateKind → Template
template k = record { kind = k; words = w.Key (codes "f") ∷ w.Place ∷ []; places = 1 }

abbrev draw : Template
draw = record { kind = kind.Command; words = w.Key (codes "DRAW") ∷ w.Place ∷ []; places = 1 }

-- Immediate commands with two names.
abbrev is_regular : Action → Bool
is_regular action = is_regular_command (record { names = codes "x" ∷ codes "y" ∷ []; action = action })

abbrev put : Action
put = on 1 (n.Put one x)

a_put : is_regular (put) ≡ true
unfolding is_regular_command
a_put = search (rules, the_lemmas, bounds, tests, actions)

a_put_in_a_value : is_regular (on 1 (n.Put x one)) ≡ false
unfolding is_regular_command
a_put_in_a_value = search (rules, the_lemmas, bounds, tests, actions)

a_put_of_a_name_past_the_last : is_regular (on 1 (n.Put (name 2) x)) ≡ false
unfolding is_regular_command
a_put_of_a_name_past_the_last = search (rules, the_lemmas, bounds, tests, actions)

line_nought : is_regular (on 0 (n.Put one x)) ≡ false
unfolding is_regular_command
line_nought = search (rules, the_lemmas, bounds, tests, actions)

line_past_the_last : is_regular (on 10001 (n.Put one x)) ≡ false
unfolding is_regular_command
line_past_the_last = search (rules, the_lemmas, bounds, tests, actions)

a_write : is_regular (on 1 (n.Write 1 (Some x) 0)) ≡ true
unfolding is_regular_command
a_write = search (rules, the_lemmas, bounds, tests, actions)

a_write_of_nothing : is_regular (on 1 (n.Write 2 None 0)) ≡ true
unfolding is_regular_command
a_write_of_nothing = search (rules, the_lemmas, bounds, tests, actions)

a_write_of_an_irregular : is_regular (on 1 (n.Write 0 (Some (name 2)) 0)) ≡ false
unfolding is_regular_command
a_write_of_an_irregular = search (rules, the_lemmas, bounds, tests, actions)

an_insert : is_regular (on 1 (n.Insert one x)) ≡ true
unfolding is_regular_command
an_insert = search (rules, the_lemmas, bounds, tests, actions)

a_remove_from_a_value : is_regular (on 1 (n.Remove x one)) ≡ false
unfolding is_regular_command
a_remove_from_a_value = search (rules, the_lemmas, bounds, tests, actions)

a_delete : is_regular (on 1 (n.Delete (e.Select x one))) ≡ true
unfolding is_regular_command
a_delete = search (rules, the_lemmas, bounds, tests, actions)

a_read : is_regular (on 1 (n.ReadExample x one)) ≡ true
unfolding is_regular_command
a_read = search (rules, the_lemmas, bounds, tests, actions)

a_read_with_no_literal : is_regular (on 1 (n.ReadExample x x)) ≡ false
unfolding is_regular_command
a_read_with_no_literal = search (rules, the_lemmas, bounds, tests, actions)

a_raw_read : is_regular (on 1 (n.ReadRaw x)) ≡ true
unfolding is_regular_command
a_raw_read = search (rules, the_lemmas, bounds, tests, actions)

a_check : is_regular (on 1 (n.Check positive)) ≡ true
unfolding is_regular_command
a_check = search (rules, the_lemmas, bounds, tests, actions)

a_pass : is_regular (on 1 n.Pass) ≡ true
unfolding is_regular_command
a_pass = search (rules, the_lemmas, bounds, tests, actions)

a_quit : is_regular (on 1 n.Quit) ≡ true
unfolding is_regular_command
a_quit = search (rules, the_lemmas, bounds, tests, actions)

a_return : is_regular (on 1 (n.Return x)) ≡ false
unfolding is_regular_command
a_return = search (rules, the_lemmas, bounds, tests, actions)

a_report : is_regular (on 1 (n.Report positive)) ≡ false
unfolding is_regular_command
a_report = search (rules, the_lemmas, bounds, tests, actions)

a_success : is_regular (on 1 n.Succeed) ≡ false
unfolding is_regular_command
a_success = search (rules, the_lemmas, bounds, tests, actions)

a_failure : is_regular (on 1 n.Fail) ≡ false
unfolding is_regular_command
a_failure = search (rules, the_lemmas, bounds, tests, actions)

a_conditional : is_regular (on 1 (n.If positive (on 2 n.Pass ∷ []))) ≡ true
unfolding is_regular_command
a_conditional = search (rules, the_lemmas, bounds, tests, actions)

lines_that_fall : is_regular (on 2 (n.While positive (on 1 n.Pass ∷ []))) ≡ false
unfolding is_regular_command
lines_that_fall = search (rules, the_lemmas, bounds, tests, actions)

a_choice : is_regular (on 1 (n.Select (when 2 positive (on 2 n.Pass ∷ []) ∷ otherwise 3 (on 4 n.Pass ∷ []) ∷ []))) ≡ true
unfolding is_regular_command
a_choice = search (rules, the_lemmas, bounds, tests, actions)

an_early_else : is_regular (on 1 (n.Select (otherwise 2 (on 2 n.Pass ∷ []) ∷ when 3 positive (on 4 n.Pass ∷ []) ∷ []))) ≡ false
unfolding is_regular_command
an_early_else = search (rules, the_lemmas, bounds, tests, actions)

a_loop : is_regular (on 1 (n.For (bound 1) x (on 2 (n.Write 0 (Some (name 1)) 1) ∷ []))) ≡ true
unfolding is_regular_command
a_loop = search (rules, the_lemmas, bounds, tests, actions)

a_loop_that_changes_its_name : is_regular (on 1 (n.For (bound 1) x (on 2 (n.Put one (name 1)) ∷ []))) ≡ false
unfolding is_regular_command
a_loop_that_changes_its_name = search (rules, the_lemmas, bounds, tests, actions)

a_call : is_regular (on 1 (n.Call draw (x ∷ []))) ≡ true
unfolding is_regular_command scanned.word_in_front
a_call = search (rules, the_lemmas, bounds, tests, actions)

a_call_of_a_function : is_regular (on 1 (n.Call (template kind.Function) (x ∷ []))) ≡ false
unfolding is_regular_command scanned.word_in_front
a_call_of_a_function = search (rules, the_lemmas, bounds, tests, actions)

a_call_without_its_actual : is_regular (on 1 (n.Call draw [])) ≡ false
unfolding is_regular_command scanned.word_in_front
a_call_without_its_actual = search (rules, the_lemmas, bounds, tests, actions)

a_refinement_outside : is_regular (on 1 (n.Refinement (codes "TIDY"))) ≡ false
unfolding is_regular_command
a_refinement_outside = search (rules, the_lemmas, bounds, tests, actions)

-- Units of up to nine lines.
abbrev written : Line
written = record { indent = 0; text = codes "x"; long = false }

abbrev nine_lines : List Line
nine_lines = written ∷ written ∷ written ∷ written ∷ written ∷ written ∷ written ∷ written ∷ written ∷ []

abbrev refinement : ℕ → List ℕ → RefinementKind → Action → Refinement
refinement line text k action = record { name = text; kind = k; line = line; suite = action ∷ [] }

-- a unit with one formal, x, and a name y
abbrev unit : Template → List Action → List Refinement → Routine
unit heading body refinements = record {
  template = heading;
  formals = bound 0 ∷ [];
  names = codes "x" ∷ codes "y" ∷ codes "r" ∷ [];
  shared = [];
  body = body;
  refinements = refinements;
  lines = nine_lines;
}

abbrev with_formals : List Bound → Routine → Routine
with_formals bounds u = record {
  template = u.template;
  formals = bounds;
  names = u.names;
  shared = u.shared;
  body = u.body;
  refinements = u.refinements;
  lines = u.lines;
}

abbrev with_shared : List NameId → Routine → Routine
with_shared ids u = record {
  template = u.template;
  formals = u.formals;
  names = u.names;
  shared = ids;
  body = u.body;
  refinements = u.refinements;
  lines = u.lines;
}

abbrev with_names : List (List ℕ) → Routine → Routine
with_names names u = record {
  template = u.template;
  formals = u.formals;
  names = names;
  shared = u.shared;
  body = u.body;
  refinements = u.refinements;
  lines = u.lines;
}

abbrev calls_tidy : Action
calls_tidy = on 2 (n.Refinement (codes "TIDY"))

abbrev returns_r : Action
returns_r = on 2 (n.Return (name 2))

abbrev gives : Routine
gives = unit (template kind.Function) (on 2 (n.Return x) ∷ []) []

a_unit : is_regular_unit (unit draw (on 2 (n.Put x (name 1)) ∷ on 3 n.Quit ∷ []) []) ≡ true
unfolding is_regular_unit scanned.word_in_front
a_unit = search (rules, the_lemmas, bounds, tests, actions)

a_function : is_regular_unit (gives) ≡ true
unfolding is_regular_unit scanned.word_in_front
a_function = search (rules, the_lemmas, bounds, tests, actions)

a_predicate : is_regular_unit (unit (template kind.Predicate) (on 2 n.Fail ∷ []) []) ≡ true
unfolding is_regular_unit scanned.word_in_front
a_predicate = search (rules, the_lemmas, bounds, tests, actions)

a_unit_that_returns : is_regular_unit (unit draw (on 2 (n.Return x) ∷ []) []) ≡ false
unfolding is_regular_unit scanned.word_in_front
a_unit_that_returns = search (rules, the_lemmas, bounds, tests, actions)

a_function_that_quits : is_regular_unit (unit (template kind.Function) (on 2 n.Quit ∷ []) []) ≡ false
unfolding is_regular_unit scanned.word_in_front
a_function_that_quits = search (rules, the_lemmas, bounds, tests, actions)

a_function_that_reports : is_regular_unit (unit (template kind.Function) (on 2 (n.Report positive) ∷ []) []) ≡ false
unfolding is_regular_unit scanned.word_in_front
a_function_that_reports = search (rules, the_lemmas, bounds, tests, actions)

no_formal : is_regular_unit (with_formals [] gives) ≡ false
unfolding is_regular_unit scanned.word_in_front
no_formal = search (rules, the_lemmas, bounds, tests, actions)

a_formal_past_the_last : is_regular_unit (with_formals (bound 3 ∷ []) gives) ≡ false
unfolding is_regular_unit scanned.word_in_front
a_formal_past_the_last = search (rules, the_lemmas, bounds, tests, actions)

a_name_twice_in_a_formal : is_regular_unit (with_formals (b.Several (bound 0 ∷ bound 0 ∷ []) ∷ []) gives) ≡ false
unfolding is_regular_unit scanned.word_in_front
a_name_twice_in_a_formal = search (rules, the_lemmas, bounds, tests, actions)

a_command_with_a_formal_of_two_names : is_regular_unit (with_formals (b.Several (bound 0 ∷ bound 1 ∷ []) ∷ []) (unit draw (on 2 n.Pass ∷ []) [])) ≡ false
unfolding is_regular_unit scanned.word_in_front
a_command_with_a_formal_of_two_names = search (rules, the_lemmas, bounds, tests, actions)

a_name_that_stands_twice : is_regular_unit (with_names (codes "x" ∷ codes "y" ∷ codes "x" ∷ []) gives) ≡ false
unfolding is_regular_unit scanned.word_in_front
a_name_that_stands_twice = search (rules, the_lemmas, bounds, tests, actions)

a_formal_of_two_names : is_regular_unit (with_formals (b.Several (bound 0 ∷ bound 1 ∷ []) ∷ []) gives) ≡ true
unfolding is_regular_unit scanned.word_in_front
a_formal_of_two_names = search (rules, the_lemmas, bounds, tests, actions)

a_shared_name : is_regular_unit (with_shared (record { 0 = 1 } ∷ []) gives) ≡ true
unfolding is_regular_unit scanned.word_in_front
a_shared_name = search (rules, the_lemmas, bounds, tests, actions)

a_shared_name_past_the_last : is_regular_unit (with_shared (record { 0 = 3 } ∷ []) gives) ≡ false
unfolding is_regular_unit scanned.word_in_front
a_shared_name_past_the_last = search (rules, the_lemmas, bounds, tests, actions)

a_shared_formal : is_regular_unit (with_shared (record { 0 = 0 } ∷ []) gives) ≡ false
unfolding is_regular_unit scanned.word_in_front
a_shared_formal = search (rules, the_lemmas, bounds, tests, actions)

lines_that_fall_in_a_unit : is_regular_unit (unit draw (on 3 n.Pass ∷ on 2 n.Pass ∷ []) []) ≡ false
unfolding is_regular_unit scanned.word_in_front
lines_that_fall_in_a_unit = search (rules, the_lemmas, bounds, tests, actions)

a_line_past_the_unit : is_regular_unit (unit draw (on 10 n.Pass ∷ []) []) ≡ false
unfolding is_regular_unit scanned.word_in_front
a_line_past_the_unit = search (rules, the_lemmas, bounds, tests, actions)

a_refinement : is_regular_unit (unit draw (calls_tidy ∷ []) (refinement 3 (codes "TIDY") refines.Command (on 4 n.Quit) ∷ [])) ≡ true
unfolding is_regular_unit scanned.word_in_front
a_refinement = search (rules, the_lemmas, bounds, tests, actions)

an_unknown_refinement : is_regular_unit (unit draw (calls_tidy ∷ []) (refinement 3 (codes "SORT") refines.Command (on 4 n.Pass) ∷ [])) ≡ false
unfolding is_regular_unit scanned.word_in_front
an_unknown_refinement = search (rules, the_lemmas, bounds, tests, actions)

a_refinement_twice : is_regular_unit (unit draw (calls_tidy ∷ []) (refinement 3 (codes "TIDY") refines.Command (on 4 n.Pass) ∷ refinement 5 (codes "TIDY") refines.Command (on 6 n.Pass) ∷ [])) ≡ false
unfolding is_regular_unit scanned.word_in_front
a_refinement_twice = search (rules, the_lemmas, bounds, tests, actions)

a_refinement_above_the_body : is_regular_unit (unit draw (on 4 (n.Refinement (codes "TIDY")) ∷ []) (refinement 3 (codes "TIDY") refines.Command (on 4 n.Pass) ∷ [])) ≡ false
unfolding is_regular_unit scanned.word_in_front
a_refinement_above_the_body = search (rules, the_lemmas, bounds, tests, actions)

a_function_quit_in_a_refinement : is_regular_unit (unit (template kind.Function) (calls_tidy ∷ []) (refinement 3 (codes "TIDY") refines.Command (on 4 n.Quit) ∷ [])) ≡ false
unfolding is_regular_unit scanned.word_in_front
a_function_quit_in_a_refinement = search (rules, the_lemmas, bounds, tests, actions)

an_expression_refinement : is_regular_unit (unit (template kind.Function) (returns_r ∷ []) (refinement 3 (codes "r") refines.Expression (on 4 (n.Return x)) ∷ [])) ≡ true
unfolding is_regular_unit scanned.word_in_front
an_expression_refinement = search (rules, the_lemmas, bounds, tests, actions)

a_test_refinement_as_value : is_regular_unit (unit (template kind.Function) (returns_r ∷ []) (refinement 3 (codes "r") refines.Test (on 4 n.Succeed) ∷ [])) ≡ false
unfolding is_regular_unit scanned.word_in_front
a_test_refinement_as_value = search (rules, the_lemmas, bounds, tests, actions)

a_test_refinement : is_regular_unit (unit draw (on 2 (n.Check (t.Refinement (record { 0 = 2 }))) ∷ []) (refinement 3 (codes "r") refines.Test (on 4 n.Succeed) ∷ [])) ≡ true
unfolding is_regular_unit scanned.word_in_front
a_test_refinement = search (rules, the_lemmas, bounds, tests, actions)

a_refinement_named_as_a_formal : is_regular_unit (unit draw (on 2 n.Pass ∷ []) (refinement 3 (codes "x") refines.Expression (on 4 (n.Return one)) ∷ [])) ≡ false
unfolding is_regular_unit scanned.word_in_front
a_refinement_named_as_a_formal = search (rules, the_lemmas, bounds, tests, actions)

a_put_in_a_refinement : is_regular_unit (unit draw (on 2 (n.Put one (name 2)) ∷ []) (refinement 3 (codes "r") refines.Expression (on 4 (n.Return one)) ∷ [])) ≡ false
unfolding is_regular_unit scanned.word_in_front
a_put_in_a_refinement = search (rules, the_lemmas, bounds, tests, actions)

a_loop_over_a_formal : is_regular_unit (unit draw (on 2 (n.For (bound 0) x (on 3 n.Pass ∷ [])) ∷ []) []) ≡ false
unfolding is_regular_unit scanned.word_in_front
a_loop_over_a_formal = search (rules, the_lemmas, bounds, tests, actions)

a_loop_over_a_name : is_regular_unit (unit draw (on 2 (n.For (bound 1) x (on 3 n.Pass ∷ [])) ∷ []) []) ≡ true
unfolding is_regular_unit scanned.word_in_front
a_loop_over_a_name = search (rules, the_lemmas, bounds, tests, actions)
