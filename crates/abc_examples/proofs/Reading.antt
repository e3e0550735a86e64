-- What the line `PUT 1 IN x` is read as.
use Rattle.std.specs.Prelude.{◌≡◌, ℕ, List, [], ◌∷◌, Option, Some, None, is_none, codes, pos, refl, if◌then◌else◌}
use Rattle.std.proofs.Common.{◌∙◌, ap, rules}
use Rattle.abc_num.specs.Number.{whole_number}
use Rattle.abc_num.specs.Ratio.{ratio, gcd, gcd_within}
use Rattle.abc_tokens.specs.ReadLine.{read_line}
use Rattle.abc_tokens.specs.Scanned.{scanned, ending, word_in_front}
use Rattle.abc_tokens.specs.Values.{has_value}
use Rattle.abc_expressions.specs.Operators.{kind_of}
use Rattle.abc_expressions.specs.Readings.{expression_of, single_of, address_of}
use Rattle.abc_expressions.specs.NameTokens.{name_tokens, conversion_names}
use Rattle.abc_expressions.specs.inner.Numbers.{number_at}
use Rattle.abc_expressions.specs.inner.Machine as machine
use Rattle.abc_expressions.specs.inner.Machine.{converter, popped, finished, reach, lexed, has_bare, conversion_from, split}
use Rattle.abc_formula.specs.TestReadings.{test_of}
use Rattle.abc_formula.specs.inner.TestMachine.{links_in, names_in, test_in}
use Rattle.abc_clauses.specs.Readings.{bound_of, formal_of, command_of, alternative_of, heading_of, refinement_of}
use Rattle.abc_outline.specs.OwnNames.{own_names, used_names, item_names, refinements}
use Rattle.abc_outline.specs.Rows.{read_of, edges_of, rows_of}
use Rattle.abc_faults.specs.Faults.{item_fault}
use Rattle.abc_faults.specs.declared.fault.Fault.{Fault}
use Rattle.abc_faults.specs.declared.fault.FaultKind.TheVariants as fault
use Rattle.abc_parse.specs.Readings.{item_of, item_of_rows}
use Rattle.abc_tree.specs.declared.formulas.Expr.{the_lemmas}
use Rattle.abc_tree.specs.declared.formulas.Expr.TheVariants as e
use Rattle.abc_tree.specs.declared.commands.ActionNode.{the_lemmas as actions}
use Rattle.abc_tree.specs.declared.commands.ActionNode.TheVariants as n
use Rattle.abc_tree.specs.declared.commands.Command.{Command}
use Rattle.abc_tree.specs.declared.commands.Item.TheVariants as item
use Rattle.abc_num.specs.declared.lines.Line.{Line}
use Rattle.abc_examples.proofs.Units.{on, line}

abbrev pub put_line : List Line
put_line = line (codes "PUT 1 IN x") ∷ []

abbrev pub put : Command
put = record { names = codes "x" ∷ []; action = on 1 (n.Put (e.Number (whole_number (pos 1))) (e.Name (record { 0 = 0 }))) }

-- lines without a fault are read as rows
faultless : (lines : List Line) (names : List (List ℕ)) → item_fault lines names ≡ None → item_of lines names ≡ item_of_rows lines names (rows_of lines)
unfolding item_of
faultless lines names none = ap (λ (fault : Option Fault). if is_none fault then item_of_rows lines names (rows_of lines) else None) none

-- where there is no target, and where x is one
pub no_fault : item_fault put_line [] ≡ None
unfolding own_names used_names item_names refinements read_of edges_of name_tokens conversion_names command_of alternative_of heading_of refinement_of test_of expression_of single_of address_of bound_of formal_of names_in test_in links_in machine.run popped finished reach kind_of converter lexed has_bare conversion_from split number_at ratio gcd gcd_within scanned ending word_in_front read_line has_value
no_fault = search (rules, the_lemmas, actions)

pub no_fault_with_x : item_fault put_line (codes "x" ∷ []) ≡ None
unfolding own_names used_names item_names refinements read_of edges_of name_tokens conversion_names command_of alternative_of heading_of refinement_of test_of expression_of single_of address_of bound_of formal_of names_in test_in links_in machine.run popped finished reach kind_of converter lexed has_bare conversion_from split number_at ratio gcd gcd_within scanned ending word_in_front read_line has_value
no_fault_with_x = search (rules, the_lemmas, actions)

rows : item_of_rows put_line [] (rows_of put_line) ≡ Some (item.Command put)
unfolding own_names used_names item_names refinements read_of edges_of name_tokens conversion_names command_of alternative_of heading_of refinement_of test_of expression_of single_of address_of bound_of formal_of names_in test_in links_in machine.run popped finished reach kind_of converter lexed has_bare conversion_from split number_at ratio gcd gcd_within scanned ending word_in_front read_line has_value
rows = search (rules, the_lemmas, actions)

rows_with_x : item_of_rows put_line (codes "x" ∷ []) (rows_of put_line) ≡ Some (item.Command put)
unfolding own_names used_names item_names refinements read_of edges_of name_tokens conversion_names command_of alternative_of heading_of refinement_of test_of expression_of single_of address_of bound_of formal_of names_in test_in links_in machine.run popped finished reach kind_of converter lexed has_bare conversion_from split number_at ratio gcd gcd_within scanned ending word_in_front read_line has_value
rows_with_x = search (rules, the_lemmas, actions)

pub read : item_of put_line [] ≡ Some (item.Command put)
read = faultless put_line [] no_fault ∙ rows

pub read_with_x : item_of put_line (codes "x" ∷ []) ≡ Some (item.Command put)
read_with_x = faultless put_line (codes "x" ∷ []) no_fault_with_x ∙ rows_with_x

-- a line that says nothing is no item
pub foo_fault : item_fault (line (codes "FOO 1 2") ∷ []) [] ≡ Some (record { line = 1; kind = fault.BadCommand })
unfolding own_names used_names item_names refinements read_of edges_of name_tokens conversion_names command_of alternative_of heading_of refinement_of test_of expression_of single_of address_of bound_of formal_of names_in test_in links_in machine.run popped finished reach kind_of converter lexed has_bare conversion_from split number_at ratio gcd gcd_within scanned ending word_in_front read_line has_value
foo_fault = refl
