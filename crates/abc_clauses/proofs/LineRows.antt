-- Worked lines, by computing: which of them say something. The own names are x, t, i, j, k, an expression refinement r and a test refinement s; BACK is a
-- command refinement.
use Rattle.std.specs.Prelude.{◌≡◌, ℕ, Bool, true, false, List, [], ◌∷◌, Option, Some, None, codes, is_some, refl}
use Rattle.abc_num.specs.Ratio.{ratio, gcd, gcd_within}
use Rattle.abc_tokens.specs.ReadLine.{read_line}
use Rattle.abc_tokens.specs.Scanned.{scanned, ending, word_in_front}
use Rattle.abc_tokens.specs.Values.{has_value}
use Rattle.abc_value.specs.Sizes.{size_fault, sizes_fault}
use Rattle.abc_print.specs.Computed.{literal_of, lexemes_of}
use Rattle.abc_print.specs.Lexemes.{class_of}
use Rattle.abc_print.specs.inner.Machine.{run}
use Rattle.abc_tree.specs.declared.commands.RefinementKind.TheVariants as refines
use Rattle.abc_expressions.specs.Operators.{kind_of}
use Rattle.abc_expressions.specs.Readings.{expression_of, single_of, address_of}
use Rattle.abc_expressions.specs.declared.lexemes.Lexeme.{Lexeme}
use Rattle.abc_expressions.specs.inner.Numbers.{number_at}
use Rattle.abc_expressions.specs.inner.Machine as machine
use Rattle.abc_expressions.specs.inner.Machine.{converter, popped, finished, reach, lexed, has_bare, conversion_from, split}
use Rattle.abc_formula.specs.TestReadings.{test_of}
use Rattle.abc_formula.specs.inner.TestMachine.{links_in, names_in, test_in}
use Rattle.abc_clauses.specs.Names.{Kinds}
use Rattle.abc_clauses.specs.Readings.{Said, bound_of, formal_of, said_alternative, said_command, said_heading, said_refinement}

abbrev own : List (List ℕ)
own = codes "x" ∷ codes "t" ∷ codes "i" ∷ codes "j" ∷ codes "k" ∷ codes "r" ∷ codes "s" ∷ []

abbrev kinds : Kinds
kinds = None ∷ None ∷ None ∷ None ∷ None ∷ Some refines.Expression ∷ Some refines.Test ∷ []

abbrev commands : List (List ℕ)
commands = codes "BACK" ∷ []

abbrev said_by : (List Lexeme → Option Said) → Option (List Lexeme) → Bool
said_by read None = false
said_by read (Some ts) = is_some (read ts)

abbrev command : List ℕ → Bool
command line = said_by (said_command own kinds commands line) (lexed line)

abbrev alternative : List ℕ → Bool
alternative line = said_by (said_alternative own kinds commands line) (lexed line)

abbrev heading : List ℕ → Bool
heading line = said_by (said_heading own kinds commands line) (lexed line)

abbrev refinement : List ℕ → Bool
refinement line = said_by (said_refinement own kinds commands line) (lexed line)

commands_say : (command (codes "WRITE x") ≡ true) × (command (codes "WRITE / x /") ≡ true) × (command (codes "WRITE / /") ≡ true)
    × (command (codes "WRITE /") ≡ true) × (command (codes "WRITE x, t") ≡ true) × (command (codes "WRITE / x , t / /") ≡ true)
    × (command (codes "WRITE x /t") ≡ true) × (command (codes "PASS") ≡ true) × (command (codes "QUIT") ≡ true)
    × (command (codes "SUCCEED") ≡ true) × (command (codes "FAIL") ≡ true) × (command (codes "RETURN x") ≡ true)
    × (command (codes "RETURN x, 1") ≡ true) × (command (codes "FOR i IN t: PASS") ≡ true) × (command (codes "FOR i, (j, k) IN t: PASS") ≡ true)
    × (command (codes "FOR (i) IN t: PASS") ≡ true) × (command (codes "SELECT:") ≡ true) × (command (codes "ELSE: PASS") ≡ true)
    × (command (codes "ELSE:") ≡ true) × (command (codes "SHARE x") ≡ true) × (command (codes "SHARE x, t") ≡ true)
    × (command (codes "GO") ≡ true) × (command (codes "GO x") ≡ true) × (command (codes "GO x TO t") ≡ true)
unfolding test_of expression_of single_of address_of bound_of formal_of names_in test_in links_in machine.run popped finished reach kind_of converter lexed has_bare conversion_from split number_at ratio gcd gcd_within scanned ending word_in_front literal_of read_line has_value lexemes_of class_of run size_fault sizes_fault
commands_say = (refl, refl, refl, refl, refl, refl, refl, refl, refl, refl, refl, refl, refl, refl, refl, refl, refl, refl, refl, refl, refl, refl, refl, refl)

commands_say_2 : (command (codes "GO TO") ≡ true) × (command (codes "GO (x, t)") ≡ true) × (command (codes "BACK x") ≡ true)
    × (command (codes "BACK") ≡ true) × (command (codes "BACK x") ≡ true) × (command (codes "OTHER") ≡ true)
unfolding test_of expression_of single_of address_of bound_of formal_of names_in test_in links_in machine.run popped finished reach kind_of converter lexed has_bare conversion_from split number_at ratio gcd gcd_within scanned ending word_in_front literal_of read_line has_value lexemes_of class_of run size_fault sizes_fault
commands_say_2 = (refl, refl, refl, refl, refl, refl)

commands_say_nothing : (command (codes "WRITE") ≡ false) × (command (codes "PUT IN t") ≡ false) × (command (codes "PUT x") ≡ false)
    × (command (codes "PUT x IN") ≡ false) × (command (codes "PUT x FROM t") ≡ false) × (command (codes "PUT x IN t IN x") ≡ false)
    × (command (codes "INSERT 1 FROM t") ≡ false) × (command (codes "REMOVE 1 IN t") ≡ false) × (command (codes "REMOVE FROM t") ≡ false)
    × (command (codes "DELETE") ≡ false) × (command (codes "READ RAW") ≡ false) × (command (codes "READ x") ≡ false)
    × (command (codes "CHECK") ≡ false) × (command (codes "PASS 1") ≡ false) × (command (codes "QUIT x") ≡ false)
    × (command (codes "RETURN") ≡ false) × (command (codes "IF x = 1") ≡ false) × (command (codes "IF: PASS") ≡ false)
    × (command (codes "FOR t[1] IN t: PASS") ≡ false) × (command (codes "FOR i IN t, x: PASS") ≡ false) × (command (codes "FOR i IN t") ≡ false)
    × (command (codes "FOR IN t: PASS") ≡ false) × (command (codes "FOR i FROM t: PASS") ≡ false) × (command (codes "SELECT: PASS") ≡ false)
unfolding test_of expression_of single_of address_of bound_of formal_of names_in test_in links_in machine.run popped finished reach kind_of converter lexed has_bare conversion_from split number_at ratio gcd gcd_within scanned ending word_in_front literal_of read_line has_value lexemes_of class_of run size_fault sizes_fault
commands_say_nothing = (refl, refl, refl, refl, refl, refl, refl, refl, refl, refl, refl, refl, refl, refl, refl, refl, refl, refl, refl, refl, refl, refl, refl, refl)

commands_say_nothing_2 : (command (codes "SELECT") ≡ false) × (command (codes "SELECT x:") ≡ false) × (command (codes "ELSE") ≡ false)
    × (command (codes "ELSE x: PASS") ≡ false) × (command (codes "SHARE x t") ≡ false) × (command (codes "SHARE") ≡ false)
    × (command (codes "SHARE x,") ≡ false) × (command (codes "GO x, t") ≡ false) × (command (codes "GO x t") ≡ false)
    × (command (codes "SET x") ≡ false) × (command (codes "HOW TO") ≡ false) × (command (codes "x") ≡ false)
    × (command (codes "1") ≡ false) × (command (codes "foo: PASS") ≡ false) × (command (codes "GO: PASS") ≡ false)
    × (command (codes "PUT x IN t: PASS") ≡ false)
unfolding test_of expression_of single_of address_of bound_of formal_of names_in test_in links_in machine.run popped finished reach kind_of converter lexed has_bare conversion_from split number_at ratio gcd gcd_within scanned ending word_in_front literal_of read_line has_value lexemes_of class_of run size_fault sizes_fault
commands_say_nothing_2 = (refl, refl, refl, refl, refl, refl, refl, refl, refl, refl, refl, refl, refl, refl, refl, refl)

alternatives_say : (alternative (codes "ELSE: PASS") ≡ true) × (alternative (codes "ELSE:") ≡ true)
unfolding test_of expression_of single_of address_of bound_of formal_of names_in test_in links_in machine.run popped finished reach kind_of converter lexed has_bare conversion_from split number_at ratio gcd gcd_within scanned ending word_in_front literal_of read_line has_value lexemes_of class_of run size_fault sizes_fault
alternatives_say = (refl, refl)

alternatives_say_nothing : (alternative (codes "x = 1") ≡ false) × (alternative (codes "PASS: PASS") ≡ false) × (alternative (codes "ELSE x: PASS") ≡ false)
    × (alternative (codes "SELECT: PASS") ≡ false)
unfolding test_of expression_of single_of address_of bound_of formal_of names_in test_in links_in machine.run popped finished reach kind_of converter lexed has_bare conversion_from split number_at ratio gcd gcd_within scanned ending word_in_front literal_of read_line has_value lexemes_of class_of run size_fault sizes_fault
alternatives_say_nothing = (refl, refl, refl, refl)

headings_say : (heading (codes "HOW TO F:") ≡ true) × (heading (codes "HOW TO F x:") ≡ true) × (heading (codes "HOW TO F x TO t:") ≡ true)
    × (heading (codes "HOW TO RETURN f:") ≡ true) × (heading (codes "HOW TO RETURN f x:") ≡ true) × (heading (codes "HOW TO RETURN x f t:") ≡ true)
    × (heading (codes "HOW TO RETURN f (x, t):") ≡ true) × (heading (codes "HOW TO RETURN (x, t) f i:") ≡ true) × (heading (codes "HOW TO REPORT x f t:") ≡ true)
    × (heading (codes "HOW TO REPORT f:") ≡ true) × (heading (codes "HOW TO F: PASS") ≡ true) × (heading (codes "HOW TO GO IF x:") ≡ true)
unfolding test_of expression_of single_of address_of bound_of formal_of names_in test_in links_in machine.run popped finished reach kind_of converter lexed has_bare conversion_from split number_at ratio gcd gcd_within scanned ending word_in_front literal_of read_line has_value lexemes_of class_of run size_fault sizes_fault
headings_say = (refl, refl, refl, refl, refl, refl, refl, refl, refl, refl, refl, refl)

headings_say_nothing : (heading (codes "HOW TO F x t:") ≡ false) × (heading (codes "HOW TO F (x, t):") ≡ false) × (heading (codes "HOW TO WRITE x:") ≡ false)
    × (heading (codes "HOW TO READ:") ≡ false) × (heading (codes "HOW TO RETURN f (x):") ≡ false) × (heading (codes "HOW TO RETURN F x:") ≡ false)
    × (heading (codes "HOW TO RETURN f x t i:") ≡ false) × (heading (codes "HOW TO RETURN (x, t):") ≡ false) × (heading (codes "HOW TO RETURN:") ≡ false)
    × (heading (codes "HOW TO f:") ≡ false) × (heading (codes "HOW TO:") ≡ false) × (heading (codes "HOW TO F: SHARE x") ≡ false)
    × (heading (codes "HOW TO F") ≡ false) × (heading (codes "HOW F:") ≡ false) × (heading (codes "HOW TO F ON 1:") ≡ false)
unfolding test_of expression_of single_of address_of bound_of formal_of names_in test_in links_in machine.run popped finished reach kind_of converter lexed has_bare conversion_from split number_at ratio gcd gcd_within scanned ending word_in_front literal_of read_line has_value lexemes_of class_of run size_fault sizes_fault
headings_say_nothing = (refl, refl, refl, refl, refl, refl, refl, refl, refl, refl, refl, refl, refl, refl, refl)

refinements_say : (refinement (codes "r: RETURN 1") ≡ true) × (refinement (codes "s:") ≡ true) × (refinement (codes "BACK: PASS") ≡ true)
    × (refinement (codes "BACK:") ≡ true)
unfolding test_of expression_of single_of address_of bound_of formal_of names_in test_in links_in machine.run popped finished reach kind_of converter lexed has_bare conversion_from split number_at ratio gcd gcd_within scanned ending word_in_front literal_of read_line has_value lexemes_of class_of run size_fault sizes_fault
refinements_say = (refl, refl, refl, refl)

refinements_say_nothing : (refinement (codes "r: SHARE x") ≡ false) × (refinement (codes "BACK") ≡ false) × (refinement (codes "x y: PASS") ≡ false)
    × (refinement (codes "PASS: PASS") ≡ false) × (refinement (codes "r RETURN 1") ≡ false)
unfolding test_of expression_of single_of address_of bound_of formal_of names_in test_in links_in machine.run popped finished reach kind_of converter lexed has_bare conversion_from split number_at ratio gcd gcd_within scanned ending word_in_front literal_of read_line has_value lexemes_of class_of run size_fault sizes_fault
refinements_say_nothing = (refl, refl, refl, refl, refl)
