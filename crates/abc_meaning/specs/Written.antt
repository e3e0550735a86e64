-- The numbers that are written in a tree.
use Rattle.std.specs.Prelude.{List, [], ◌∷◌, ◌++◌, map}
use Rattle.abc_num.specs.Number.{Fraction}
use Rattle.abc_tree.specs.Lists.{flat}
use Rattle.abc_tree.specs.RegularItems.{Part, Parts, line, value, address, example, test, bound, quits, returns, reports, calls, refinement, early_else, parts_of, parts_of_unit}
use Rattle.abc_tree.specs.declared.formulas.Expr.{Expr, fold-Expr}
use Rattle.abc_tree.specs.declared.formulas.Expr.TheOpen.{Expr-F, Fill-F, Piece-F, Pair-F}
use Rattle.abc_tree.specs.declared.formulas.Test.{Test, fold-Test}
use Rattle.abc_tree.specs.declared.formulas.Test.TheOpen.{Test-F}
use Rattle.abc_tree.specs.declared.commands.Action.{Action}
use Rattle.abc_tree.specs.declared.commands.Unit.{Unit as Routine}

abbrev pub Numbers : Type 0
Numbers = List Fraction

abbrev pub piece_numbers : Piece-F Numbers Numbers Numbers Numbers → Numbers
piece_numbers (Piece-F.Chars b) = []
piece_numbers (Piece-F.Conversion e) = e

abbrev pub fill_numbers : Fill-F Numbers Numbers Numbers Numbers → Numbers
fill_numbers (Fill-F.One e) = e
fill_numbers (Fill-F.Range p q) = p ++ q

abbrev pub pair_numbers : Pair-F Numbers Numbers Numbers Numbers → Numbers
pair_numbers p = p.key ++ p.associate

abbrev pub expression_numbers : Expr-F Numbers Numbers Numbers Numbers → Numbers
expression_numbers (Expr-F.Number n) = n ∷ []
expression_numbers (Expr-F.Text pieces) = flat pieces
expression_numbers (Expr-F.Name i) = []
expression_numbers (Expr-F.Compound es) = flat es
expression_numbers Expr-F.Empty = []
expression_numbers (Expr-F.List fills) = flat fills
expression_numbers (Expr-F.Table pairs) = flat pairs
expression_numbers (Expr-F.Select t k) = t ++ k
expression_numbers (Expr-F.Apply1 op x) = x
expression_numbers (Expr-F.Apply2 op x y) = x ++ y
expression_numbers (Expr-F.Call template es) = flat es

-- in an expression
abbrev pub numbers_in : Expr → Numbers
numbers_in = fold-Expr Numbers Numbers Numbers Numbers expression_numbers fill_numbers piece_numbers pair_numbers

abbrev pub test_numbers : Test-F Numbers → Numbers
test_numbers (Test-F.Chain first links) = numbers_in first ++ flat (map (λ link. numbers_in link.right) links)
test_numbers (Test-F.Member op e t) = numbers_in e ++ numbers_in t
test_numbers (Test-F.And a b) = a ++ b
test_numbers (Test-F.Or a b) = a ++ b
test_numbers (Test-F.Not a) = a
test_numbers (Test-F.Quantified q names train a) = numbers_in train ++ a
test_numbers (Test-F.Call template es) = flat (map numbers_in es)
test_numbers (Test-F.Refinement i) = []

-- in a test
abbrev pub numbers_in_test : Test → Numbers
numbers_in_test = fold-Test Numbers test_numbers

-- In a part of a command. An example is no value.
abbrev pub numbers_in_part : Part → Numbers
numbers_in_part (value e) = numbers_in e
numbers_in_part (address e) = numbers_in e
numbers_in_part (test t) = numbers_in_test t
numbers_in_part _ = []

abbrev pub numbers_in_parts : Parts → Numbers
numbers_in_parts parts = flat (map (λ part. numbers_in_part part.1) parts)

-- in a command, and in a unit
abbrev pub numbers_in_action : Action → Numbers
numbers_in_action a = numbers_in_parts (parts_of a)

abbrev pub numbers_in_unit : Routine → Numbers
numbers_in_unit u = numbers_in_parts (parts_of_unit u)
