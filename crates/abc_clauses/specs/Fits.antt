-- Whether each name of what a line says fits where it stands: as a value, or as a test. An address is read as an expression here.
use Rattle.std.specs.Prelude.{ℕ, Bool, true, ◌&&◌, List, Option, Some, None, map}
use Rattle.abc_tree.specs.Regular.{every}
use Rattle.abc_tree.specs.declared.commands.ActionNode.{ActionNode, fold-ActionNode}
use Rattle.abc_tree.specs.declared.commands.ActionNode.TheOpen.{ActionNode-F}
use Rattle.abc_tree.specs.declared.formulas.Expr.{Expr}
use Rattle.abc_tree.specs.declared.formulas.Test.{Test}
use Rattle.abc_expressions.specs.NamesOfTrees.{names_give_values}
use Rattle.abc_formula.specs.RegularTests.{names_fit}
use Rattle.abc_clauses.specs.declared.clause.Clause.{Clause}
use Rattle.abc_clauses.specs.declared.clause.Head.{Head}
use Rattle.abc_clauses.specs.declared.clause.Head.TheVariants as head
use Rattle.abc_clauses.specs.Names.{Kinds, names_with}

module _ (own : List (List ℕ)) (kinds : Kinds) where
  abbrev pub value_fits : Expr → Bool
  value_fits = names_give_values (names_with own kinds)

  abbrev pub test_fits : Test → Bool
  test_fits = names_fit (names_with own kinds)

  abbrev pub part_fits : Option Expr → Bool
  part_fits None = true
  part_fits (Some e) = value_fits e

  abbrev pub fits_over : ActionNode-F Bool Bool Bool → Bool
  fits_over (ActionNode-F.Write before part after) = part_fits part
  fits_over (ActionNode-F.Put value address) = value_fits value && value_fits address
  fits_over (ActionNode-F.Insert value address) = value_fits value && value_fits address
  fits_over (ActionNode-F.Remove value address) = value_fits value && value_fits address
  fits_over (ActionNode-F.Delete address) = value_fits address
  fits_over (ActionNode-F.ReadExample address example) = value_fits address && value_fits example
  fits_over (ActionNode-F.ReadRaw address) = value_fits address
  fits_over (ActionNode-F.Check test) = test_fits test
  fits_over (ActionNode-F.If test suite) = test_fits test
  fits_over (ActionNode-F.While test suite) = test_fits test
  fits_over (ActionNode-F.For names train suite) = value_fits train
  fits_over (ActionNode-F.Return value) = value_fits value
  fits_over (ActionNode-F.Report test) = test_fits test
  fits_over (ActionNode-F.Call f actuals) = every (map value_fits actuals)
  fits_over _ = true

  -- in the formulas of a command, without those of its suite
  abbrev pub node_fits : ActionNode → Bool
  node_fits = fold-ActionNode Bool Bool Bool fits_over (λ action. true) (λ alternative. true)

  abbrev pub head_fits : Head → Bool
  head_fits (head.Simple node) = node_fits node
  head_fits (head.If test) = test_fits test
  head_fits (head.While test) = test_fits test
  head_fits (head.For names train) = value_fits train
  head_fits (head.When test) = test_fits test
  head_fits _ = true

  abbrev pub beside_fits : Option ActionNode → Bool
  beside_fits None = true
  beside_fits (Some node) = node_fits node

  abbrev pub clause_fits : Clause → Bool
  clause_fits clause = head_fits clause.head && beside_fits clause.beside
