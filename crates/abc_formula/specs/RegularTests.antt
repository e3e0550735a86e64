-- What makes a test regular, whatever its height, and of which tests the names fit where they stand.
use Rattle.std.specs.Prelude.{Bool, ◌&&◌, map}
use Rattle.abc_tree.specs.Regular.{Names, every, is_test_kind, test_is}
use Rattle.abc_tree.specs.declared.formulas.Link.{Link}
use Rattle.abc_tree.specs.declared.formulas.Test.{Test, fold-Test}
use Rattle.abc_tree.specs.declared.formulas.Test.TheOpen.{Test-F}
use Rattle.abc_expressions.specs.NamesOfTrees.{names_give_values}

module _ (names : Names) where
  -- a test whose parts are regular, whatever its height
  abbrev pub has_regular_test_parts : Test → Bool
  has_regular_test_parts = fold-Test Bool (test_is names)

  abbrev pub link_fits : Link → Bool
  link_fits link = names_give_values names link.right

  abbrev pub test_fits : Test-F Bool → Bool
  test_fits (Test-F.Chain first links) = names_give_values names first && every (map link_fits links)
  test_fits (Test-F.Member op e t) = names_give_values names e && names_give_values names t
  test_fits (Test-F.And a b) = a && b
  test_fits (Test-F.Or a b) = a && b
  test_fits (Test-F.Not a) = a
  test_fits (Test-F.Quantified q bound train test) = names_give_values names train && test
  test_fits (Test-F.Call template actuals) = every (map (names_give_values names) actuals)
  test_fits (Test-F.Refinement i) = is_test_kind (names.refinement i.0)

  -- no name of an expression is a refinement of another kind, and each name that stands as a test is a test refinement
  abbrev pub names_fit : Test → Bool
  names_fit = fold-Test Bool test_fits
