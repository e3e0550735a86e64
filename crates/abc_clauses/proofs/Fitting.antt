-- Whether refinements stand where they may is a matter of their kinds, whatever the own names are.
use Rattle.std.proofs.Common.{◌≡◌, ℕ, Bool, true, not, List, [], Option, Some, None, refl, ap, ◌∙◌}
use Rattle.std.specs.Prelude.{◌&&◌}
use Rattle.abc_tree.specs.declared.commands.ActionNode.{ActionNode, fold-ActionNode}
use Rattle.abc_tree.specs.declared.commands.ActionNode.TheOpen.{ActionNode-F}
use Rattle.abc_tree.specs.declared.formulas.Test.{Test, fold-Test}
use Rattle.abc_tree.specs.declared.formulas.Test.TheOpen.{Test-F}
use Rattle.abc_formula.specs.RegularTests as regular
use Rattle.abc_clauses.specs.declared.clause.Clause.{Clause}
use Rattle.abc_clauses.specs.declared.clause.Head.{Head}
use Rattle.abc_clauses.specs.declared.clause.Head.TheVariants as head
use Rattle.abc_clauses.specs.Fits.{test_fits}
use Rattle.abc_clauses.specs.Formulas.{placed_over, node_is_placed, head_is_placed, beside_is_placed, is_misplaced}
use Rattle.abc_clauses.specs.Names.{Kinds, names_with}

module _ (kinds : Kinds) (own : List (List ℕ)) where
  test_step : (x : Test-F Bool) → regular.test_fits (names_with [] kinds) x ≡ regular.test_fits (names_with own kinds) x
  test_step (Test-F.Chain a links) = refl
  test_step (Test-F.Member op e t) = refl
  test_step (Test-F.And a b) = refl
  test_step (Test-F.Or a b) = refl
  test_step (Test-F.Not a) = refl
  test_step (Test-F.Quantified q bound train test) = refl
  test_step (Test-F.Call f actuals) = refl
  test_step (Test-F.Refinement i) = refl

  same_test : (test : Test) → test_fits [] kinds test ≡ test_fits own kinds test
  same_test test = ap (λ (step : Test-F Bool → Bool). fold-Test Bool step test) (λ i x. test_step x i)

  node_step : (x : ActionNode-F Bool Bool Bool) → placed_over [] kinds x ≡ placed_over own kinds x
  node_step (ActionNode-F.Check test) = same_test test
  node_step (ActionNode-F.If test suite) = same_test test
  node_step (ActionNode-F.While test suite) = same_test test
  node_step (ActionNode-F.Report test) = same_test test
  node_step _ = refl

  same_node : (node : ActionNode) → node_is_placed [] kinds node ≡ node_is_placed own kinds node
  same_node node = ap (λ (step : ActionNode-F Bool Bool Bool → Bool). fold-ActionNode Bool Bool Bool step (λ action. true) (λ alternative. true) node) (λ i x. node_step x i)

  same_head : (h : Head) → head_is_placed [] kinds h ≡ head_is_placed own kinds h
  same_head (head.Simple node) = same_node node
  same_head (head.If test) = same_test test
  same_head (head.While test) = same_test test
  same_head (head.When test) = same_test test
  same_head _ = refl

  same_beside : (beside : Option ActionNode) → beside_is_placed [] kinds beside ≡ beside_is_placed own kinds beside
  same_beside None = refl
  same_beside (Some node) = same_node node

  pub same_misplaced : (clause : Clause) → is_misplaced [] kinds clause ≡ is_misplaced own kinds clause
  same_misplaced clause =
      ap (λ x. not (x && beside_is_placed [] kinds clause.beside)) (same_head clause.head) ∙ ap (λ y. not (head_is_placed own kinds clause.head && y)) (same_beside clause.beside)
