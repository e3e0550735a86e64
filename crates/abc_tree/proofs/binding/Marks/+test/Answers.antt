use Rattle.std.proofs.Common.{◌∙◌, ◌++◌, sym, ap}
use Rattle.abc_tree.specs.RegularItems.{bound_names, bounds_in_test}
use Rattle.abc_tree.proofs.BoundNames.{two_marked, bound_and, bound_or, bound_quantified}
use Rattle.abc_tree.proofs.binding.Marks.+test.Goals as goal

pub returns-in-And : goal.returns-in-And
returns-in-And t c =
    let x = c.get-in-And.result.now in
    let y = c.get-in-And-2.result.now in
    let parts = ap bounds_in_test c.in-And.is ∙ bound_and c.in-And.left c.in-And.right ∙ ap (λ z. bounds_in_test z ++ bounds_in_test c.in-And.right) (sym c.get-in-And.ensures) ∙ ap (λ z. bounds_in_test x ++ bounds_in_test z) (sym c.get-in-And-2.ensures) in
    two_marked c.args.self.now c.test-in-And.new.self c.test-in-And-2.new.self (bounds_in_test x) (bounds_in_test y) (bounds_in_test c.args.test.now) parts c.test-in-And.ensures c.test-in-And-2.ensures

pub returns-in-Or : goal.returns-in-Or
returns-in-Or t c =
    let x = c.get-in-Or.result.now in
    let y = c.get-in-Or-2.result.now in
    let parts = ap bounds_in_test c.in-Or.is ∙ bound_or c.in-Or.left c.in-Or.right ∙ ap (λ z. bounds_in_test z ++ bounds_in_test c.in-Or.right) (sym c.get-in-Or.ensures) ∙ ap (λ z. bounds_in_test x ++ bounds_in_test z) (sym c.get-in-Or-2.ensures) in
    two_marked c.args.self.now c.test-in-Or.new.self c.test-in-Or-2.new.self (bounds_in_test x) (bounds_in_test y) (bounds_in_test c.args.test.now) parts c.test-in-Or.ensures c.test-in-Or-2.ensures

pub returns-in-Quantified : goal.returns-in-Quantified
returns-in-Quantified t c =
    let y = c.get-in-Quantified.result.now in
    let parts = ap bounds_in_test c.in-Quantified.is ∙ bound_quantified _ c.in-Quantified.names _ c.in-Quantified.inner ∙ ap (λ z. bound_names c.in-Quantified.names ++ bounds_in_test z) (sym c.get-in-Quantified.ensures) in
    two_marked c.args.self.now c.bound.new.self c.test-in-Quantified.new.self (bound_names c.in-Quantified.names) (bounds_in_test y) (bounds_in_test c.args.test.now) parts c.bound.ensures c.test-in-Quantified.ensures
