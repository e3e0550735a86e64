use Rattle.std.proofs.Common.{◌∙◌, ◌++◌, map, sym, ap}
use Rattle.abc_tree.specs.Lists.{flat}
use Rattle.abc_tree.specs.Calls.{calls_in, calls_in_test}
use Rattle.abc_tree.proofs.Calling.{two_added, calls_chain, calls_member, calls_and, calls_or, calls_quantified}
use Rattle.abc_tree.proofs.called.Called.+test.Goals as goal

pub returns-in_ok-links-in-Chain : goal.returns-in_ok-links-in-Chain
returns-in_ok-links-in-Chain n c =
    let parts = ap calls_in_test c.in-Chain.is ∙ calls_chain c.in-Chain.first c.in-Chain.links ∙ ap (λ ls. calls_in c.in-Chain.first ++ flat (map (λ link. calls_in link.right) ls)) (sym c.as_slice.ensures) in
    two_added c.args.self.now c.expression.new.self c.links.new.self (calls_in c.in-Chain.first) (flat (map (λ link. calls_in link.right) c.as_slice.result.now)) (calls_in_test c.args.t.now) parts c.in_ok-expression-in-Chain.ensures c.in_ok-links-in-Chain.ensures

pub returns-in_ok-expression-in-Member-2 : goal.returns-in_ok-expression-in-Member-2
returns-in_ok-expression-in-Member-2 n c =
    let parts = ap calls_in_test c.in-Member.is ∙ calls_member _ c.in-Member.element c.in-Member.train in
    two_added c.args.self.now c.expression-in-Member.new.self c.expression-in-Member-2.new.self (calls_in c.in-Member.element) (calls_in c.in-Member.train) (calls_in_test c.args.t.now) parts c.in_ok-expression-in-Member.ensures c.in_ok-expression-in-Member-2.ensures

pub returns-in_ok-test-in-And-2 : goal.returns-in_ok-test-in-And-2
returns-in_ok-test-in-And-2 n c =
    let parts = ap calls_in_test c.in-And.is ∙ calls_and c.in-And.left c.in-And.right ∙ ap (λ z. calls_in_test z ++ calls_in_test c.in-And.right) (sym c.get-in-And.ensures) ∙ ap (λ z. calls_in_test c.get-in-And.result.now ++ calls_in_test z) (sym c.get-in-And-2.ensures) in
    two_added c.args.self.now c.test-in-And.new.self c.test-in-And-2.new.self (calls_in_test c.get-in-And.result.now) (calls_in_test c.get-in-And-2.result.now) (calls_in_test c.args.t.now) parts c.in_ok-test-in-And.ensures c.in_ok-test-in-And-2.ensures

pub returns-in_ok-test-in-Or-2 : goal.returns-in_ok-test-in-Or-2
returns-in_ok-test-in-Or-2 n c =
    let parts = ap calls_in_test c.in-Or.is ∙ calls_or c.in-Or.left c.in-Or.right ∙ ap (λ z. calls_in_test z ++ calls_in_test c.in-Or.right) (sym c.get-in-Or.ensures) ∙ ap (λ z. calls_in_test c.get-in-Or.result.now ++ calls_in_test z) (sym c.get-in-Or-2.ensures) in
    two_added c.args.self.now c.test-in-Or.new.self c.test-in-Or-2.new.self (calls_in_test c.get-in-Or.result.now) (calls_in_test c.get-in-Or-2.result.now) (calls_in_test c.args.t.now) parts c.in_ok-test-in-Or.ensures c.in_ok-test-in-Or-2.ensures

pub returns-in_ok-test-in-Quantified : goal.returns-in_ok-test-in-Quantified
returns-in_ok-test-in-Quantified n c =
    let parts = ap calls_in_test c.in-Quantified.is ∙ calls_quantified _ _ c.in-Quantified.train c.in-Quantified.inner ∙ ap (λ z. calls_in c.in-Quantified.train ++ calls_in_test z) (sym c.get-in-Quantified.ensures) in
    two_added c.args.self.now c.expression-in-Quantified.new.self c.test-in-Quantified.new.self (calls_in c.in-Quantified.train) (calls_in_test c.get-in-Quantified.result.now) (calls_in_test c.args.t.now) parts c.in_ok-expression-in-Quantified.ensures c.in_ok-test-in-Quantified.ensures
