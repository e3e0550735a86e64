use Rattle.std.proofs.Common.{◌∙◌, ◌++◌, map, sym, ap}
use Rattle.abc_tree.specs.Lists.{flat}
use Rattle.abc_calls.specs.inner.Nodes.{nodes_in, nodes_in_test}
use Rattle.abc_calls.proofs.Listing.{two_added, nodes_chain, nodes_member, nodes_and, nodes_or, nodes_quantified}
use Rattle.abc_calls.proofs.listed.Listed.+test.Goals as goal

pub returns-in_ok-links-in-Chain : goal.returns-in_ok-links-in-Chain
returns-in_ok-links-in-Chain n c =
    let parts = ap nodes_in_test c.in-Chain.is ∙ nodes_chain c.in-Chain.first c.in-Chain.links ∙ ap (λ ls. nodes_in c.in-Chain.first ++ flat (map (λ link. nodes_in link.right) ls)) (sym c.as_slice.ensures) in
    two_added c.args.self.now c.expression.new.self c.links.new.self (nodes_in c.in-Chain.first) (flat (map (λ link. nodes_in link.right) c.as_slice.result.now)) (nodes_in_test c.args.t.now) parts c.in_ok-expression-in-Chain.ensures c.in_ok-links-in-Chain.ensures

pub returns-in_ok-expression-in-Member-2 : goal.returns-in_ok-expression-in-Member-2
returns-in_ok-expression-in-Member-2 n c =
    let parts = ap nodes_in_test c.in-Member.is ∙ nodes_member _ c.in-Member.element c.in-Member.train in
    two_added c.args.self.now c.expression-in-Member.new.self c.expression-in-Member-2.new.self (nodes_in c.in-Member.element) (nodes_in c.in-Member.train) (nodes_in_test c.args.t.now) parts c.in_ok-expression-in-Member.ensures c.in_ok-expression-in-Member-2.ensures

pub returns-in_ok-test-in-And-2 : goal.returns-in_ok-test-in-And-2
returns-in_ok-test-in-And-2 n c =
    let parts = ap nodes_in_test c.in-And.is ∙ nodes_and c.in-And.left c.in-And.right ∙ ap (λ z. nodes_in_test z ++ nodes_in_test c.in-And.right) (sym c.get-in-And.ensures) ∙ ap (λ z. nodes_in_test c.get-in-And.result.now ++ nodes_in_test z) (sym c.get-in-And-2.ensures) in
    two_added c.args.self.now c.test-in-And.new.self c.test-in-And-2.new.self (nodes_in_test c.get-in-And.result.now) (nodes_in_test c.get-in-And-2.result.now) (nodes_in_test c.args.t.now) parts c.in_ok-test-in-And.ensures c.in_ok-test-in-And-2.ensures

pub returns-in_ok-test-in-Or-2 : goal.returns-in_ok-test-in-Or-2
returns-in_ok-test-in-Or-2 n c =
    let parts = ap nodes_in_test c.in-Or.is ∙ nodes_or c.in-Or.left c.in-Or.right ∙ ap (λ z. nodes_in_test z ++ nodes_in_test c.in-Or.right) (sym c.get-in-Or.ensures) ∙ ap (λ z. nodes_in_test c.get-in-Or.result.now ++ nodes_in_test z) (sym c.get-in-Or-2.ensures) in
    two_added c.args.self.now c.test-in-Or.new.self c.test-in-Or-2.new.self (nodes_in_test c.get-in-Or.result.now) (nodes_in_test c.get-in-Or-2.result.now) (nodes_in_test c.args.t.now) parts c.in_ok-test-in-Or.ensures c.in_ok-test-in-Or-2.ensures

pub returns-in_ok-test-in-Quantified : goal.returns-in_ok-test-in-Quantified
returns-in_ok-test-in-Quantified n c =
    let parts = ap nodes_in_test c.in-Quantified.is ∙ nodes_quantified _ _ c.in-Quantified.train c.in-Quantified.inner ∙ ap (λ z. nodes_in c.in-Quantified.train ++ nodes_in_test z) (sym c.get-in-Quantified.ensures) in
    two_added c.args.self.now c.expression-in-Quantified.new.self c.test-in-Quantified.new.self (nodes_in c.in-Quantified.train) (nodes_in_test c.get-in-Quantified.result.now) (nodes_in_test c.args.t.now) parts c.in_ok-expression-in-Quantified.ensures c.in_ok-test-in-Quantified.ensures
