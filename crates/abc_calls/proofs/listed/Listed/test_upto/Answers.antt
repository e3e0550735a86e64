use Rattle.std.proofs.Common.{◌∙◌, sym, ap}
use Rattle.abc_calls.specs.inner.Nodes.{nodes_in_test, with_nodes}
use Rattle.abc_tree.proofs.Adding.{upto_in, upto_out}
use Rattle.abc_calls.proofs.listed.Listed.test_upto.Goals as goal

pub returns-then-line-n : goal.returns-then-line-n
returns-then-line-n c = sym (ap (λ calls. with_nodes c.args.self.now calls) (upto_out c.args.n c.args.line (nodes_in_test c.args.t.now) c.if-line-n.true))

pub returns : goal.returns
returns c = c.in_ok-test.ensures ∙ ap (λ calls. with_nodes c.args.self.now calls) (sym (upto_in c.args.n c.args.line (nodes_in_test c.args.t.now) c.if-line-n.false))
