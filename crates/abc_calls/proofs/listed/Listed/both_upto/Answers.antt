use Rattle.std.proofs.Common.{◌++◌, sym, ap}
use Rattle.abc_calls.specs.inner.Nodes.{nodes_in, with_nodes}
use Rattle.abc_tree.proofs.Adding.{upto_in, upto_out}
use Rattle.abc_calls.proofs.Listing.{two_added}
use Rattle.abc_calls.proofs.listed.Listed.both_upto.Goals as goal

pub returns-then-line-n : goal.returns-then-line-n
returns-then-line-n c = sym (ap (λ calls. with_nodes c.args.self.now calls) (upto_out c.args.n c.args.line (nodes_in c.args.x.now ++ nodes_in c.args.y.now) c.if-line-n.true))

pub returns : goal.returns
returns c =
    two_added c.args.self.now c.expression.new.self c.expression-2.new.self (nodes_in c.args.x.now) (nodes_in c.args.y.now) _
    (upto_in c.args.n c.args.line (nodes_in c.args.x.now ++ nodes_in c.args.y.now) c.if-line-n.false) c.in_ok-expression.ensures c.in_ok-expression-2.ensures
