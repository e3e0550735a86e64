use Rattle.std.proofs.Common.{◌∙◌, map, sym, ap}
use Rattle.abc_tree.specs.Calls.{in_text_order}
use Rattle.abc_tree.proofs.Adding.{upto_in, upto_out}
use Rattle.abc_calls.specs.inner.Nodes.{nodes_in, with_nodes}
use Rattle.abc_calls.proofs.listed.Listed.call_upto.Goals as goal

pub returns-then-line-n : goal.returns-then-line-n
returns-then-line-n c = sym (ap (λ calls. with_nodes c.args.self.now calls) (upto_out c.args.n c.args.line (in_text_order c.args.template.now (map nodes_in c.args.actuals.now)) c.if-line-n.true))

pub returns : goal.returns
returns c = c.in_ok-call.ensures ∙ ap (λ calls. with_nodes c.args.self.now calls) (sym (upto_in c.args.n c.args.line (in_text_order c.args.template.now (map nodes_in c.args.actuals.now)) c.if-line-n.false))
