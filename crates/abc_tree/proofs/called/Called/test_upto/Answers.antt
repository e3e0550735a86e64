use Rattle.std.proofs.Common.{◌∙◌, sym, ap}
use Rattle.abc_tree.specs.Calls.{calls_in_test, with_calls}
use Rattle.abc_tree.proofs.Adding.{upto_in, upto_out}
use Rattle.abc_tree.proofs.called.Called.test_upto.Goals as goal

pub returns-then-line-n : goal.returns-then-line-n
returns-then-line-n c = sym (ap (λ calls. with_calls c.args.self.now calls) (upto_out c.args.n c.args.line (calls_in_test c.args.t.now) c.if-line-n.true))

pub returns : goal.returns
returns c = c.in_ok-test.ensures ∙ ap (λ calls. with_calls c.args.self.now calls) (sym (upto_in c.args.n c.args.line (calls_in_test c.args.t.now) c.if-line-n.false))
