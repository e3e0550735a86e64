use Rattle.std.proofs.Common.{◌∙◌, ◌∷◌, map, sym, ap}
use Rattle.abc_tree.specs.Lists.{flat}
use Rattle.abc_tree.specs.Calls.{calls_in, with_calls}
use Rattle.abc_tree.proofs.Adding.{upto_in, upto_out}
use Rattle.abc_tree.proofs.called.Called.call_upto.Goals as goal

pub returns-then-line-n : goal.returns-then-line-n
returns-then-line-n c = sym (ap (λ calls. with_calls c.args.self.now calls) (upto_out c.args.n c.args.line (c.args.template.now ∷ flat (map calls_in c.args.actuals.now)) c.if-line-n.true))

pub returns : goal.returns
returns c =
    c.in_ok-expressions.ensures ∙ ap (λ found. with_calls found (flat (map calls_in c.args.actuals.now))) c.in_ok-add.ensures
    ∙ ap (λ calls. with_calls c.args.self.now calls) (sym (upto_in c.args.n c.args.line (c.args.template.now ∷ flat (map calls_in c.args.actuals.now)) c.if-line-n.false))
