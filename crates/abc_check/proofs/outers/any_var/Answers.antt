use Rattle.std.proofs.Common.{[]}
use Rattle.abc_value.specs.declared.shape.ShapeKind.TheVariants as kind
use Rattle.abc_check.specs.inner.Shaped.{IsOuter}
use Rattle.abc_check.proofs.Answering.{if_ok_both}
use Rattle.abc_check.proofs.KindVars.{any_made}
use Rattle.abc_check.proofs.outers.any_var.Goals as goal

pub returns-clause-made : goal.returns-clause-made
returns-clause-made c =
    if_ok_both c.fresh_var.result c.fresh_var.ensures.number c.fresh_var.ensures.ok
    (λ a number is. any_made (λ v g. IsOuter kind.Anything [] g) c.args.graph.now c.fresh_var.new.graph a c.count-count.ensures.made number is (λ v g. tt))
