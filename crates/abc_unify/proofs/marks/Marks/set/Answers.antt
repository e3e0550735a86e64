use Rattle.std.proofs.Common.{◌∙◌, set, ap}
use Rattle.abc_unify.proofs.Stamping.{marked}
use Rattle.abc_unify.proofs.marks.Marks.set.Goals as goal

pub returns : goal.returns
returns c = marked c.self.inside.base c.self.inside.stamps.items c.args.at c.args.mark ∙ ap (λ marks. set marks c.args.at c.args.mark) c.self.view_is
