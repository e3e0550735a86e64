use Rattle.std.proofs.Common.{sym, ap, ◌∙◌}
use Rattle.std.specs.Option.{option_map}
use Rattle.abc_value.proofs.trees.Itemised.{elements_count}
use Rattle.abc_predef.proofs.Elements.{list_is_train}
use Rattle.abc_predef.proofs.Ends.{all_below}
use Rattle.abc_predef.proofs.extremes.below.Goals as goal

pub returns-in-None-clause-front : goal.returns-in-None-clause-front
returns-in-None-clause-front c =
    all_below c.args.t.now c.len-all.result (c.len-all.ensures.length ∙ elements_count c.args.t.now (list_is_train c.args.t.now c.requires)) (option_map (λ e. e.now) c.args.e) (ap (option_map (λ e. e.now)) c.in-None.is)
