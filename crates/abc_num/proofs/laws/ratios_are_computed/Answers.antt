use Rattle.abc_num.proofs.Computed.{ratio_is, is_ratio}
use Rattle.abc_num.proofs.laws.ratios_are_computed.Goals as goal

pub returns : goal.returns
returns c = λ a b r h. (ratio_is a b r h, is_ratio a b r h)
