use Rattle.abc_fewer.proofs.Cuts.{cut_fewer, shorter_unit}
use Rattle.abc_fewer.proofs.laws.shorter_units_stay_typable.Goals as goal

pub returns-clause-fewer : goal.returns-clause-fewer
returns-clause-fewer c = cut_fewer

pub returns-clause-typable : goal.returns-clause-typable
returns-clause-typable c = shorter_unit
