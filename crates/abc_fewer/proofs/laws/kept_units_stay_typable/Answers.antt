use Rattle.abc_fewer.proofs.Cuts.{kept_fewer, kept_units}
use Rattle.abc_fewer.proofs.laws.kept_units_stay_typable.Goals as goal

pub returns-clause-fewer : goal.returns-clause-fewer
returns-clause-fewer c = kept_fewer

pub returns-clause-typable : goal.returns-clause-typable
returns-clause-typable c = λ values kept units rising among. kept_units kept units rising among values
