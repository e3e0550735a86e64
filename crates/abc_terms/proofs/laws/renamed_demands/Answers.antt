use Rattle.abc_terms.proofs.Renaming.{renamed_met, renamed_meets, all_renamed_in}
use Rattle.abc_terms.proofs.laws.renamed_demands.Goals as goal

pub returns-clause-met : goal.returns-clause-met
returns-clause-met c f v demands = (renamed_meets f v demands, renamed_met f v demands)

pub returns-clause-inside : goal.returns-clause-inside
returns-clause-inside c f n m demands less inside = all_renamed_in f n m less demands inside
