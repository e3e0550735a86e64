use Rattle.abc_fewer.proofs.Staying.{types_stay, command_stays}
use Rattle.abc_fewer.proofs.laws.fewer_stay_typable.Goals as goal

pub returns-clause-types : goal.returns-clause-types
returns-clause-types c = λ values low high types fewer. types_stay low high fewer values types

pub returns-clause-command : goal.returns-clause-command
returns-clause-command c = λ values low high command m n fewer. command_stays low high fewer values command m n
