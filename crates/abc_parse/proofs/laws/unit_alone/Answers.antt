use Rattle.abc_parse.proofs.spelling.Alone.{alone_computed, alone_fault, alone_tree}
use Rattle.abc_parse.proofs.laws.unit_alone.Goals as goal

pub returns-clause-fault : goal.returns-clause-fault
returns-clause-fault c = alone_fault

pub returns-clause-tree : goal.returns-clause-tree
returns-clause-tree c = alone_tree

pub returns-clause-computed : goal.returns-clause-computed
returns-clause-computed c = alone_computed
