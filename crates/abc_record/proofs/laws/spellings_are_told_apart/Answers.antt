use Rattle.abc_record.proofs.Leading.{told_apart, one_list, one_place}
use Rattle.abc_record.proofs.laws.spellings_are_told_apart.Goals as goal

pub returns-clause-changes : goal.returns-clause-changes
returns-clause-changes c = told_apart

pub returns-clause-lists : goal.returns-clause-lists
returns-clause-lists c = one_list

pub returns-clause-place : goal.returns-clause-place
returns-clause-place c = one_place
