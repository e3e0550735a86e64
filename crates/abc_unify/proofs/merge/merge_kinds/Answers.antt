use Rattle.abc_unify.proofs.merge.merge_kinds.Goals as goal

pub returns-in-Number-clause-exact : goal.returns-in-Number-clause-exact
returns-in-Number-clause-exact c = rw c.in-Number.is c.merge_number.ensures.exact

pub returns-in-Number-clause-inside : goal.returns-in-Number-clause-inside
returns-in-Number-clause-inside c = rw c.in-Number.is c.merge_number.ensures.inside

pub returns-in-Text-clause-exact : goal.returns-in-Text-clause-exact
returns-in-Text-clause-exact c = rw c.in-Text.is c.merge_text.ensures.exact

pub returns-in-Text-clause-inside : goal.returns-in-Text-clause-inside
returns-in-Text-clause-inside c = rw c.in-Text.is c.merge_text.ensures.inside

pub returns-in-NumberOrText-clause-exact : goal.returns-in-NumberOrText-clause-exact
returns-in-NumberOrText-clause-exact c = rw c.in-NumberOrText.is c.merge_number_or_text.ensures.exact

pub returns-in-NumberOrText-clause-inside : goal.returns-in-NumberOrText-clause-inside
returns-in-NumberOrText-clause-inside c = rw c.in-NumberOrText.is c.merge_number_or_text.ensures.inside

pub returns-in-ListOf-clause-exact : goal.returns-in-ListOf-clause-exact
returns-in-ListOf-clause-exact c = rw c.in-ListOf.is c.merge_list.ensures.exact

pub returns-in-ListOf-clause-inside : goal.returns-in-ListOf-clause-inside
returns-in-ListOf-clause-inside c = rw c.in-ListOf.is c.merge_list.ensures.inside

pub returns-in-TableOf-clause-exact : goal.returns-in-TableOf-clause-exact
returns-in-TableOf-clause-exact c = rw c.in-TableOf.is c.merge_table.ensures.exact

pub returns-in-TableOf-clause-inside : goal.returns-in-TableOf-clause-inside
returns-in-TableOf-clause-inside c = rw c.in-TableOf.is c.merge_table.ensures.inside

pub returns-in-TrainOf-clause-exact : goal.returns-in-TrainOf-clause-exact
returns-in-TrainOf-clause-exact c = rw c.in-TrainOf.is c.merge_train.ensures.exact

pub returns-in-TrainOf-clause-inside : goal.returns-in-TrainOf-clause-inside
returns-in-TrainOf-clause-inside c = rw c.in-TrainOf.is c.merge_train.ensures.inside

pub returns-in-CollectionOf-clause-exact : goal.returns-in-CollectionOf-clause-exact
returns-in-CollectionOf-clause-exact c = rw c.in-CollectionOf.is c.merge_collection.ensures.exact

pub returns-in-CollectionOf-clause-inside : goal.returns-in-CollectionOf-clause-inside
returns-in-CollectionOf-clause-inside c = rw c.in-CollectionOf.is c.merge_collection.ensures.inside

pub returns-in-Compound-clause-exact : goal.returns-in-Compound-clause-exact
returns-in-Compound-clause-exact c = rw c.in-Compound.is c.merge_compound.ensures.exact

pub returns-in-Compound-clause-inside : goal.returns-in-Compound-clause-inside
returns-in-Compound-clause-inside c = rw c.in-Compound.is c.merge_compound.ensures.inside

pub returns-in-Number-clause-parts : goal.returns-in-Number-clause-parts
returns-in-Number-clause-parts c = rw c.in-Number.is c.merge_number.ensures.parts

pub returns-in-Text-clause-parts : goal.returns-in-Text-clause-parts
returns-in-Text-clause-parts c = rw c.in-Text.is c.merge_text.ensures.parts

pub returns-in-NumberOrText-clause-parts : goal.returns-in-NumberOrText-clause-parts
returns-in-NumberOrText-clause-parts c = rw c.in-NumberOrText.is c.merge_number_or_text.ensures.parts

pub returns-in-ListOf-clause-parts : goal.returns-in-ListOf-clause-parts
returns-in-ListOf-clause-parts c = rw c.in-ListOf.is c.merge_list.ensures.parts

pub returns-in-TableOf-clause-parts : goal.returns-in-TableOf-clause-parts
returns-in-TableOf-clause-parts c = rw c.in-TableOf.is c.merge_table.ensures.parts

pub returns-in-TrainOf-clause-parts : goal.returns-in-TrainOf-clause-parts
returns-in-TrainOf-clause-parts c = rw c.in-TrainOf.is c.merge_train.ensures.parts

pub returns-in-CollectionOf-clause-parts : goal.returns-in-CollectionOf-clause-parts
returns-in-CollectionOf-clause-parts c = rw c.in-CollectionOf.is c.merge_collection.ensures.parts

pub returns-in-Compound-clause-parts : goal.returns-in-Compound-clause-parts
returns-in-Compound-clause-parts c = rw c.in-Compound.is c.merge_compound.ensures.parts
