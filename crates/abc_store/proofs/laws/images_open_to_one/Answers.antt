use Rattle.abc_store.proofs.Images.{opens_to_one, opens_extended, settled_opens}
use Rattle.abc_store.proofs.laws.images_open_to_one.Goals as goal

pub returns-clause-one : goal.returns-clause-one
returns-clause-one c image found other = opens_to_one c.spellings_are_told_apart.ensures.lists image found other

pub returns-clause-longer : goal.returns-clause-longer
returns-clause-longer c image d work holds extends = opens_extended image d work.layout work.kept holds.layout holds.opens_to extends

pub returns-clause-settled : goal.returns-clause-settled
returns-clause-settled c image found = settled_opens image found
