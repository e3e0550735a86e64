use Rattle.abc_acts.proofs.Taking.{list_fits}
use Rattle.abc_acts.proofs.changing.fits_element.Goals as goal

pub returns-clause-list : goal.returns-clause-list
returns-clause-list c = list_fits c.args.list.now c.args.element.now c.have_list.result c.have_list.ensures
