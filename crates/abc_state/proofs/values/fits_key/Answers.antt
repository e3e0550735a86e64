use Rattle.abc_state.proofs.Taking.{table_fits}
use Rattle.abc_state.proofs.values.fits_key.Goals as goal

pub returns-clause-table : goal.returns-clause-table
returns-clause-table c = table_fits c.args.table.now c.args.key.now c.have_table.result c.have_table.ensures
