-- Answers for delete.
use Rattle.abc_command_steps.proofs.performing.delete.Goals as goal
use Rattle.abc_command_steps.proofs.Acting.{delete_later}

-- the keys of the address come first
pub returns-clause-leads : goal.returns-clause-leads
returns-clause-leads c units scope s = delete_later units scope c.args.place c.args.address.now s
