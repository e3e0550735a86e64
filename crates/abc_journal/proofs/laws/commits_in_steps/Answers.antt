use Rattle.abc_journal.proofs.Full.{fitting_is_added, neither_fits, room_is_made}
use Rattle.abc_journal.proofs.laws.commits_in_steps.Goals as goal

pub returns-clause-fitting : goal.returns-clause-fitting
returns-clause-fitting c = fitting_is_added

pub returns-clause-full : goal.returns-clause-full
returns-clause-full c = neither_fits

pub returns-clause-room : goal.returns-clause-room
returns-clause-room c = room_is_made
