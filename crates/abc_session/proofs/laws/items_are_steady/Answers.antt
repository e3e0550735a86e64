use Rattle.abc_session.proofs.Items.{steady}
use Rattle.abc_session.proofs.laws.items_are_steady.Goals as goal

pub returns-clause-steady : goal.returns-clause-steady
returns-clause-steady c = steady

pub returns-clause-replies : goal.returns-clause-replies
returns-clause-replies c types bounds steps k work later lines behind reply left quits = c.no_reply_is_empty.ensures (types k) bounds steps k work later lines behind reply left quits
