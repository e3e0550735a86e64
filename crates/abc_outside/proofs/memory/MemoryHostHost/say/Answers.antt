use Rattle.std.proofs.Common.{refl, sym}
use Rattle.abc_outside.proofs.Calls.{spoke, still_spoke, quiet_say}
use Rattle.abc_outside.proofs.memory.MemoryHostHost.say.Goals as goal

pub returns-then-next_fails-clause-stop : goal.returns-then-next_fails-clause-stop
returns-then-next_fails-clause-stop c = let host = c.args.self.now in quiet_say host.steps.items host.steps.items host.image.items host.said.items host.said.items refl

pub returns-in_default-clause-stop : goal.returns-in_default-clause-stop
returns-in_default-clause-stop c = quiet_say _ _ _ _ _ c.in_default.ensures.err

pub returns-clause-stop : goal.returns-clause-stop
returns-clause-stop c = spoke _ _ _ _ _ _ c.in-Ok.ensures.ok

pub returns-then-next_fails-clause-stays : goal.returns-then-next_fails-clause-stays
returns-then-next_fails-clause-stays c = let host = c.args.self.now in quiet_say host.steps.items host.steps.items host.image.items host.said.items host.said.items refl

pub returns-in_default-clause-stays : goal.returns-in_default-clause-stays
returns-in_default-clause-stays c = quiet_say _ _ _ _ _ (sym c.in_default.ensures.err)

pub returns-clause-stays : goal.returns-clause-stays
returns-clause-stays c = still_spoke _ _ _ _ _ _ c.in-Ok.ensures.ok
