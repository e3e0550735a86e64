use Rattle.abc_outside.proofs.Calls.{synced}
use Rattle.abc_outside.proofs.memory.MemoryHostHost.sync.Goals as goal

pub returns-clause-durable : goal.returns-clause-durable
returns-clause-durable c i s stop = (synced _ _ _ _ c.in-Ok.ensures.ok i s stop).0

pub returns-clause-stop : goal.returns-clause-stop
returns-clause-stop c i s stop = (synced _ _ _ _ c.in-Ok.ensures.ok i s stop).1
