use Rattle.abc_scheme.proofs.Said.{said_next, said_one}
use Rattle.abc_scheme.proofs.saying.say_all.Goals as goal

pub say-requires : goal.say-requires
say-requires c = (c.requires.0, said_one c.requires.0 c.args.all.now c.loop-known.known-index c.known-item.result c.loop-known-test.true c.known-item.is c.requires.1)

pub loop-known-preserved : goal.loop-known-preserved
loop-known-preserved c = said_next c.args.all.now c.loop-known.known-index c.known-item.result c.loop-known.demands.items c.say.new.demands.items c.loop-known-test.true c.known-item.is c.loop-known.invariant c.in_ok-say.ensures
