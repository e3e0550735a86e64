use Rattle.abc_scheme.proofs.Copies.{equals_turn}
use Rattle.abc_scheme.proofs.copying.equal_all.Goals as goal

pub loop-i-preserved : goal.loop-i-preserved
loop-i-preserved c = equals_turn c.args.xs.now c.args.ys.now c.loop-i.i _ _ c.args.demands.now.items c.loop-i.demands.items c.push.new.self.items c.loop-i-test.true c.requires c.loop-i.invariant c.in_ok-push.ensures.items
