use Rattle.abc_state.proofs.Flags.{flags_end}
use Rattle.abc_state.proofs.looking.flags.Goals as goal

pub returns : goal.returns
returns c = flags_end c.args.count c.args.ids.now c.loop-id.flags.items c.loop-id.id-index c.loop-id-test.false c.loop-id.invariant
