use Rattle.std.proofs.Common.{◌+◌, ◌-◌, ◌/◌, sym, arith}
use Rattle.abc_chunks.specs.Towers.{pieces}
use Rattle.abc_chunks.proofs.Searching.{around_low, around_high, around_found}
use Rattle.abc_chunks.proofs.tower.Tower.chunk_for.Goals as goal

pub loop-low-preserved-then-is_past : goal.loop-low-preserved-then-is_past
loop-low-preserved-then-is_past g c =
    around_low (g.S.Seek.passes c.args.sought.now) (pieces c.args.self.now) c.loop-low.low c.loop-low.high (c.loop-low.low + (c.loop-low.high - c.loop-low.low) / 2) c.first_of-first.result.now
    c.requires.sound.1 c.requires.parted c.loop-low.invariant (omega arith) (omega arith) c.first_of-first.ensures (sym c.if-is_past.ensures)

pub loop-low-preserved : goal.loop-low-preserved
loop-low-preserved g c =
    around_high (g.S.Seek.passes c.args.sought.now) (pieces c.args.self.now) c.loop-low.low c.loop-low.high (c.loop-low.low + (c.loop-low.high - c.loop-low.low) / 2) c.first_of-first.result.now
    c.requires.sound.1 c.requires.parted c.loop-low.invariant (omega arith) (omega arith) c.first_of-first.ensures (sym c.if-is_past.ensures)

pub returns : goal.returns
returns g c =
    around_found (g.S.Seek.passes c.args.sought.now) (pieces c.args.self.now) c.loop-low.low c.loop-low.high c.loop-low.invariant (omega (arith, c.loop-low-test.false))
