use Rattle.std.proofs.Common.{◌+◌, ◌-◌, ◌/◌, sym, arith}
use Rattle.abc_chunks.proofs.Searching.{halved_low, halved_high}
use Rattle.abc_chunks.proofs.search.place_in.Goals as goal

pub loop-low-preserved-then-is_past : goal.loop-low-preserved-then-is_past
loop-low-preserved-then-is_past g c =
    halved_low (g.S.Seek.passes c.args.sought.now) c.args.items.now c.loop-low.low c.loop-low.high (c.loop-low.low + (c.loop-low.high - c.loop-low.low) / 2) c.index-items-middle.result
    c.requires c.loop-low.invariant (omega arith) (omega arith) c.index-items-middle.is (sym c.if-is_past.ensures)

pub loop-low-preserved : goal.loop-low-preserved
loop-low-preserved g c =
    halved_high (g.S.Seek.passes c.args.sought.now) c.args.items.now c.loop-low.low c.loop-low.high (c.loop-low.low + (c.loop-low.high - c.loop-low.low) / 2) c.index-items-middle.result
    c.requires c.loop-low.invariant (omega arith) (omega arith) c.index-items-middle.is (sym c.if-is_past.ensures)
