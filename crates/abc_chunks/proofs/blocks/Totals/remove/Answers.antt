use Rattle.std.proofs.Common.{length, ap, arith}
use Rattle.abc_chunks.proofs.Notes.{length_noted}
use Rattle.abc_chunks.proofs.blocks.Totals.remove.Goals as goal

pub take_out-requires-clause-place : goal.take_out-requires-clause-place
take_out-requires-clause-place c = let t = c.self.inside in omega (arith, c.requires, length_noted 0 t.notes.items t.counts.items, ap length c.self.view_is)
