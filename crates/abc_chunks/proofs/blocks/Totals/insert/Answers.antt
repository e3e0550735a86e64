use Rattle.std.proofs.Common.{length, ap, arith}
use Rattle.abc_chunks.proofs.Notes.{length_noted}
use Rattle.abc_chunks.proofs.blocks.Totals.insert.Goals as goal

pub put_in-requires-clause-place : goal.put_in-requires-clause-place
put_in-requires-clause-place c = let t = c.self.inside in omega (arith, c.requires, length_noted 0 t.notes.items t.counts.items, ap length c.self.view_is)
