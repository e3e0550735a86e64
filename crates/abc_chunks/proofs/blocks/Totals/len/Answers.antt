use Rattle.std.proofs.Common.{length, ap, arith}
use Rattle.abc_chunks.proofs.Notes.{length_noted}
use Rattle.abc_chunks.proofs.blocks.Totals.len.Goals as goal

pub returns : goal.returns
returns c = let t = c.self.inside in omega (arith, c.len.ensures, t.counts.ok.0, length_noted 0 t.notes.items t.counts.items, ap length c.self.view_is)
