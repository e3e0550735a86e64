use Rattle.abc_chunks.specs.Towers.{pieces}
use Rattle.abc_chunks.proofs.Totals.{around, spot_read}
use Rattle.abc_chunks.proofs.tower.Tower.spot_at.Goals as goal

pub chunk_of-chunk-requires : goal.chunk_of-chunk-requires
chunk_of-chunk-requires g c = around (pieces c.args.self.now) c.args.self.now.totals c.args.place c.requires.totals c.requires.place

pub returns-clause-spot : goal.returns-clause-spot
returns-clause-spot g c =
    let t = c.args.self.now in
    (spot_read (pieces t) t.totals c.args.place c.chunk_of-chunk.result c.at.result c.requires.totals c.chunk_of-chunk.ensures c.at.ensures).0

pub returns-clause-within : goal.returns-clause-within
returns-clause-within g c =
    let t = c.args.self.now in
    (spot_read (pieces t) t.totals c.args.place c.chunk_of-chunk.result c.at.result c.requires.totals c.chunk_of-chunk.ensures c.at.ensures).1
