use Rattle.std.proofs.Common.{◌-◌, length, get_or, sym, ap, ◌∙◌, arith}
use Rattle.abc_chunks.specs.Towers.{joined, pieces}
use Rattle.abc_chunks.proofs.Counts.{chunk_count, total_count}
use Rattle.abc_chunks.proofs.Joined.{get_joined}
use Rattle.abc_chunks.proofs.Totals.{around, spot_read}
use Rattle.abc_chunks.proofs.Written.{chunk_at}
use Rattle.abc_chunks.proofs.tower.Tower.at.Goals as goal

pub chunk_of-k-requires : goal.chunk_of-k-requires
chunk_of-k-requires g c = around (pieces c.args.self.now) c.args.self.now.totals c.args.place c.requires.totals c.requires.place

pub index-requires : goal.index-requires
index-requires g c =
    let t = c.args.self.now in
    omega (arith, c.chunk_of-k.ensures.within, total_count t c.requires.totals, chunk_count t)

pub offset_bounds-as_slice-place : goal.offset_bounds-as_slice-place
offset_bounds-as_slice-place g c =
    let t = c.args.self.now in
    let k = c.chunk_of-k.result in
    let s = spot_read (pieces t) t.totals c.args.place k c.at.result c.requires.totals c.chunk_of-k.ensures c.at.ensures in
    let here = c.as_slice.ensures.value ∙ ap (λ v. v.items) c.deref.ensures ∙ chunk_at t.chunks.items k c.index.result.now s.0.chunk c.index.ensures in
    omega (arith, s.1, ap length here)

pub bounds-as_slice-place : goal.bounds-as_slice-place
bounds-as_slice-place g c =
    let t = c.args.self.now in
    let k = c.chunk_of-k.result in
    let s = spot_read (pieces t) t.totals c.args.place k c.at.result c.requires.totals c.chunk_of-k.ensures c.at.ensures in
    let here = c.as_slice.ensures.value ∙ ap (λ v. v.items) c.deref.ensures ∙ chunk_at t.chunks.items k c.index.result.now s.0.chunk c.index.ensures in
    omega (arith, s.1, ap length here)

pub returns : goal.returns
returns g c =
    let t = c.args.self.now in
    let xss = pieces t in
    let k = c.chunk_of-k.result in
    let n = c.at.result in
    let y = c.index-as_slice-place.result in
    let s = spot_read xss t.totals c.args.place k n c.requires.totals c.chunk_of-k.ensures c.at.ensures in
    let here = c.as_slice.ensures.value ∙ ap (λ v. v.items) c.deref.ensures ∙ chunk_at t.chunks.items k c.index.result.now s.0.chunk c.index.ensures in
    c.index-as_slice-place.is ∙ ap (λ ys. get_or ys (c.args.place - n) y) here ∙ sym (get_joined xss k (c.args.place - n) y s.0.chunk s.1) ∙ ap (λ m. get_or (joined xss) m y) s.0.front
