use Rattle.std.proofs.Common.{◌+◌, ◌-◌, ◌^◌, length, sym, ap, ◌∙◌, arith, add-one}
use Rattle.std.specs.List.{insert}
use Rattle.std.proofs.lemmas.List.Edits.{length-insert}
use Rattle.abc_chunks.specs.Towers.{pieces, sizes, totals_from}
use Rattle.abc_chunks.specs.inner.Spots.{piece_at, raised}
use Rattle.abc_chunks.proofs.Counts.{total_count}
use Rattle.abc_chunks.proofs.Shifts.{totals_put, totals_small}
use Rattle.abc_chunks.proofs.Written.{chunk_at, chunk_written, chunk_kept, on_err_always}
use Rattle.abc_chunks.proofs.tower.Tower.put.Goals as goal

pub put_in_chunk-requires-clause-within : goal.put_in_chunk-requires-clause-within
put_in_chunk-requires-clause-within g c =
    let was = chunk_at c.args.self.now.chunks.items c.args.spot.chunk c.index_mut-chunk.result.now c.requires.chunk c.index_mut-chunk.ensures.value in
    omega (arith, ap length was, c.requires.within)

pub returns-in_err-put_in_chunk-clause-err : goal.returns-in_err-put_in_chunk-clause-err
returns-in_err-put_in_chunk-clause-err g c =
    on_err_always c.from_residual.result (chunk_kept c.args.self.now.chunks.items c.args.spot.chunk c.put_in_chunk.new.chunk c.index_mut-chunk.result.now c.index_mut-chunk.ensures.value c.in_err-put_in_chunk.ensures.err)

pub returns-in_err-put_in_chunk-clause-totals : goal.returns-in_err-put_in_chunk-clause-totals
returns-in_err-put_in_chunk-clause-totals g c =
    let same = chunk_kept c.args.self.now.chunks.items c.args.spot.chunk c.put_in_chunk.new.chunk c.index_mut-chunk.result.now c.index_mut-chunk.ensures.value c.in_err-put_in_chunk.ensures.err in
    c.requires.totals ∙ ap (λ xss. totals_from 0 (sizes xss)) (sym same)

pub raise-requires-clause-from : goal.raise-requires-clause-from
raise-requires-clause-from g c = omega (arith, total_count c.args.self.now c.requires.totals, c.requires.chunk)

pub raise-requires-clause-fits : goal.raise-requires-clause-fits
raise-requires-clause-fits g c = totals_small (2 ^ 64 - 1) (c.args.spot.chunk + 1) (pieces c.args.self.now) c.args.self.now.totals c.requires.totals c.requires.fits

pub returns-clause-ok : goal.returns-clause-ok
returns-clause-ok g c =
    let cs = c.args.self.now.chunks.items in
    let was = chunk_at cs c.args.spot.chunk c.index_mut-chunk.result.now c.requires.chunk c.index_mut-chunk.ensures.value in
    chunk_written cs c.args.spot.chunk c.put_in_chunk.new.chunk _ (c.in_ok-put_in_chunk.ensures.ok ∙ ap (λ ys. insert ys c.args.spot.at c.args.x) was)

pub returns-clause-totals : goal.returns-clause-totals
returns-clause-totals g c =
    let k = c.args.spot.chunk in
    let cs = c.args.self.now.chunks.items in
    let xss = pieces c.args.self.now in
    let was = chunk_at cs k c.index_mut-chunk.result.now c.requires.chunk c.index_mut-chunk.ensures.value in
    let now = chunk_written cs k c.put_in_chunk.new.chunk (insert (piece_at xss k) c.args.spot.at c.args.x) (c.in_ok-put_in_chunk.ensures.ok ∙ ap (λ ys. insert ys c.args.spot.at c.args.x) was) in
    let long = length-insert (piece_at xss k) c.args.spot.at c.args.x c.requires.within in
    c.raise.ensures ∙ (λ i. raised (add-one k i) (c.requires.totals i))
    ∙ sym (totals_put xss k (insert (piece_at xss k) c.args.spot.at c.args.x) c.requires.chunk (omega (arith, long)))
    ∙ ap (λ yss. totals_from 0 (sizes yss)) (sym now)
