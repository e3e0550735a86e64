use Rattle.std.proofs.Common.{◌≤◌, ℕ, length, drop, get_or, sym, ap, subst, ◌∙◌, arith, add-one}
use Rattle.std.specs.List.{remove, All}
use Rattle.std.proofs.lemmas.List.Edits.{length-remove}
use Rattle.abc_chunks.specs.Towers.{pieces, sizes, totals_from}
use Rattle.abc_chunks.specs.inner.Spots.{piece_at, lowered}
use Rattle.abc_chunks.proofs.Counts.{total_count}
use Rattle.abc_chunks.proofs.Shifts.{totals_taken, totals_some}
use Rattle.abc_chunks.proofs.Written.{chunk_at, chunk_written, chunk_kept, on_err_always}
use Rattle.abc_chunks.proofs.tower.Tower.take.Goals as goal

pub take_from_chunk-requires-clause-within : goal.take_from_chunk-requires-clause-within
take_from_chunk-requires-clause-within g c =
    let was = chunk_at c.args.self.now.chunks.items c.args.spot.chunk c.index_mut-chunk.result.now c.requires.chunk c.index_mut-chunk.ensures.value in
    omega (arith, ap length was, c.requires.within)

pub returns-in_err-gone-clause-err : goal.returns-in_err-gone-clause-err
returns-in_err-gone-clause-err g c =
    on_err_always c.from_residual.result (chunk_kept c.args.self.now.chunks.items c.args.spot.chunk c.take_from_chunk.new.chunk c.index_mut-chunk.result.now c.index_mut-chunk.ensures.value c.in_err-gone.ensures.err)

pub returns-in_err-gone-clause-totals : goal.returns-in_err-gone-clause-totals
returns-in_err-gone-clause-totals g c =
    let same = chunk_kept c.args.self.now.chunks.items c.args.spot.chunk c.take_from_chunk.new.chunk c.index_mut-chunk.result.now c.index_mut-chunk.ensures.value c.in_err-gone.ensures.err in
    c.requires.totals ∙ ap (λ xss. totals_from 0 (sizes xss)) (sym same)

pub lower-requires-clause-from : goal.lower-requires-clause-from
lower-requires-clause-from g c = omega (arith, total_count c.args.self.now c.requires.totals, c.requires.chunk)

pub lower-requires-clause-some : goal.lower-requires-clause-some
lower-requires-clause-some g c =
    let k = c.args.spot.chunk in
    let P : ℕ → Type 0 = λ j. All (λ t. 1 ≤ t) (drop j c.args.self.now.totals) in
    subst P (sym (add-one k)) (totals_some (pieces c.args.self.now) k c.args.self.now.totals c.requires.totals c.requires.chunk (omega (arith, c.requires.within)))

pub returns-clause-value : goal.returns-clause-value
returns-clause-value g c =
    let was = chunk_at c.args.self.now.chunks.items c.args.spot.chunk c.index_mut-chunk.result.now c.requires.chunk c.index_mut-chunk.ensures.value in
    c.in_ok-gone.ensures.value ∙ ap (λ ys. get_or ys c.args.spot.at c.in_ok-gone.gone) was

pub returns-clause-ok : goal.returns-clause-ok
returns-clause-ok g c =
    let cs = c.args.self.now.chunks.items in
    let was = chunk_at cs c.args.spot.chunk c.index_mut-chunk.result.now c.requires.chunk c.index_mut-chunk.ensures.value in
    chunk_written cs c.args.spot.chunk c.take_from_chunk.new.chunk _ (c.in_ok-gone.ensures.ok ∙ ap (λ ys. remove ys c.args.spot.at) was)

pub returns-clause-totals : goal.returns-clause-totals
returns-clause-totals g c =
    let k = c.args.spot.chunk in
    let cs = c.args.self.now.chunks.items in
    let xss = pieces c.args.self.now in
    let was = chunk_at cs k c.index_mut-chunk.result.now c.requires.chunk c.index_mut-chunk.ensures.value in
    let now = chunk_written cs k c.take_from_chunk.new.chunk (remove (piece_at xss k) c.args.spot.at) (c.in_ok-gone.ensures.ok ∙ ap (λ ys. remove ys c.args.spot.at) was) in
    let long = length-remove (piece_at xss k) c.args.spot.at c.requires.within in
    c.lower.ensures ∙ (λ i. lowered (add-one k i) (c.requires.totals i))
    ∙ sym (totals_taken xss k (remove (piece_at xss k) c.args.spot.at) c.requires.chunk (omega (arith, long)))
    ∙ ap (λ yss. totals_from 0 (sizes yss)) (sym now)
