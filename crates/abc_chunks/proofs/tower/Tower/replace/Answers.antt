use Rattle.std.proofs.Common.{length, get_or, slice_set, sym, ap, subst, ◌∙◌, arith}
use Rattle.std.proofs.lemmas.List.{length-set}
use Rattle.std.proofs.lemmas.Result.{IfOk-weaker, on_ok_weaker, on_err_weaker}
use Rattle.abc_chunks.specs.Towers.{joined, pieces, sizes, totals_from, AreSizes}
use Rattle.abc_chunks.specs.inner.Spots.{piece_at}
use Rattle.abc_chunks.proofs.Joined.{get_joined, set_joined}
use Rattle.abc_chunks.proofs.Shifts.{sizes_swapped}
use Rattle.abc_chunks.proofs.Written.{chunk_at, chunk_written, chunk_kept, either_way}
use Rattle.abc_chunks.proofs.tower.Tower.replace.Goals as goal

pub swap_in_chunk-requires-clause-within : goal.swap_in_chunk-requires-clause-within
swap_in_chunk-requires-clause-within g c =
    let s = c.spot_at-spot.ensures in
    let was = chunk_at c.args.self.now.chunks.items c.spot_at-spot.result.chunk c.index_mut-chunk.result.now s.spot.chunk c.index_mut-chunk.ensures.value in
    omega (arith, ap length was, s.within)

pub returns-clause-value : goal.returns-clause-value
returns-clause-value g c =
    let s = c.spot_at-spot.ensures in
    let k = c.spot_at-spot.result.chunk in
    let at = c.spot_at-spot.result.at in
    let xss = pieces c.args.self.now in
    let was = chunk_at c.args.self.now.chunks.items k c.index_mut-chunk.result.now s.spot.chunk c.index_mut-chunk.ensures.value in
    IfOk-weaker c.swap_in_chunk.result _ _
    (λ y e. e ∙ ap (λ ys. get_or ys at y) was ∙ sym (get_joined xss k at y s.spot.chunk s.within) ∙ ap (λ n. get_or (joined xss) n y) s.spot.front)
    c.swap_in_chunk.ensures.value

pub returns-clause-ok : goal.returns-clause-ok
returns-clause-ok g c =
    let s = c.spot_at-spot.ensures in
    let k = c.spot_at-spot.result.chunk in
    let at = c.spot_at-spot.result.at in
    let cs = c.args.self.now.chunks.items in
    let xss = pieces c.args.self.now in
    let was = chunk_at cs k c.index_mut-chunk.result.now s.spot.chunk c.index_mut-chunk.ensures.value in
    on_ok_weaker c.swap_in_chunk.result
    (λ e. ap joined (chunk_written cs k c.swap_in_chunk.new.chunk _ (e ∙ ap (λ ys. slice_set ys at c.args.x) was)) ∙ set_joined xss k at c.args.x s.spot.chunk s.within ∙ ap (λ n. slice_set (joined xss) n c.args.x) s.spot.front)
    c.swap_in_chunk.ensures.ok

pub returns-clause-err : goal.returns-clause-err
returns-clause-err g c =
    on_err_weaker c.swap_in_chunk.result
    (λ e. ap joined (chunk_kept c.args.self.now.chunks.items c.spot_at-spot.result.chunk c.swap_in_chunk.new.chunk c.index_mut-chunk.result.now c.index_mut-chunk.ensures.value e))
    c.swap_in_chunk.ensures.err

pub returns-clause-sound : goal.returns-clause-sound
returns-clause-sound g c =
    let s = c.spot_at-spot.ensures in
    let k = c.spot_at-spot.result.chunk in
    let at = c.spot_at-spot.result.at in
    let cs = c.args.self.now.chunks.items in
    let xss = pieces c.args.self.now in
    let was = chunk_at cs k c.index_mut-chunk.result.now s.spot.chunk c.index_mut-chunk.ensures.value in
    let same = either_way c.swap_in_chunk.result
    (on_ok_weaker c.swap_in_chunk.result
    (λ e. ap sizes (chunk_written cs k c.swap_in_chunk.new.chunk _ (e ∙ ap (λ ys. slice_set ys at c.args.x) was)) ∙ sizes_swapped xss k (slice_set (piece_at xss k) at c.args.x) s.spot.chunk (length-set (piece_at xss k) at c.args.x))
    c.swap_in_chunk.ensures.ok)
    (on_err_weaker c.swap_in_chunk.result (λ e. ap sizes (chunk_kept cs k c.swap_in_chunk.new.chunk c.index_mut-chunk.result.now c.index_mut-chunk.ensures.value e)) c.swap_in_chunk.ensures.err) in
    (c.requires.sound.0 ∙ ap (totals_from 0) (sym same), subst AreSizes (sym same) c.requires.sound.1)
