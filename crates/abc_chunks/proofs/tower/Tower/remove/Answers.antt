use Rattle.std.proofs.Common.{length, get_or, sym, ap, subst, ◌∙◌, arith}
use Rattle.std.specs.List.{remove}
use Rattle.std.proofs.lemmas.List.{length-set}
use Rattle.std.proofs.lemmas.List.Edits.{length-remove}
use Rattle.abc_chunks.specs.Towers.{joined, pieces, sizes, AreSizes}
use Rattle.abc_chunks.specs.inner.Spots.{piece_at, without_empty}
use Rattle.abc_chunks.proofs.Joined.{get_joined, remove_joined, without_joined}
use Rattle.abc_chunks.proofs.Shifts.{sizes_taken, sizes_within}
use Rattle.abc_chunks.proofs.Written.{on_err_always}
use Rattle.abc_chunks.proofs.tower.Tower.remove.Goals as goal

pub returns-in_err-gone-clause-err : goal.returns-in_err-gone-clause-err
returns-in_err-gone-clause-err g c = on_err_always c.from_residual.result (ap joined c.in_err-gone.ensures.err)

pub returns-in_err-gone-clause-sound : goal.returns-in_err-gone-clause-sound
returns-in_err-gone-clause-sound g c = (c.take.ensures.totals, subst (λ yss. AreSizes (sizes yss)) (sym c.in_err-gone.ensures.err) c.requires.sound.1)

pub drop_empty-requires-clause-chunk : goal.drop_empty-requires-clause-chunk
drop_empty-requires-clause-chunk g c =
    let s = c.spot_at-spot.ensures in
    let xss = pieces c.args.self.now in
    omega (arith, ap length c.in_ok-gone.ensures.ok, length-set xss c.spot_at-spot.result.chunk (remove (piece_at xss c.spot_at-spot.result.chunk) c.spot_at-spot.result.at), s.spot.chunk)

pub returns-clause-value : goal.returns-clause-value
returns-clause-value g c =
    let s = c.spot_at-spot.ensures in
    let xss = pieces c.args.self.now in
    let y = c.in_ok-gone.gone in
    c.in_ok-gone.ensures.value ∙ sym (get_joined xss c.spot_at-spot.result.chunk c.spot_at-spot.result.at y s.spot.chunk s.within) ∙ ap (λ n. get_or (joined xss) n y) s.spot.front

pub returns-clause-ok : goal.returns-clause-ok
returns-clause-ok g c =
    let s = c.spot_at-spot.ensures in
    let k = c.spot_at-spot.result.chunk in
    let at = c.spot_at-spot.result.at in
    let xss = pieces c.args.self.now in
    let long = length-set xss k (remove (piece_at xss k) at) in
    let there = ap length c.in_ok-gone.ensures.ok in
    ap joined c.drop_empty.ensures.pieces ∙ without_joined _ k (omega (arith, long, there, s.spot.chunk)) ∙ ap joined c.in_ok-gone.ensures.ok
    ∙ remove_joined xss k at s.spot.chunk s.within ∙ ap (remove (joined xss)) s.spot.front

pub returns-clause-sound : goal.returns-clause-sound
returns-clause-sound g c =
    let s = c.spot_at-spot.ensures in
    let k = c.spot_at-spot.result.chunk in
    let at = c.spot_at-spot.result.at in
    let xss = pieces c.args.self.now in
    let within = sizes_within xss k s.spot.chunk c.requires.sound.1 in
    let shorter = length-remove (piece_at xss k) at s.within in
    let now = c.drop_empty.ensures.pieces ∙ ap (λ yss. without_empty yss k) c.in_ok-gone.ensures.ok in
    (c.drop_empty.ensures.totals, subst (λ yss. AreSizes (sizes yss)) (sym now) (sizes_taken xss k (remove (piece_at xss k) at) s.spot.chunk c.requires.sound.1 (omega (arith, within.1, shorter))))
