use Rattle.std.proofs.Common.{length, sym, ap, subst, ◌∙◌, arith}
use Rattle.std.specs.List.{insert}
use Rattle.std.proofs.lemmas.List.Edits.{length-insert}
use Rattle.std.proofs.lemmas.Result.{on_ok_weaker, on_err_weaker}
use Rattle.abc_chunks.specs.Towers.{joined, pieces, sizes, AreSizes}
use Rattle.abc_chunks.specs.inner.Spots.{piece_at}
use Rattle.abc_chunks.proofs.Joined.{insert_joined}
use Rattle.abc_chunks.proofs.Shifts.{sizes_set}
use Rattle.abc_chunks.proofs.Written.{either_way}
use Rattle.abc_chunks.proofs.tower.Tower.insert.Goals as goal

pub put-requires-clause-fits : goal.put-requires-clause-fits
put-requires-clause-fits g c = omega (arith, ap length c.room_for.ensures.same, c.len.ensures)

pub returns-clause-ok : goal.returns-clause-ok
returns-clause-ok g c =
    let s = c.in_ok-spot.ensures.spot in
    let yss = pieces c.room_for.new.self in
    on_ok_weaker c.put.result
    (λ e. ap joined e ∙ insert_joined yss c.in_ok-spot.spot.chunk c.in_ok-spot.spot.at c.args.x s.chunk s.within ∙ ap (λ n. insert (joined yss) n c.args.x) s.front ∙ ap (λ zs. insert zs c.args.place c.args.x) c.room_for.ensures.same)
    c.put.ensures.ok

pub returns-clause-err : goal.returns-clause-err
returns-clause-err g c = on_err_weaker c.put.result (λ e. ap joined e ∙ c.room_for.ensures.same) c.put.ensures.err

pub returns-clause-sound : goal.returns-clause-sound
returns-clause-sound g c =
    let s = c.in_ok-spot.ensures.spot in
    let k = c.in_ok-spot.spot.chunk in
    let yss = pieces c.room_for.new.self in
    let more = length-insert (piece_at yss k) c.in_ok-spot.spot.at c.args.x s.within in
    let sized = either_way c.put.result
    (on_ok_weaker c.put.result
    (λ e. subst (λ zss. AreSizes (sizes zss)) (sym e) (sizes_set yss k (insert (piece_at yss k) c.in_ok-spot.spot.at c.args.x) c.room_for.ensures.sound.1 (omega (arith, more)) (omega (arith, more, c.in_ok-spot.ensures.room))))
    c.put.ensures.ok)
    (on_err_weaker c.put.result (λ e. subst (λ zss. AreSizes (sizes zss)) (sym e) c.room_for.ensures.sound.1) c.put.ensures.err) in
    (c.put.ensures.totals, sized)
