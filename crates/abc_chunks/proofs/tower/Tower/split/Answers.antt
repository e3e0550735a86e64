use Rattle.std.proofs.Common.{◌≡◌, ◌+◌, ◌-◌, suc, length, map, take, drop, get_or, slice_set, sym, ap, ◌∙◌, arith, add-one}
use Rattle.std.specs.List.{insert, remove}
use Rattle.std.proofs.lemmas.List.Edits.{length-insert}
use Rattle.std.proofs.lemmas.Slice.{between_to_end}
use Rattle.abc_chunks.specs.Towers.{chunk_items, pieces, sizes, totals_from}
use Rattle.abc_chunks.proofs.Counts.{total_count}
use Rattle.abc_chunks.proofs.Shifts.{totals_split}
use Rattle.abc_chunks.proofs.Totals.{total_at, front_more}
use Rattle.abc_chunks.proofs.Written.{chunk_at, chunks_parted, put_back}
use Rattle.abc_chunks.proofs.tower.Tower.split.Goals as goal

pub at-requires : goal.at-requires
at-requires g c = omega (arith, total_count c.args.self.now c.requires.totals, c.requires.chunk)

pub overflow_sub-middle-2 : goal.overflow_sub-middle-2
overflow_sub-middle-2 g c =
    let k = c.args.k in
    let t = c.args.self.now in
    let xss = pieces t in
    let here = c.as_slice-items.ensures.value ∙ ap (λ v. v.items) c.deref.ensures ∙ chunk_at t.chunks.items k c.index.result.now c.requires.chunk c.index.ensures in
    let count = total_count t c.requires.totals in
    let read = c.at.ensures in
    let end = ap (λ n. get_or t.totals n 0) (add-one k) ∙ ap (λ ts. get_or ts (suc k) 0) c.requires.totals in
    omega (arith, read, end, total_at 0 xss (suc k) c.requires.chunk, front_more xss k c.requires.chunk, ap length here)

pub insert-requires : goal.insert-requires
insert-requires g c = omega (arith, total_count c.args.self.now c.requires.totals, c.requires.chunk)

pub remove-requires : goal.remove-requires
remove-requires g c = omega (arith, total_count c.args.self.now c.requires.totals, c.requires.chunk, ap length c.in_ok-insert.ensures.ok, length-insert c.args.self.now.totals (c.args.k + 1) (c.at.result - (length c.as_slice-items.result.now - c.args.cut)) (omega (arith, total_count c.args.self.now c.requires.totals, c.requires.chunk)))

pub returns-in-Err-clause-totals : goal.returns-in-Err-clause-totals
returns-in-Err-clause-totals g c =
    let t = c.args.self.now in
    c.remove.ensures ∙ ap (λ ts. remove ts (c.args.k + 1)) c.in_ok-insert.ensures.ok
    ∙ put_back t.totals (c.args.k + 1) _ (omega (arith, total_count t c.requires.totals, c.requires.chunk))
    ∙ c.requires.totals ∙ ap (λ cs. totals_from 0 (sizes (map chunk_items cs))) (sym c.in-Err.ensures.items)

pub returns-in-Ok-clause-ok : goal.returns-in-Ok-clause-ok
returns-in-Ok-clause-ok g c =
    let k = c.args.k in
    let cut = c.args.cut in
    let cs = c.args.self.now.chunks.items in
    let here = c.as_slice-items.ensures.value ∙ ap (λ v. v.items) c.deref.ensures ∙ chunk_at cs k c.index.result.now c.requires.chunk c.index.ensures in
    let low = c.in_ok-low.ensures ∙ ap (take cut) here in
    let high = c.in_ok-high.ensures ∙ between_to_end _ cut _ (omega arith) ∙ ap (drop cut) here in
    ap (λ ds. map chunk_items (slice_set ds k c.in_ok-low.low)) (c.in-Ok.ensures.items ∙ ap (λ n. insert cs n c.in_ok-high.high) (add-one k))
    ∙ chunks_parted cs k cut c.in_ok-low.low c.in_ok-high.high c.requires.chunk low high

pub returns-in-Ok-clause-totals : goal.returns-in-Ok-clause-totals
returns-in-Ok-clause-totals g c =
    let k = c.args.k in
    let cut = c.args.cut in
    let t = c.args.self.now in
    let cs = t.chunks.items in
    let xss = pieces t in
    let here = c.as_slice-items.ensures.value ∙ ap (λ v. v.items) c.deref.ensures ∙ chunk_at cs k c.index.result.now c.requires.chunk c.index.ensures in
    let low = c.in_ok-low.ensures ∙ ap (take cut) here in
    let high = c.in_ok-high.ensures ∙ between_to_end _ cut _ (omega arith) ∙ ap (drop cut) here in
    let now = ap (λ ds. map chunk_items (slice_set ds k c.in_ok-low.low)) (c.in-Ok.ensures.items ∙ ap (λ n. insert cs n c.in_ok-high.high) (add-one k))
    ∙ chunks_parted cs k cut c.in_ok-low.low c.in_ok-high.high c.requires.chunk low high in
    let count = total_count t c.requires.totals in
    let read = c.at.ensures in
    let end = ap (λ n. get_or t.totals n 0) (add-one k) ∙ ap (λ ts. get_or ts (suc k) 0) c.requires.totals in
    let middle : c.at.result - (length c.as_slice-items.result.now - cut) ≡ get_or (totals_from 0 (sizes xss)) k 0 + cut
    = omega (arith, read, end, total_at 0 xss k (omega (arith, c.requires.chunk)), total_at 0 xss (suc k) c.requires.chunk, front_more xss k c.requires.chunk, ap length here, c.requires.within) in
    c.in_ok-insert.ensures.ok ∙ (λ i. insert (c.requires.totals i) (add-one k i) (middle i))
    ∙ sym (totals_split xss k cut c.requires.chunk c.requires.within) ∙ ap (λ yss. totals_from 0 (sizes yss)) (sym now)
