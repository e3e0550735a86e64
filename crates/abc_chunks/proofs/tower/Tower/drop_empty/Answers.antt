use Rattle.std.proofs.Common.{◌≡◌, ◌+◌, length, map, sym, ap, ◌∙◌, arith, add-one}
use Rattle.std.specs.List.{remove}
use Rattle.std.proofs.lemmas.Bool.Decides.{nat_tests}
use Rattle.abc_chunks.specs.Towers.{chunk_items, pieces, sizes, totals_from}
use Rattle.abc_chunks.specs.inner.Spots.{piece_at}
use Rattle.abc_chunks.proofs.Counts.{total_count}
use Rattle.abc_chunks.proofs.Shifts.{totals_gone}
use Rattle.abc_chunks.proofs.Written.{chunk_at, chunks_without, goes_empty, no_length}
use Rattle.abc_chunks.proofs.tower.Tower.drop_empty.Goals as goal

pub remove-requires-then-is_empty : goal.remove-requires-then-is_empty
remove-requires-then-is_empty g c = omega (arith, total_count c.args.self.now c.requires.totals, c.requires.chunk)

pub returns-then-is_empty-clause-pieces : goal.returns-then-is_empty-clause-pieces
returns-then-is_empty-clause-pieces g c =
    let cs = c.args.self.now.chunks.items in
    let none : length c.deref.result.now.items ≡ 0 = (let t = c.is_empty.ensures in grind (arith, nat_tests)) in
    let was = chunk_at cs c.args.k c.index.result.now c.requires.chunk c.index.ensures in
    let empty = sym (ap length was) ∙ sym (ap (λ v. length v.items) c.deref.ensures) ∙ none in
    ap (map chunk_items) c.remove.ensures.items ∙ goes_empty cs c.args.k empty

pub returns-then-is_empty-clause-totals : goal.returns-then-is_empty-clause-totals
returns-then-is_empty-clause-totals g c =
    let cs = c.args.self.now.chunks.items in
    let xss = pieces c.args.self.now in
    let none : length c.deref.result.now.items ≡ 0 = (let t = c.is_empty.ensures in grind (arith, nat_tests)) in
    let was = chunk_at cs c.args.k c.index.result.now c.requires.chunk c.index.ensures in
    let empty = sym (ap length was) ∙ sym (ap (λ v. length v.items) c.deref.ensures) ∙ none in
    let now = ap (map chunk_items) c.remove.ensures.items ∙ chunks_without cs c.args.k in
    c.remove-then-is_empty.ensures ∙ ap (λ ts. remove ts (c.args.k + 1)) c.requires.totals
    ∙ ap (remove (totals_from 0 (sizes xss))) (add-one c.args.k) ∙ sym (totals_gone xss c.args.k c.requires.chunk (no_length (piece_at xss c.args.k) empty))
    ∙ ap (λ yss. totals_from 0 (sizes yss)) (sym now)
