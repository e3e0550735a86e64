use Rattle.std.proofs.Common.{◌≡◌, ◌≤◌, ◌+◌, ◌-◌, suc, true, false, length, get_or, sym, ap, subst, ◌∙◌, arith, add-one}
use Rattle.std.specs.List.Sorted.{IsPartitionedBy, IsPartitionPoint}
use Rattle.abc_chunks.specs.Towers.{joined, pieces}
use Rattle.abc_chunks.specs.inner.Spots.{in_front, piece_at}
use Rattle.abc_chunks.proofs.Counts.{total_count}
use Rattle.abc_chunks.proofs.Searching.{piece_parted, place_within, place_joined}
use Rattle.abc_chunks.proofs.Totals.{total_at, front_more}
use Rattle.abc_chunks.proofs.Written.{chunk_at}
use Rattle.abc_chunks.proofs.tower.Tower.place_of.Goals as goal

pub place_in-place-requires : goal.place_in-place-requires
place_in-place-requires g c =
    let t = c.args.self.now in
    let k = c.chunk_for-k.result in
    let at = c.chunk_for-k.ensures.within in
    let here = c.as_slice-items.ensures.value ∙ ap (λ v. v.items) c.deref.ensures ∙ chunk_at t.chunks.items k c.index.result.now at c.index.ensures in
    subst (IsPartitionedBy (g.S.Seek.passes c.args.sought.now)) (sym here) (piece_parted (g.S.Seek.passes c.args.sought.now) (pieces t) k at c.requires.parted)

pub at-requires : goal.at-requires
at-requires g c = omega (arith, total_count c.args.self.now c.requires.sound.0, c.chunk_for-k.ensures.within)

pub overflow_sub-result-2 : goal.overflow_sub-result-2
overflow_sub-result-2 g c =
    let t = c.args.self.now in
    let xss = pieces t in
    let k = c.chunk_for-k.result in
    let at = c.chunk_for-k.ensures.within in
    let here = c.as_slice-items.ensures.value ∙ ap (λ v. v.items) c.deref.ensures ∙ chunk_at t.chunks.items k c.index.result.now at c.index.ensures in
    let read = c.at.ensures in
    let end = ap (λ n. get_or t.totals n 0) (add-one k) ∙ ap (λ ts. get_or ts (suc k) 0) c.requires.sound.0 in
    omega (arith, read, end, total_at 0 xss (suc k) at, front_more xss k at, ap length here)

pub returns-clause-within : goal.returns-clause-within
returns-clause-within g c =
    let t = c.args.self.now in
    let xss = pieces t in
    let k = c.chunk_for-k.result in
    let n = c.place_in-place.result in
    let at = c.chunk_for-k.ensures.within in
    let here = c.as_slice-items.ensures.value ∙ ap (λ v. v.items) c.deref.ensures ∙ chunk_at t.chunks.items k c.index.result.now at c.index.ensures in
    let read = c.at.ensures in
    let end = ap (λ n. get_or t.totals n 0) (add-one k) ∙ ap (λ ts. get_or ts (suc k) 0) c.requires.sound.0 in
    let inside : n ≤ length (piece_at xss k) = omega (arith, c.place_in-place.ensures.within, ap length here) in
    omega (arith, read, end, total_at 0 xss (suc k) at, front_more xss k at, ap length here, inside, place_within (g.S.Seek.passes c.args.sought.now) xss k n at inside)

pub returns-clause-place : goal.returns-clause-place
returns-clause-place g c =
    let t = c.args.self.now in
    let xss = pieces t in
    let k = c.chunk_for-k.result in
    let n = c.place_in-place.result in
    let p = g.S.Seek.passes c.args.sought.now in
    let at = c.chunk_for-k.ensures.within in
    let here = c.as_slice-items.ensures.value ∙ ap (λ v. v.items) c.deref.ensures ∙ chunk_at t.chunks.items k c.index.result.now at c.index.ensures in
    let read = c.at.ensures in
    let end = ap (λ n. get_or t.totals n 0) (add-one k) ∙ ap (λ ts. get_or ts (suc k) 0) c.requires.sound.0 in
    let inside : n ≤ length (piece_at xss k) = omega (arith, c.place_in-place.ensures.within, ap length here) in
    let spot : c.at.result - (length c.as_slice-items.result.now - n) ≡ in_front xss k + n = omega (arith, read, end, total_at 0 xss (suc k) at, front_more xss k at, ap length here, inside) in
    subst (IsPartitionPoint (λ x. p x ≡ true) (λ x. p x ≡ false) (joined xss)) (sym spot)
    (place_joined p xss k n c.chunk_for-k.ensures inside (subst (λ ys. IsPartitionPoint (λ x. p x ≡ true) (λ x. p x ≡ false) ys n) here c.place_in-place.ensures.place))
