use Rattle.std.proofs.Common.{◌≡◌, ◌+◌, length, get_or, sym, ap, ◌∙◌, arith}
use Rattle.abc_chunks.specs.Towers.{joined, pieces}
use Rattle.abc_chunks.specs.inner.Spots.{in_front}
use Rattle.abc_chunks.proofs.Joined.{get_joined}
use Rattle.abc_chunks.proofs.Shifts.{sizes_within}
use Rattle.abc_chunks.proofs.Written.{chunk_at}
use Rattle.abc_chunks.proofs.tower.Tower.first_of.Goals as goal

pub bounds-items-0 : goal.bounds-items-0
bounds-items-0 g c =
    let t = c.args.self.now in
    let here = c.as_slice-items.ensures.value ∙ ap (λ v. v.items) c.deref.ensures ∙ chunk_at t.chunks.items c.args.k c.index.result.now c.requires.chunk c.index.ensures in
    omega (arith, ap length here, (sizes_within (pieces t) c.args.k c.requires.chunk c.requires.sound.1).0)

pub returns : goal.returns
returns g c =
    let t = c.args.self.now in
    let xss = pieces t in
    let k = c.args.k in
    let y = c.index-items-0.result in
    let here = c.as_slice-items.ensures.value ∙ ap (λ v. v.items) c.deref.ensures ∙ chunk_at t.chunks.items k c.index.result.now c.requires.chunk c.index.ensures in
    let some = (sizes_within xss k c.requires.chunk c.requires.sound.1).0 in
    let none : in_front xss k + 0 ≡ in_front xss k = omega arith in
    c.index-items-0.is ∙ ap (λ ys. get_or ys 0 y) here ∙ sym (get_joined xss k 0 y c.requires.chunk (omega (arith, some))) ∙ ap (λ n. get_or (joined xss) n y) none
