use Rattle.std.proofs.Common.{◌≡◌, ◌<◌, ◌+◌, ◌/◌, length, get_or, sym, ap, ◌∙◌, arith}
use Rattle.std.proofs.lemmas.List.{get_or_read}
use Rattle.abc_chunks.specs.inner.Notes.{plus, note_of}
use Rattle.abc_chunks.proofs.Notes.{length_noted, noted_at}
use Rattle.abc_chunks.proofs.blocks.Totals.at.Goals as goal

pub index-requires : goal.index-requires
index-requires c = let t = c.self.inside in omega (arith, c.requires, t.counts.ok.0, length_noted 0 t.notes.items t.counts.items, ap length c.self.view_is)

pub index-requires-2 : goal.index-requires-2
index-requires-2 c = let t = c.self.inside in omega (arith, c.requires, c.self.invariant, t.notes.ok.0, length_noted 0 t.notes.items t.counts.items, ap length c.self.view_is)

pub returns : goal.returns
returns c =
    let place = c.args.place in
    let ns = c.self.inside.notes.items in
    let cs = c.self.inside.counts.items in
    let here : place < length cs = omega (arith, c.requires, length_noted 0 ns cs, ap length c.self.view_is) in
    let count = get_or_read cs place c.index.result.now here c.index.ensures 0 in
    let note = get_or_read ns (place / 128) c.index-2.result.now (omega (arith, here, c.self.invariant)) c.index-2.ensures 0 in
    let first : place ≡ 0 + place = omega arith in
    (λ i. plus (note i) (count i)) ∙ ap (λ k. plus (note_of ns k) (get_or cs place 0)) first ∙ sym (noted_at 0 ns cs place here) ∙ ap (λ ts. get_or ts place 0) c.self.view_is
