use Rattle.std.proofs.Common.{length, ap, ◌∙◌, arith}
use Rattle.std.specs.List.{insert}
use Rattle.abc_chunks.specs.inner.Notes.{noted}
use Rattle.abc_chunks.proofs.Notes.{put_back_all, noted_put}
use Rattle.abc_chunks.proofs.blocks.put_in.Goals as goal

pub returns-clause-ok : goal.returns-clause-ok
returns-clause-ok c =
    let place = c.args.place in
    let counts = c.args.counts.now in
    let notes = c.make_note.new.notes in
    let s = c.settle.ensures in
    let back_notes = put_back_all notes.len notes.items c.settle.new.notes notes.ok.0 (s.long_notes ∙ ap length c.as_mut_slice-2.ensures.value) in
    let back_counts = put_back_all counts.len counts.items c.settle.new.counts counts.ok.0 (s.long ∙ ap length c.as_mut_slice.ensures.value) in
    let same = s.same ∙ (λ i. noted (c.as_mut_slice-2.ensures.value i) (c.as_mut_slice.ensures.value i)) ∙ c.make_note.ensures.same counts.items in
    (λ i. noted (back_notes i) (c.in_ok-insert.ensures.items i)) ∙ ap (λ cs. noted c.settle.new.notes (insert cs place c.args.n)) back_counts
    ∙ noted_put place c.args.n c.settle.new.notes c.args.notes.now.items c.settle.new.counts counts.items s.none (omega (arith, c.ranges.n.fits)) (omega (arith, c.requires.place, s.long, ap length c.as_mut_slice.ensures.value)) same
