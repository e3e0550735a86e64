use Rattle.std.proofs.Common.{length, ap, ◌∙◌, arith}
use Rattle.std.specs.List.{remove}
use Rattle.abc_chunks.specs.inner.Notes.{noted}
use Rattle.abc_chunks.proofs.Notes.{put_back_all, noted_taken}
use Rattle.abc_chunks.proofs.blocks.take_out.Goals as goal

pub returns-clause-gone : goal.returns-clause-gone
returns-clause-gone c =
    let place = c.args.place in
    let counts = c.args.counts.now in
    let notes = c.args.notes.now in
    let s = c.settle.ensures in
    let back_notes = put_back_all notes.len notes.items c.settle.new.notes notes.ok.0 (s.long_notes ∙ ap length c.as_mut_slice-2.ensures.value) in
    let back_counts = put_back_all counts.len counts.items c.settle.new.counts counts.ok.0 (s.long ∙ ap length c.as_mut_slice.ensures.value) in
    let same = s.same ∙ (λ i. noted (c.as_mut_slice-2.ensures.value i) (c.as_mut_slice.ensures.value i)) in
    (λ i. noted (back_notes i) (c.remove.ensures.items i)) ∙ ap (λ cs. noted c.settle.new.notes (remove cs place)) back_counts
    ∙ noted_taken place c.settle.new.notes notes.items c.settle.new.counts counts.items s.none (omega (arith, c.requires.place, s.long, ap length c.as_mut_slice.ensures.value)) same
