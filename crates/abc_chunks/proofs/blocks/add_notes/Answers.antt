use Rattle.std.proofs.Common.{◌≡◌, ◌<◌, ◌+◌, ◌++◌, length, get_or, take, drop, slice_set, sym, ap, ◌∙◌, arith, add-one}
use Rattle.std.proofs.lemmas.List.{take_all, drop_all, append-nil}
use Rattle.abc_chunks.specs.inner.Notes.{plus, noted, note_of}
use Rattle.abc_chunks.proofs.Notes.{length_noted, noted_at, not_yet, set_next}
use Rattle.abc_chunks.proofs.blocks.add_notes.Goals as goal

pub loop-i-preserved : goal.loop-i-preserved
loop-i-preserved c =
    let ns = c.args.notes.now in
    let cs = c.args.counts.now in
    let i = c.loop-i.i in
    let all = noted ns cs in
    let long = length_noted 0 ns cs in
    let here : i < length cs = omega (arith, c.loop-i-test.true) in
    let count = ap (λ ys. get_or ys i 0) c.loop-i.invariant ∙ not_yet i all cs 0 long in
    let first : 0 + i ≡ i = omega arith in
    let now = ap (plus (note_of ns i)) count ∙ ap (λ k. plus (note_of ns k) (get_or cs i 0)) (sym first) ∙ sym (noted_at 0 ns cs i here) in
    ap (λ ys. slice_set ys i (plus (note_of ns i) (get_or c.loop-i.counts i 0))) c.loop-i.invariant
    ∙ set_next i all cs (plus (note_of ns i) (get_or c.loop-i.counts i 0)) long (omega (arith, long, here)) now
    ∙ (λ j. take (sym (add-one i) j) all ++ drop (sym (add-one i) j) cs)

pub returns : goal.returns
returns c =
    let ns = c.args.notes.now in
    let cs = c.args.counts.now in
    let i = c.loop-i.i in
    let all = noted ns cs in
    c.loop-i.invariant ∙ (λ j. take_all i all (omega (arith, length_noted 0 ns cs, c.loop-i-test.false)) j ++ drop_all i cs (omega (arith, c.loop-i-test.false)) j) ∙ append-nil all
