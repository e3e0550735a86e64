use Rattle.std.proofs.Common.{◌<◌, ◌++◌, ℕ, length, map, take, drop, slice_set, sym, ap, ◌∙◌, arith, add-one}
use Rattle.std.proofs.lemmas.List.{take_all, drop_all, append-nil}
use Rattle.abc_chunks.proofs.Notes.{long_none, none_at, set_next}
use Rattle.abc_chunks.proofs.blocks.clear.Goals as goal

pub loop-i-preserved : goal.loop-i-preserved
loop-i-preserved c =
    let ns = c.args.notes.now in
    let i = c.loop-i.i in
    let all = map {B = ℕ} (λ n. 0) ns in
    let long = long_none ns in
    let here : i < length ns = omega (arith, c.loop-i-test.true) in
    ap (λ ys. slice_set ys i 0) c.loop-i.invariant
    ∙ set_next i all ns 0 long (omega (arith, long, here)) (sym (none_at ns i))
    ∙ (λ j. take (sym (add-one i) j) all ++ drop (sym (add-one i) j) ns)

pub returns : goal.returns
returns c =
    let ns = c.args.notes.now in
    let i = c.loop-i.i in
    let all = map {B = ℕ} (λ n. 0) ns in
    c.loop-i.invariant ∙ (λ j. take_all i all (omega (arith, long_none ns, c.loop-i-test.false)) j ++ drop_all i ns (omega (arith, c.loop-i-test.false)) j) ∙ append-nil all
