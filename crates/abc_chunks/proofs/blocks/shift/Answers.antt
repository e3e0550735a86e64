use Rattle.std.proofs.Common.{◌+◌, ◌-◌, ◌/◌, ◌%◌, ◌++◌, map, take, drop, arith, ◌∙◌}
use Rattle.abc_chunks.specs.inner.Notes.{plus, noted}
use Rattle.abc_chunks.proofs.Notes.{shifted_noted, put_end}
use Rattle.abc_chunks.proofs.blocks.shift.Goals as goal

pub returns-clause-shifted : goal.returns-clause-shifted
returns-clause-shifted c =
    let ns = c.args.notes.now in
    let cs = c.args.counts.now in
    let d = c.args.by in
    let h = 128 - c.args.from % 128 in
    let notes = put_end (map (plus d)) (c.args.from / 128 + 1) ns c.add_to_all.new.counts (omega (arith, c.requires.noted, c.requires.from)) c.add_to_all.ensures in
    let counts = put_end (λ l. map (plus d) (take h l) ++ drop h l) c.args.from cs c.add_to_some.new.counts (omega (arith, c.requires.from)) c.add_to_some.ensures in
    (λ i. noted (notes i) (counts i)) ∙ shifted_noted d c.args.from ns cs c.requires.noted
