use Rattle.std.proofs.Common.{◌-◌, ◌/◌, ◌%◌, ℕ, length, map, take, drop, arith, subst, sym, ap, ◌∙◌}
use Rattle.std.proofs.lemmas.List.{length-drop, take_all}
use Rattle.abc_chunks.specs.inner.Notes.{noted, HasNoneFrom}
use Rattle.abc_chunks.proofs.Notes.{put_end, settled, cleared_none}
use Rattle.abc_chunks.proofs.blocks.settle.Goals as goal

pub returns-clause-same : goal.returns-clause-same
returns-clause-same c =
    let ns = c.args.notes.now in
    let cs = c.args.counts.now in
    let b = c.args.from / 128 in
    let s = c.args.from - c.args.from % 128 in
    let notes = put_end (map (λ (n : ℕ). 0)) b ns c.clear.new.notes (omega (arith, c.requires.noted, c.requires.from)) c.clear.ensures in
    let counts = put_end (noted (drop b ns)) s cs c.add_notes.new.counts (omega (arith, c.requires.from)) (c.add_notes.ensures ∙ ap (λ l. noted l (take (length cs - s) (drop s cs))) (take_all (length ns - b) (drop b ns) (omega (arith, length-drop b ns)))) in
    (λ i. noted (notes i) (counts i)) ∙ settled s b ns cs (omega arith)

pub returns-clause-none : goal.returns-clause-none
returns-clause-none c = subst (HasNoneFrom (c.args.from / 128)) (sym (put_end (map (λ (n : ℕ). 0)) (c.args.from / 128) c.args.notes.now c.clear.new.notes (omega (arith, c.requires.noted, c.requires.from)) c.clear.ensures)) (cleared_none c.args.notes.now (c.args.from / 128))
