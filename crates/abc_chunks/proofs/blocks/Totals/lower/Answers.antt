use Rattle.std.proofs.Common.{◌≤◌, length, drop, sym, ap, subst, ◌∙◌, arith}
use Rattle.std.specs.List.{All}
use Rattle.abc_chunks.specs.inner.Notes.{noted, shifted}
use Rattle.abc_chunks.specs.inner.Spots.{lowered}
use Rattle.abc_chunks.proofs.Notes.{length_noted, put_back_all, shifted_lowered}
use Rattle.abc_chunks.proofs.blocks.Totals.lower.Goals as goal

pub shift-requires-clause-from : goal.shift-requires-clause-from
shift-requires-clause-from c = let t = c.self.inside in omega (arith, c.requires.from, ap length c.deref_mut.ensures.value, length_noted 0 t.notes.items t.counts.items, ap length c.self.view_is)

pub returns : goal.returns
returns c =
    let from = c.args.from in
    let counts = c.self.inside.counts in
    let notes = c.self.inside.notes in
    let back_counts = put_back_all counts.len counts.items c.shift.new.counts counts.ok.0 (c.shift.ensures.long ∙ ap length c.deref_mut.ensures.value) in
    let back_notes = put_back_all notes.len notes.items c.shift.new.notes notes.ok.0 (c.shift.ensures.long_notes ∙ ap length c.deref_mut-2.ensures.value) in
    (λ i. noted (back_notes i) (back_counts i)) ∙ c.shift.ensures.shifted ∙ (λ i. shifted 18446744073709551615 from (noted (c.deref_mut-2.ensures.value i) (c.deref_mut.ensures.value i)))
    ∙ shifted_lowered from notes.items counts.items (subst (λ ts. All (λ n. 1 ≤ n) (drop from ts)) (sym c.self.view_is) c.requires.some) ∙ ap (lowered from) c.self.view_is
