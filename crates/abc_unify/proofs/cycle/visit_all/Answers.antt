use Rattle.std.proofs.Common.{◌≡◌, ◌∙◌, ℕ, ◌≤◌, [], get_or, ap, sym, subst, inl, inr, arith}
use Rattle.std.proofs.lemmas.Bool.{cases_lt}
use Rattle.std.proofs.lemmas.List.{get_or_read}
use Rattle.abc_unify.specs.inner.Slots.{root_of}
use Rattle.abc_unify.specs.inner.Cycles.{Marked, IsPassed, IsTurn}
use Rattle.abc_unify.proofs.Ranking.{still_passed}
use Rattle.abc_unify.proofs.cycle.visit_all.Goals as goal

pub loop-i-preserved : goal.loop-i-preserved
loop-i-preserved c =
    let visited : Marked c.args.slots.now c.visit_from.new.marks [] c.in-Done.number × IsPassed c.args.named.now c.visit_from.new.marks c.index-start.result × ((i : ℕ) → 2 ≤ get_or c.loop-i.marks i 0 → 2 ≤ get_or c.visit_from.new.marks i 0) =
    subst (λ walk. IsTurn c.args.slots.now c.args.named.now c.loop-i.marks c.visit_from.new.marks c.index-start.result walk) c.in-Done.is c.in_ok-top.ensures in
    let start : c.index-start.result ≡ root_of c.args.slots.now (get_or c.args.written.now c.loop-i.i c.index-written-i.result).at.0 = c.index-start.ensures ∙ c.find.ensures.class in
    let here : IsPassed c.args.named.now c.visit_from.new.marks (root_of c.args.slots.now (get_or c.args.written.now c.loop-i.i c.index-written-i.result).at.0) = subst (λ r. IsPassed c.args.named.now c.visit_from.new.marks r) start visited.1 in
    record {
      marked = visited.0;
      found = λ k d h. elim (cases_lt k c.loop-i.i) [
        | inl early ↦ still_passed c.args.named.now c.loop-i.marks c.visit_from.new.marks (root_of c.args.slots.now (get_or c.args.written.now k d).at.0) visited.2 (c.loop-i.invariant.found k d early)
        | inr late ↦
            let last : c.loop-i.i ≡ k = omega arith in
            let read : get_or c.args.written.now c.loop-i.i c.index-written-i.result ≡ get_or c.args.written.now k d =
            sym c.index-written-i.is ∙ (get_or_read c.args.written.now c.loop-i.i c.index-written-i.result c.loop-i-test.true c.index-written-i.is d ∙ ap (λ j. get_or c.args.written.now j d) last) in
            subst (λ e. IsPassed c.args.named.now c.visit_from.new.marks (root_of c.args.slots.now e.at.0)) read here
      ];
    }

pub returns-clause-none : goal.returns-clause-none
returns-clause-none c = record {
  marks = c.loop-i.marks;
  next = c.loop-i.next;
  marked = c.loop-i.invariant.marked;
  found = λ k d h. c.loop-i.invariant.found k d (omega (arith, h));
}
