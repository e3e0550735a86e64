use Rattle.std.proofs.Common.{◌≡◌, ◌++◌, ◌∷◌, [], ◌<◌, ap, length, get_or, set, get_or-set_same, rules, arith}
use Rattle.abc_unify.specs.inner.Cycles.{Marked}
use Rattle.abc_unify.proofs.Walking.{marked_push, marked_pop, go_down, closed_cycle, lighter_pop, top_mark, top_inside, at_least_set}
use Rattle.abc_unify.proofs.cycle.visit.Goals as goal

pub loop-top-smaller-in-None : goal.loop-top-smaller-in-None
loop-top-smaller-in-None c =
    let m : Marked c.args.slots.now c.loop-top.marks (c.pop.new.self.items ++ c.in-Some.top ∷ []) c.loop-top.next = rw c.in-Some.ensures.items at c.loop-top.invariant.marked in
    rw c.set-in-None.ensures (lighter_pop _ _ _ _ _ _ m c.kind_of-kind.ensures)

pub loop-top-preserved-in-None : goal.loop-top-preserved-in-None
loop-top-preserved-in-None c =
    let m : Marked c.args.slots.now c.loop-top.marks (c.pop.new.self.items ++ c.in-Some.top ∷ []) c.loop-top.next = rw c.in-Some.ensures.items at c.loop-top.invariant.marked in
    let mark : get_or c.loop-top.marks c.in-Some.top 0 ≡ 1 = top_mark _ _ _ _ _ _ m c.kind_of-kind.ensures in
    let here : c.in-Some.top < length c.loop-top.marks = omega (arith, m.same_length, top_inside _ _ _ _ _ _ m c.kind_of-kind.ensures) in
    rw c.set-in-None.ensures (record {
      marked = marked_pop _ _ _ _ _ _ m c.kind_of-kind.ensures c.in-None.ensures.none;
      begun = at_least_set _ _ _ _ _ here c.loop-top.invariant.begun (λ e. omega (arith, m.from_two));
      kept = λ i two. at_least_set _ _ _ _ _ here (c.loop-top.invariant.kept i two) (λ e. m.from_two);
    })

pub loop-top-preserved : goal.loop-top-preserved
loop-top-preserved c =
    let m : Marked c.args.slots.now c.loop-top.marks (c.pop.new.self.items ++ c.in-Some.top ∷ []) c.loop-top.next = rw c.in-Some.ensures.items at c.loop-top.invariant.marked in
    let white : get_or c.loop-top.marks c.in-Some-next_below.child 0 ≡ 0 = omega (arith, c.in-Some-next_below.ensures.root.2) in
    let here : c.in-Some-next_below.child < length c.loop-top.marks = omega (arith, m.same_length, c.in-Some-next_below.ensures.root.0) in
    rw c.set-in-Some-next_below.ensures (record {
      marked = rw (c.in_ok-push-in-Some-next_below-2.ensures.items, c.in_ok-push-in-Some-next_below.ensures.items) (go_down _ _ _ _ _ _ m c.kind_of-kind.ensures _ c.in-Some-next_below.ensures.child c.in-Some-next_below.ensures.root.0 c.in-Some-next_below.ensures.root.1 white);
      begun = at_least_set _ _ _ _ _ here c.loop-top.invariant.begun (λ e. omega arith);
      kept = λ i two. at_least_set _ _ _ _ _ here (c.loop-top.invariant.kept i two) (λ e. let s : get_or c.loop-top.marks i 0 ≡ get_or c.loop-top.marks c.in-Some-next_below.child 0 = ap (λ j. get_or c.loop-top.marks j 0) e in omega (arith, c.loop-top.invariant.kept i two));
    })

pub loop-top-init : goal.loop-top-init
loop-top-init c =
    let here : c.args.start < length c.args.marks.now = omega (arith, c.requires.marks.same_length) in
    let items : c.push.new.self.items ≡ c.args.start ∷ [] = search rules in
    rw c.set.ensures (record {
      marked = rw items (marked_push c.args.slots.now c.args.marks.now [] c.args.first c.args.start c.requires.marks c.requires.start c.requires.root c.requires.fresh (λ v meets k d h. absurd (omega arith)));
      begun = let s : get_or (set c.args.marks.now c.args.start 1) c.args.start 0 ≡ 1 = get_or-set_same c.args.marks.now c.args.start 1 0 here in omega arith;
      kept = λ i two. at_least_set _ _ _ _ _ here two (λ e. let s : get_or c.args.marks.now i 0 ≡ get_or c.args.marks.now c.args.start 0 = ap (λ j. get_or c.args.marks.now j 0) e in absurd (omega (arith, two, c.requires.fresh)));
    })

pub returns-then-get-eq-OPEN : goal.returns-then-get-eq-OPEN
returns-then-get-eq-OPEN c =
    let m : Marked c.args.slots.now c.loop-top.marks (c.pop.new.self.items ++ c.in-Some.top ∷ []) c.loop-top.next = rw c.in-Some.ensures.items at c.loop-top.invariant.marked in
    let mark : get_or c.loop-top.marks c.in-Some-next_below.child 0 ≡ 1 = omega (arith, c.get.ensures, c.if-get-eq-OPEN.true) in
    closed_cycle _ _ _ _ _ _ m c.kind_of-kind.ensures _ c.in-Some-next_below.ensures.child mark
