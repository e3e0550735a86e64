use Rattle.std.proofs.Common.{arith, ◌≡◌, inl, inr, subst, sym}
use Rattle.std.proofs.lemmas.Bool.{cases_eq}
use Rattle.abc_groups.specs.inner.Search.{mark}
use Rattle.abc_groups.proofs.Classing.{begin_classes, begin_idle, done_at}
use Rattle.abc_groups.proofs.search.all_groups.Goals as goal
use Rattle.abc_groups.proofs.search.all_groups.Goals.{then-marks-root-eq0+in_ok-visit, else-marks-root-eq0}

pub loop-root-init : goal.loop-root-init
loop-root-init c = record {
  idle = rw c.requires.marks (begin_idle c.args.there.now c.args.graph.now c.requires.same c.requires.away);
  classes = rw (c.requires.marks, c.new-groups.ensures.items) (begin_classes c.args.there.now c.args.graph.now);
  done = λ x h. absurd (omega arith);
}

pub loop-root-preserved : goal.loop-root-preserved
loop-root-preserved c =
    elim c.if-marks-root-eq0.branch [
      | then-marks-root-eq0+in_ok-visit w ↦ rw (w.marks-is, w.groups-is) (record {
        idle = w.in_ok-visit.ensures.idle;
        classes = w.in_ok-visit.ensures.classes;
        done = λ x h. elim (cases_eq x c.loop-root.root) [
          | inl e ↦ subst (λ y. mark w.visit.new.marks y ≡ 1) (sym e) w.in_ok-visit.ensures.root
          | inr ne ↦ w.in_ok-visit.ensures.kept x (c.loop-root.invariant.done x (omega arith))
        ];
      })
      | else-marks-root-eq0 w ↦ rw (w.marks-is, w.groups-is) (record {
        idle = c.loop-root.invariant.idle;
        classes = c.loop-root.invariant.classes;
        done = λ x h. elim (cases_eq x c.loop-root.root) [
          | inl e ↦ subst (λ y. mark c.loop-root.marks y ≡ 1) (sym e) (done_at _ _ _ _ c.loop-root.invariant.idle w.if-marks-root-eq0.false)
          | inr ne ↦ c.loop-root.invariant.done x (omega arith)
        ];
      })
    ]

pub returns : goal.returns
returns c = record {
  exact = c.loop-root.invariant.classes.exact;
  some = c.loop-root.invariant.classes.some;
  found = λ x h here. c.loop-root.invariant.classes.found x (c.loop-root.invariant.done x (omega (arith, h))) here;
  present = c.loop-root.invariant.classes.present;
  once = c.loop-root.invariant.classes.once;
  order = c.loop-root.invariant.classes.order;
}
