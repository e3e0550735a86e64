use Rattle.std.proofs.Common.{◌≡◌, ◌∙◌, length, take, drop, get_or, ap, sym, subst, refl, rules}
use Rattle.abc_unify.specs.declared.state.Point.{Point}
use Rattle.abc_unify.specs.inner.Logs.{rolled}
use Rattle.abc_unify.specs.inner.States.{IsPast}
use Rattle.abc_unify.proofs.Solved.{whole}
use Rattle.abc_unify.proofs.Noting.{noted_back}
use Rattle.abc_unify.proofs.Undoing.{kept_back, seen_back}
use Rattle.abc_unify.proofs.state.State.go_back.Goals as goal

pub returns-clause-kept : goal.returns-clause-kept
returns-clause-kept c =
    let s = c.args.self.now in
    let p : Point = c.index-point.result.now in
    let is : p ≡ get_or s.history.items c.args.to p = c.index-point.ensures in
    let past : IsPast s.slots.items s.log.items s.demands.items p = subst (λ q. IsPast s.slots.items s.log.items s.demands.items q) (sym is) (c.requires.kept.kept.past c.args.to p c.requires.to) in
    let old : c.as_mut_slice.result.now ≡ s.slots.items = search rules in
    let len : length c.roll_back.new.slots ≡ s.slots.len = search rules in
    let rolled_back : c.roll_back.new.slots ≡ rolled s.slots.items (drop p.writes s.log.items) = c.roll_back.ensures.slots ∙ ap (λ t. rolled t (drop p.writes s.log.items)) old in
    let slots : c.truncate.new.self.items ≡ take p.variables (rolled s.slots.items (drop p.writes s.log.items)) = c.truncate.ensures.items ∙ ap (take p.variables) (whole s.slots.len c.roll_back.new.slots _ len ∙ rolled_back) in
    record {
      kept = rw (slots, c.roll_back.ensures.log, c.truncate-2.ensures.items, c.truncate-3.ensures.items)
          (kept_back s.slots.items s.log.items s.demands.items s.history.items c.requires.kept.kept p past c.args.to c.requires.to is);
      noted = rw (slots, c.roll_back.ensures.log, c.truncate-4.ensures.items)
          (noted_back s.slots.items s.log.items s.named.items p.variables p.writes past.few_variables c.requires.kept.noted past.solved.inside past.entries);
    }

pub returns-clause-back : goal.returns-clause-back
returns-clause-back c =
    let s = c.args.self.now in
    let p : Point = c.index-point.result.now in
    let is : p ≡ get_or s.history.items c.args.to p = c.index-point.ensures in
    let old : c.as_mut_slice.result.now ≡ s.slots.items = search rules in
    let len : length c.roll_back.new.slots ≡ s.slots.len = search rules in
    let rolled_back : c.roll_back.new.slots ≡ rolled s.slots.items (drop p.writes s.log.items) = c.roll_back.ensures.slots ∙ ap (λ t. rolled t (drop p.writes s.log.items)) old in
    let slots : c.truncate.new.self.items ≡ take p.variables (rolled s.slots.items (drop p.writes s.log.items)) = c.truncate.ensures.items ∙ ap (take p.variables) (whole s.slots.len c.roll_back.new.slots _ len ∙ rolled_back) in
    rw (slots, c.truncate-2.ensures.items, c.truncate-3.ensures.items)
    (seen_back s.slots.items s.log.items s.demands.items s.history.items c.args.to p c.requires.kept.kept c.requires.to is _ refl)
