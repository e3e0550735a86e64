use Rattle.std.proofs.Common.{◌≡◌, ◌∙◌, ◌++◌, ◌∷◌, [], length, ap, rules}
use Rattle.abc_unify.specs.inner.Slots.{KeepsSolutions, HasNoSolution}
use Rattle.abc_unify.specs.inner.Logs.{IsLogged}
use Rattle.abc_unify.proofs.Solved.{whole, solved_with, clash_with}
use Rattle.abc_unify.proofs.Noting.{noted_as}
use Rattle.abc_unify.proofs.Undoing.{kept_demands, seen_demands}
use Rattle.abc_unify.proofs.state.State.add.Goals as goal

pub returns-in-Solved-clause-kept : goal.returns-in-Solved-clause-kept
returns-in-Solved-clause-kept c =
    let s = c.args.self.now in
    let old : c.as_mut_slice.result.now ≡ s.slots.items = search rules in
    let count : length c.take_in.new.slots ≡ length s.slots.items = search rules in
    let len : length c.take_in.new.slots ≡ s.slots.len = search rules in
    let demands : c.push.new.self.items ≡ s.demands.items ++ c.args.demand ∷ [] = search rules in
    let history : c.push-in-Solved.new.self.items ≡ s.history.items ++ c.point-point.result ∷ [] = search rules in
    let kept : KeepsSolutions c.as_mut_slice.result.now (c.args.constraint ∷ []) c.take_in.new.slots [] = rw c.in-Solved.is at c.in_ok-take_in.ensures.solutions in
    let keeps : KeepsSolutions s.slots.items (c.args.constraint ∷ []) c.take_in.new.slots [] = rw old at kept in
    let logged : IsLogged c.as_mut_slice.result.now s.log.items c.take_in.new.slots c.take_in.new.log.items = c.in_ok-take_in.ensures.logged c.in-Solved.is in
    let logs : IsLogged s.slots.items s.log.items c.take_in.new.slots c.take_in.new.log.items = rw old at logged in
    let len2 : length c.take_in.new.named ≡ s.named.len = search rules in
    record {
      kept = kept_demands s.slots.items s.log.items s.demands.items s.history.items c.requires.kept.kept c.point-point.result c.point-point.ensures (c.args.demand ∷ []) c.take_in.new.slots _ c.take_in.new.log.items c.push.new.self.items c.push-in-Solved.new.self.items logs (whole s.slots.len c.take_in.new.slots _ len) demands history
          (solved_with s.slots.items c.take_in.new.slots s.demands.items c.args.demand c.args.constraint c.requires.kept.kept.solved c.requires.made count c.requires.same (c.in_ok-take_in.ensures.slots c.in-Solved.is) keeps (c.in_ok-take_in.ensures.ranked c.in-Solved.is));
      noted = noted_as c.take_in.new.slots _ c.take_in.new.log.items c.take_in.new.named _ (whole s.slots.len c.take_in.new.slots _ len) (whole s.named.len c.take_in.new.named _ len2) c.take_in.ensures.noted;
    }

pub returns-in-Solved-clause-ok : goal.returns-in-Solved-clause-ok
returns-in-Solved-clause-ok c =
    let s = c.args.self.now in
    let count : length c.take_in.new.slots ≡ length s.slots.items = search rules in
    let len : length c.take_in.new.slots ≡ s.slots.len = search rules in
    let demands : c.push.new.self.items ≡ s.demands.items ++ c.args.demand ∷ [] = search rules in
    let history : c.push-in-Solved.new.self.items ≡ s.history.items ++ c.point-point.result ∷ [] = search rules in
    seen_demands s.slots.items s.log.items s.demands.items s.history.items c.requires.kept.kept c.point-point.result c.point-point.ensures (c.args.demand ∷ []) _ c.push.new.self.items c.push-in-Solved.new.self.items (ap length (whole s.slots.len c.take_in.new.slots _ len) ∙ count) demands history

pub returns-in-Clash-clause-clash : goal.returns-in-Clash-clause-clash
returns-in-Clash-clause-clash c e =
    let s = c.args.self.now in
    let old : c.as_mut_slice.result.now ≡ s.slots.items = search rules in
    let never : HasNoSolution c.as_mut_slice.result.now (c.args.constraint ∷ []) = rw c.in-Clash.is at c.in_ok-take_in.ensures.solutions in
    let none : HasNoSolution s.slots.items (c.args.constraint ∷ []) = rw old at never in
    clash_with s.slots.items s.demands.items c.args.demand c.args.constraint c.requires.kept.kept.solved c.requires.same none
