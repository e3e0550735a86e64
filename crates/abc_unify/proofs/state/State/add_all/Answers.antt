use Rattle.std.proofs.Common.{◌≡◌, ◌∙◌, ◌↔◌, ℕ, ◌++◌, ◌∷◌, [], length, ap, sym, subst, rules}
use Rattle.std.specs.List.{All}
use Rattle.abc_num.specs.declared.types.Ground.{Ground}
use Rattle.abc_terms.specs.Demands.{MeetsAll}
use Rattle.abc_terms.specs.Nodes.{DemandIn}
use Rattle.abc_unify.specs.inner.Kinds.{ConstraintsHold, ConstraintsIn}
use Rattle.abc_unify.specs.inner.Slots.{KeepsSolutions, HasNoSolution}
use Rattle.abc_unify.specs.inner.Logs.{IsLogged}
use Rattle.abc_unify.proofs.Solved.{whole, solved_with_all, clash_with_all}
use Rattle.abc_unify.proofs.Noting.{noted_as}
use Rattle.abc_unify.proofs.Undoing.{kept_demands, seen_demands}
use Rattle.abc_unify.proofs.state.State.add_all.Goals as goal

pub take_all-requires-clause-work : goal.take_all-requires-clause-work
take_all-requires-clause-work c =
    let s = c.args.self.now in
    let given : c.as_slice.result.now ≡ c.args.demands.items = c.as_slice.ensures.value in
    let made : All (DemandIn (length s.slots.items)) c.as_slice.result.now = subst (λ ds. All (DemandIn (length s.slots.items)) ds) (sym given) c.requires.made in
    let old : c.as_mut_slice.result.now ≡ s.slots.items = search rules in
    subst (λ xs. ConstraintsIn (length xs) c.in_ok-work.work.items) (sym old) (c.in_ok-work.ensures.inside (length s.slots.items) made)

pub returns-in-Ok-Solved-clause-kept : goal.returns-in-Ok-Solved-clause-kept
returns-in-Ok-Solved-clause-kept c =
    let s = c.args.self.now in
    let more = c.args.demands.items in
    let constraints = c.in_ok-work.work.items in
    let given : c.as_slice.result.now ≡ more = c.as_slice.ensures.value in
    let means : (v : ℕ → Ground) → MeetsAll v more ↔ ConstraintsHold v constraints = λ v. subst (λ ds. MeetsAll v ds ↔ ConstraintsHold v constraints) given (c.in_ok-work.ensures.means v) in
    let old : c.as_mut_slice.result.now ≡ s.slots.items = search rules in
    let count : length c.take_all.new.slots ≡ length s.slots.items = search rules in
    let len : length c.take_all.new.slots ≡ s.slots.len = search rules in
    let demands : c.append.new.self.items ≡ s.demands.items ++ more = search rules in
    let history : c.push.new.self.items ≡ s.history.items ++ c.point-before.result ∷ [] = search rules in
    let kept : KeepsSolutions c.as_mut_slice.result.now constraints c.take_all.new.slots [] = rw c.in-Ok-Solved.field-0-is at c.in-Ok-Solved.ensures.solutions in
    let keeps : KeepsSolutions s.slots.items constraints c.take_all.new.slots [] = rw old at kept in
    let logged : IsLogged c.as_mut_slice.result.now s.log.items c.take_all.new.slots c.take_all.new.log.items = c.in-Ok-Solved.ensures.logged c.in-Ok-Solved.field-0-is in
    let logs : IsLogged s.slots.items s.log.items c.take_all.new.slots c.take_all.new.log.items = rw old at logged in
    let len2 : length c.take_all.new.named ≡ s.named.len = search rules in
    record {
      kept = kept_demands s.slots.items s.log.items s.demands.items s.history.items c.requires.kept.kept c.point-before.result c.point-before.ensures more c.take_all.new.slots _ c.take_all.new.log.items c.append.new.self.items c.push.new.self.items logs (whole s.slots.len c.take_all.new.slots _ len) demands history
          (solved_with_all s.slots.items c.take_all.new.slots s.demands.items more constraints c.requires.kept.kept.solved c.requires.made count means (c.in-Ok-Solved.ensures.slots c.in-Ok-Solved.field-0-is) keeps (c.in-Ok-Solved.ensures.ranked c.in-Ok-Solved.field-0-is));
      noted = noted_as c.take_all.new.slots _ c.take_all.new.log.items c.take_all.new.named _ (whole s.slots.len c.take_all.new.slots _ len) (whole s.named.len c.take_all.new.named _ len2) c.take_all.ensures.noted;
    }

pub returns-in-Ok-Solved-clause-ok : goal.returns-in-Ok-Solved-clause-ok
returns-in-Ok-Solved-clause-ok c =
    let s = c.args.self.now in
    let more = c.args.demands.items in
    let count : length c.take_all.new.slots ≡ length s.slots.items = search rules in
    let len : length c.take_all.new.slots ≡ s.slots.len = search rules in
    let demands : c.append.new.self.items ≡ s.demands.items ++ more = search rules in
    let history : c.push.new.self.items ≡ s.history.items ++ c.point-before.result ∷ [] = search rules in
    seen_demands s.slots.items s.log.items s.demands.items s.history.items c.requires.kept.kept c.point-before.result c.point-before.ensures more _ c.append.new.self.items c.push.new.self.items (ap length (whole s.slots.len c.take_all.new.slots _ len) ∙ count) demands history

pub returns-in-Ok-Clash-clause-clash : goal.returns-in-Ok-Clash-clause-clash
returns-in-Ok-Clash-clause-clash c e =
    let s = c.args.self.now in
    let more = c.args.demands.items in
    let constraints = c.in_ok-work.work.items in
    let given : c.as_slice.result.now ≡ more = c.as_slice.ensures.value in
    let means : (v : ℕ → Ground) → MeetsAll v more ↔ ConstraintsHold v constraints = λ v. subst (λ ds. MeetsAll v ds ↔ ConstraintsHold v constraints) given (c.in_ok-work.ensures.means v) in
    let old : c.as_mut_slice.result.now ≡ s.slots.items = search rules in
    let never : HasNoSolution c.as_mut_slice.result.now constraints = rw c.in-Ok-Clash.field-0-is at c.in-Ok-Clash.ensures.solutions in
    let none : HasNoSolution s.slots.items constraints = rw old at never in
    clash_with_all s.slots.items s.demands.items more constraints c.requires.kept.kept.solved means none
