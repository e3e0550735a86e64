use Rattle.std.proofs.Common.{◌∙◌, sym, ap, subst, slice_set, Some, true}
use Rattle.std.specs.List.{insert}
use Rattle.abc_tree.specs.Units.{AreRising, key}
use Rattle.abc_tree.proofs.Rising.{found_at, newer_at, none_in_gap, placed_in_gap, read_at, rise_placed}
use Rattle.abc_tree.proofs.units.Units.put.Goals as goal

pub returns-in-Ok-clause-units : goal.returns-in-Ok-clause-units
returns-in-Ok-clause-units c =
    let rising = subst AreRising c.self.view_is c.self.invariant in
    ap (λ u. slice_set c.self.inside.units.items c.in-Ok.at u) c.replace.ensures.after ∙ ap (λ us. slice_set us c.in-Ok.at c.args.unit) c.self.view_is
    ∙ sym (newer_at key c.args.self.now c.args.unit c.in-Ok.at rising c.in-Ok.ensures.found)

pub returns-in-Ok-clause-rising : goal.returns-in-Ok-clause-rising
returns-in-Ok-clause-rising c = subst AreRising (sym (returns-in-Ok-clause-units c)) (rise_placed key true c.args.unit c.args.self.now (subst AreRising c.self.view_is c.self.invariant))

pub invariant_of-self : goal.invariant_of-self
invariant_of-self c = returns-in-Ok-clause-rising c

pub returns-in-Ok-clause-old : goal.returns-in-Ok-clause-old
returns-in-Ok-clause-old c =
    let rising = subst AreRising c.self.view_is c.self.invariant in
    ap Some c.replace.ensures.value ∙ read_at c.args.self.now c.in-Ok.at c.index_mut.result.now c.in-Ok.ensures.found.inside (rw (← c.self.view_is) c.index_mut.ensures.value)
    ∙ sym (found_at key c.args.self.now c.args.unit.template c.in-Ok.at rising c.in-Ok.ensures.found)

pub returns-in_ok-insert-in-Err-clause-units : goal.returns-in_ok-insert-in-Err-clause-units
returns-in_ok-insert-in-Err-clause-units c =
    c.in_ok-insert-in-Err.ensures.items ∙ ap (λ us. insert us c.in-Err.at c.args.unit) c.self.view_is ∙ sym (placed_in_gap key true c.args.self.now c.args.unit c.in-Err.at c.in-Err.ensures.absent)

pub returns-in_ok-insert-in-Err-clause-rising : goal.returns-in_ok-insert-in-Err-clause-rising
returns-in_ok-insert-in-Err-clause-rising c =
    subst AreRising (sym (returns-in_ok-insert-in-Err-clause-units c)) (rise_placed key true c.args.unit c.args.self.now (subst AreRising c.self.view_is c.self.invariant))

pub invariant_of-self-in-Err : goal.invariant_of-self-in-Err
invariant_of-self-in-Err c = returns-in_ok-insert-in-Err-clause-rising c

pub returns-in_ok-insert-in-Err-clause-old : goal.returns-in_ok-insert-in-Err-clause-old
returns-in_ok-insert-in-Err-clause-old c = sym (none_in_gap key c.args.self.now c.args.unit.template c.in-Err.at c.in-Err.ensures.absent)
