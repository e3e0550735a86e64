use Rattle.std.proofs.Common.{◌∙◌, sym, ap, subst}
use Rattle.std.specs.List.{remove}
use Rattle.abc_tree.specs.Units.{AreRising, key}
use Rattle.abc_tree.proofs.Rising.{found_at, without_at, none_in_gap, without_in_gap, read_at, rise_without}
use Rattle.abc_tree.proofs.units.Units.take.Goals as goal

pub returns-in-Ok-clause-units : goal.returns-in-Ok-clause-units
returns-in-Ok-clause-units c =
    let rising = subst AreRising c.self.view_is c.self.invariant in
    c.remove.ensures.items ∙ ap (λ us. remove us c.in-Ok.at) c.self.view_is ∙ sym (without_at key c.args.self.now c.args.t.now c.in-Ok.at rising c.in-Ok.ensures.found)

pub returns-in-Ok-clause-rising : goal.returns-in-Ok-clause-rising
returns-in-Ok-clause-rising c = subst AreRising (sym (returns-in-Ok-clause-units c)) (rise_without key c.args.t.now c.args.self.now (subst AreRising c.self.view_is c.self.invariant))

pub invariant_of-self : goal.invariant_of-self
invariant_of-self c = returns-in-Ok-clause-rising c

pub returns-in-Ok-clause-old : goal.returns-in-Ok-clause-old
returns-in-Ok-clause-old c =
    let rising = subst AreRising c.self.view_is c.self.invariant in
    read_at c.args.self.now c.in-Ok.at c.remove.result c.in-Ok.ensures.found.inside (rw (← c.self.view_is) c.remove.ensures.value) ∙ sym (found_at key c.args.self.now c.args.t.now c.in-Ok.at rising c.in-Ok.ensures.found)

pub returns-in-Err-clause-units : goal.returns-in-Err-clause-units
returns-in-Err-clause-units c = sym (without_in_gap key c.args.self.now c.args.t.now _ c.in-Err.ensures.absent)

pub returns-in-Err-clause-old : goal.returns-in-Err-clause-old
returns-in-Err-clause-old c = sym (none_in_gap key c.args.self.now c.args.t.now _ c.in-Err.ensures.absent)
