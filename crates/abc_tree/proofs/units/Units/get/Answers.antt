use Rattle.std.proofs.Common.{◌∙◌, sym, subst}
use Rattle.abc_tree.specs.Units.{AreRising, key}
use Rattle.abc_tree.proofs.Rising.{found_at, none_in_gap, read_at}
use Rattle.abc_tree.proofs.units.Units.get.Goals as goal

pub returns-in-Ok-clause-unit : goal.returns-in-Ok-clause-unit
returns-in-Ok-clause-unit c =
    let rising = subst AreRising c.self.view_is c.self.invariant in
    read_at c.args.self.now c.in-Ok.at c.index.result.now c.in-Ok.ensures.found.inside (rw (← c.self.view_is) c.index.ensures) ∙ sym (found_at key c.args.self.now c.args.t.now c.in-Ok.at rising c.in-Ok.ensures.found)

pub returns-in-Err-clause-unit : goal.returns-in-Err-clause-unit
returns-in-Err-clause-unit c = sym (none_in_gap key c.args.self.now c.args.t.now _ c.in-Err.ensures.absent)
