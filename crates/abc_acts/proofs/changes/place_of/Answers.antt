use Rattle.std.proofs.Common.{◌∙◌, eq-eqb, ne_eqb}
use Rattle.abc_acts.proofs.Steps.{named_next, first_next, first_here}
use Rattle.abc_acts.proofs.changes.place_of.Goals as goal

pub returns-then-formal-name-clause-some : goal.returns-then-formal-name-clause-some
returns-then-formal-name-clause-some c =
    first_here c.args.name c.args.formals.now c.loop-place.place c.index-formals-place.result c.loop-place-test.true c.index-formals-place.is (eq-eqb _ _ c.if-formal-name.true) c.loop-place.invariant.first

pub loop-place-preserved : goal.loop-place-preserved
loop-place-preserved c = record {
  none = c.loop-place.invariant.none ∙ named_next c.args.name c.args.formals.now c.loop-place.place c.index-formals-place.result c.loop-place-test.true c.index-formals-place.is (ne_eqb _ _ c.if-formal-name.false);
  first = first_next c.args.name c.args.formals.now c.loop-place.place c.index-formals-place.result c.loop-place-test.true c.index-formals-place.is (ne_eqb _ _ c.if-formal-name.false) c.loop-place.invariant.first;
}
