use Rattle.std.proofs.Common.{map, sym, ap, ◌∙◌, Some}
use Rattle.abc_value.specs.declared.faults.RunFault.TheVariants.{NoValue}
use Rattle.abc_meaning.specs.Here.{assign}
use Rattle.abc_state.specs.Views.{at, step_of, scope_of, state_of}
use Rattle.abc_acts.specs.inner.Changing.{change_of}
use Rattle.abc_acts.proofs.Acting.{change_stops, none_changes}
use Rattle.abc_acts.proofs.changes.change_old.Goals as goal

pub returns-in_default-clause-agrees : goal.returns-in_default-clause-agrees
returns-in_default-clause-agrees c = λ line lines ended n.
    none_changes (at (scope_of c.args.scope.now) line) (change_of c.args.what) c.args.name (map step_of c.args.steps.now) (state_of c.args.run.now c.args.targets.now lines ended) (state_of c.take.new.run c.take.new.targets lines ended)
    c.requires (sym (c.in_ok-old.ensures.value lines ended) ∙ c.in_default.is) (c.in_ok-old.ensures.none lines ended c.in_default.is)

pub returns-in_ok-assign-in-Err-clause-agrees : goal.returns-in_ok-assign-in-Err-clause-agrees
returns-in_ok-assign-in-Err-clause-agrees c = λ line lines ended.
    change_stops (at (scope_of c.args.scope.now) line) (change_of c.args.what) c.args.name (map step_of c.args.steps.now) (state_of c.args.run.now c.args.targets.now lines ended) (state_of c.assign-in-Err.new.run c.assign-in-Err.new.targets lines ended)
    c.in-Some.old c.in-Err.halt (sym (c.in_ok-old.ensures.value lines ended) ∙ c.in-Some.is) ((c.in-Err.ensures NoValue).1)
    (c.in_ok-assign-in-Err.ensures.state lines ended ∙ ap (λ v. assign (scope_of c.args.scope.now) c.args.name (Some v) (state_of c.take.new.run c.take.new.targets lines ended)) ((c.in-Err.ensures NoValue).0)
    ∙ c.in_ok-old.ensures.again lines ended c.in-Some.old ∙ (rw c.in-Some.is at (c.in_ok-old.ensures.back lines ended)))
