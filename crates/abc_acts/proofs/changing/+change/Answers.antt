use Rattle.std.proofs.Common.{map, option_map, ap, ◌∙◌}
use Rattle.abc_value.specs.declared.faults.RunFault.TheVariants.{NoKey}
use Rattle.abc_meaning.specs.Changing.{changed}
use Rattle.abc_state.specs.Views.{step_of}
use Rattle.abc_acts.specs.inner.Changing.{change_of}
use Rattle.abc_acts.proofs.Steps.{nothing_there}
use Rattle.abc_acts.proofs.changing.+change.Goals as goal

pub changed_copy-returns-in_default : goal.changed_copy-returns-in_default
changed_copy-returns-in_default t c = λ n.
    ap (λ o. changed (change_of c.args.what) NoKey (map step_of c.args.steps.now) (option_map (λ v. v.now) o)) c.in_default.is ∙ nothing_there (change_of c.args.what) NoKey (map step_of c.args.steps.now) c.requires
