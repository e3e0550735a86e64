use Rattle.std.proofs.Common.{map, option_map, sym, ap, ◌∙◌}
use Rattle.std.specs.Prelude.{is_some}
use Rattle.abc_meaning.specs.PutBack.{along}
use Rattle.abc_state.specs.Views.{step_of}
use Rattle.abc_acts.proofs.Steps.{along_none}
use Rattle.abc_acts.proofs.changes.+has_part.Goals as goal

pub returns-in_default : goal.returns-in_default
returns-in_default t c =
    sym (ap (λ o. is_some (along (map step_of c.args.steps.now) (option_map (λ v. v.now) o))) c.in_default.is ∙ ap is_some (along_none (map step_of c.args.steps.now)))
