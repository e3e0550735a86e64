use Rattle.std.proofs.Common.{subst, sym, ap, ◌∙◌}
use Rattle.std.proofs.lemmas.Result.{err_from_is_err_and}
use Rattle.abc_meaning.specs.Value.{selected}
use Rattle.abc_meaning.specs.Meaning.{meaning}
use Rattle.abc_state.specs.Agrees.{Halts}
use Rattle.abc_state.specs.Views.{at}
use Rattle.abc_pending.specs.Leads.{as_val, resume_expression}
use Rattle.abc_pending.specs.Views.{expression_frame}
use Rattle.abc_expression_steps.proofs.AtOnce.{val_halts}
use Rattle.abc_expression_steps.proofs.expressions.take_value.Goals as goal

pub returns-in_err-value-in-SelectKey-clause-leads :
    goal.returns-in_err-value-in-SelectKey-clause-leads
returns-in_err-value-in-SelectKey-clause-leads c = λ units scope s.
    let here = at scope c.args.place.line in
    let h = c.in_err-value-in-SelectKey.field-0.0 in
    let p = err_from_is_err_and c.from_residual-in_err-value-in-SelectKey.result c.from_residual-in_err-value-in-SelectKey.ensures.1 in
    rw (p.1, p.2) (subst (λ f. Halts c.args.place.line h s (resume_expression units (meaning units c.args.place.levels) here (expression_frame f) c.args.value s)) (sym c.in-SelectKey.is)
    (val_halts c.args.place.line h s (selected here c.in-SelectKey.table c.args.value s) (c.in_err-value-in-SelectKey.ensures here s)))

pub returns-in-SelectKey-clause-leads : goal.returns-in-SelectKey-clause-leads
returns-in-SelectKey-clause-leads c = λ units scope s.
    let here = at scope c.args.place.line in
    ap (λ f. resume_expression units (meaning units c.args.place.levels) here (expression_frame f) c.args.value s) c.in-SelectKey.is
    ∙ ap as_val (c.in_ok-value-in-SelectKey.ensures here s)
