use Rattle.std.proofs.Common.{option_map, subst, sym}
use Rattle.std.proofs.lemmas.Result.{err_from_is_err_and}
use Rattle.abc_meaning.specs.State.{key}
use Rattle.abc_meaning.specs.Value.{selected}
use Rattle.abc_meaning.specs.Addresses.{stepped}
use Rattle.abc_meaning.specs.Actuals.{located}
use Rattle.abc_meaning.specs.Meaning.{meaning}
use Rattle.abc_state.specs.Agrees.{Halts}
use Rattle.abc_state.specs.Views.{at, address_of, scope_of, state_of}
use Rattle.abc_pending.specs.Leads.{resume_action}
use Rattle.abc_pending.specs.Views.{action_frame}
use Rattle.abc_command_steps.proofs.Acting.{actual_halts}
use Rattle.abc_command_steps.proofs.commands.take_action.Goals as goal

pub returns-in_err-part-in-PartActual-clause-leads :
    goal.returns-in_err-part-in-PartActual-clause-leads
returns-in_err-part-in-PartActual-clause-leads c = λ units lines ended.
    let scope = scope_of c.args.scope.now in
    let here = at scope c.args.place.line in
    let s = state_of c.args.run.now c.args.targets.now lines ended in
    let h = c.in_err-part-in-PartActual.field-0.0 in
    let p = err_from_is_err_and c.from_residual-in_err-part-in-PartActual.result c.from_residual-in_err-part-in-PartActual.ensures.1 in
    rw (p.1, p.2) (subst (λ f. Halts c.args.place.line h s (resume_action units (meaning units c.args.place.levels) here (action_frame f) c.args.value s)) (sym c.in-PartActual.is)
    (actual_halts c.args.place.line h s (selected here c.in-PartActual.table c.args.value s) (located (stepped (key c.args.value) (option_map address_of c.in-PartActual.spot)))
    (subst (λ t. Halts c.args.place.line h s (selected here t c.args.value s)) c.get.ensures (c.in_err-part-in-PartActual.ensures here s))))
