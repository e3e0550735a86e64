use Rattle.std.proofs.Common.{◌≡◌, ◌∙◌, ap}
use Rattle.std.specs.Prelude.{Err}
use Rattle.std.proofs.lemmas.Result.{on_ok_weaker}
use Rattle.abc_unify.specs.declared.graph.UnifyFault.{UnifyFault}
use Rattle.abc_check.specs.declared.fault.CheckFault.TheVariants as fault
use Rattle.abc_check.proofs.Linewise.{no_command_fits}
use Rattle.abc_check.proofs.types.UnitTypes.check_behind.Goals as goal

pub returns-in-Ok-clause-ok : goal.returns-in-Ok-clause-ok
returns-in-Ok-clause-ok c = on_ok_weaker c.check_held.result (λ fits w knows spelled n le. fits c.args.targets.now w (record { units = knows.units; asked = c.in-Ok.ensures.ok w knows.asked }) spelled n le) c.check_held.ensures.ok

pub returns-in-Ok-clause-fault : goal.returns-in-Ok-clause-fault
returns-in-Ok-clause-fault c = λ line e w knows spelled. c.check_held.ensures.fault line e c.args.targets.now w (record { units = knows.units; asked = c.in-Ok.ensures.ok w knows.asked }) spelled

pub returns-in-Err-clause-fault : goal.returns-in-Err-clause-fault
returns-in-Err-clause-fault c = λ line e w knows spelled.
    let f : c.at_line_one.result ≡ fault.TypeFault line = cc in
    let both = c.at_line_one.ensures line f in
    no_command_fits c.args.targets.now w c.args.command.now line (λ typable. c.hold_values.ensures.clash (c.in-Err.is ∙ ap (λ (x : UnifyFault). Err x) both.1) w knows.asked typable) both.0
