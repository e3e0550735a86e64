use Rattle.std.proofs.Common.{Some, ap, ◌∙◌}
use Rattle.std.specs.Prelude.{option_map}
use Rattle.abc_groups.specs.Program.{texts}
use Rattle.abc_groups.proofs.UnitLaws.{program_units, unit_calls}
use Rattle.abc_groups.proofs.program.UnitsProgram.called.Goals as goal

pub returns-in_ok-calls-in-Some : goal.returns-in_ok-calls-in-Some
returns-in_ok-calls-in-Some c = ap (λ ts. Some (texts ts)) c.in_ok-calls-in-Some.ensures ∙ ap (option_map unit_calls) c.in-Some.ensures.unit ∙ program_units c.args.self.now c.args.t.now c.in-Some.ensures.rising

pub returns-in-None : goal.returns-in-None
returns-in-None c = ap (option_map unit_calls) c.in-None.ensures.unit ∙ program_units c.args.self.now c.args.t.now c.in-None.ensures.rising
