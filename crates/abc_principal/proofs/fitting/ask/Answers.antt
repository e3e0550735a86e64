use Rattle.std.proofs.Common.{refl, sym, subst}
use Rattle.std.specs.Prelude.{Some}
use Rattle.abc_demand.specs.declared.env.Env.{Env}
use Rattle.abc_demand.specs.Typings.{TargetsMade}
use Rattle.abc_principal.specs.Exact.{cut_in}
use Rattle.abc_principal.specs.Calls.{Targets}
use Rattle.abc_principal.proofs.Answering.{from_three}
use Rattle.abc_principal.proofs.Fitted.{is_asked, is_refused}
use Rattle.abc_principal.proofs.fitting.ask.Goals as goal

pub demand_unit-answer-requires : goal.demand_unit-answer-requires
demand_unit-answer-requires c = record { targets = subst (λ (vs : Targets). TargetsMade c.args.g.now.count vs) (sym c.replace.ensures.value) c.requires.targets; own = c.requires.own; calls = c.requires.calls }

pub returns-clause-ok : goal.returns-clause-ok
returns-clause-ok c =
    let env : Env = record { targets = c.replace.result; own = Some c.args.own; calls = c.args.calls } in
    from_three c.demand_unit-answer.result
    (λ demanded grows given. is_asked c.args.g.now c.demand_unit-answer.new.g env c.args.targets.now c.demand_unit-answer.new.env.targets (cut_in c.args.member.now) c.args.own refl c.replace.ensures.value grows given demanded)
    c.demand_unit-answer.ensures.ok c.demand_unit-answer.ensures.grows c.demand_unit-answer.ensures.given

pub returns-clause-clash : goal.returns-clause-clash
returns-clause-clash c = λ e.
    let env : Env = record { targets = c.replace.result; own = Some c.args.own; calls = c.args.calls } in
    is_refused c.args.g.now env c.args.targets.now (cut_in c.args.member.now) c.args.own refl c.replace.ensures.value (c.demand_unit-answer.ensures.clash e)
