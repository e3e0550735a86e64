use Rattle.std.proofs.Common.{List, ℕ, subst}
use Rattle.std.specs.Prelude.{Option, OnOk}
use Rattle.abc_terms.specs.declared.term.VarId.{VarId}
use Rattle.abc_demand.specs.declared.env.Signature.{Signature as SignatureVars}
use Rattle.abc_demand.specs.Demanded.{IsDemanded}
use Rattle.abc_check.specs.inner.Asked.{CommandAt}
use Rattle.abc_check.proofs.asking.demand.Goals as goal

pub returns-clause-ok : goal.returns-clause-ok
returns-clause-ok c =
    let d = c.demand_command-answer in
    subst (λ (cs : List (Option SignatureVars)). OnOk d.result (IsDemanded c.args.graph.now d.new.g c.args.targets.now d.new.env.targets (CommandAt cs c.args.command.now c.args.upto))) c.from_vec.ensures
    (subst (λ (vs : List (List ℕ × VarId)). OnOk d.result (IsDemanded c.args.graph.now d.new.g vs d.new.env.targets (CommandAt c.from_vec.result c.args.command.now c.args.upto))) c.replace.ensures.value d.ensures.ok)
