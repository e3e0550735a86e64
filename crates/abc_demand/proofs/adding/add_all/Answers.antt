use Rattle.std.proofs.Common.{◌++◌, List, subst}
use Rattle.abc_terms.specs.declared.demand.Demand.{Demand}
use Rattle.abc_unify.specs.Graphs.{IsUnsolvable}
use Rattle.abc_demand.proofs.Later.{later_asked}
use Rattle.abc_demand.proofs.adding.add_all.Goals as goal

pub returns-clause-clash : goal.returns-clause-clash
returns-clause-clash c = λ e. subst (λ (ds : List Demand). IsUnsolvable (ds ++ c.args.demands.items)) c.make.ensures.demands (c.demand_all.ensures.clash e)

pub returns-clause-later : goal.returns-clause-later
returns-clause-later c = later_asked c.demand_all.result c.args.g.now c.make.new.g c.demand_all.new.self c.args.demands.items c.make.ensures.later c.demand_all.ensures.ok c.demand_all.ensures.err
