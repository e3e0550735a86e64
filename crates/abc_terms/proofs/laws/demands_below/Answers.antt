use Rattle.std.proofs.lemmas.List.Elements.{All-weaker}
use Rattle.abc_terms.specs.Nodes.{DemandIn}
use Rattle.abc_terms.proofs.Terms.{demand_in_more}
use Rattle.abc_terms.proofs.Below.{meets_below}
use Rattle.abc_terms.proofs.laws.demands_below.Goals as goal

pub returns-clause-met : goal.returns-clause-met
returns-clause-met c n v w demands same inside meets = meets_below n v w same demands inside meets

pub returns-clause-more : goal.returns-clause-more
returns-clause-more c n m demands more inside = All-weaker (DemandIn n) (DemandIn m) (λ d i. demand_in_more n m more d i) demands inside
