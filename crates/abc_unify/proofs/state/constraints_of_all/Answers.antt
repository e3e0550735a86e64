use Rattle.std.proofs.Common.{◌≡◌, ◌∙◌, suc, ◌+◌, ◌<◌, ◌↔◌, [], ◌∷◌, ◌++◌, take, length, get_or, sym, ap, subst, arith, rules}
use Rattle.std.specs.List.{All}
use Rattle.std.proofs.Math.Seq.{take-suc, take-length}
use Rattle.abc_terms.specs.declared.demand.Demand.{Demand}
use Rattle.abc_terms.specs.Demands.{MeetsAll}
use Rattle.abc_terms.specs.Nodes.{DemandIn}
use Rattle.abc_unify.specs.inner.Kinds.{ConstraintsHold, ConstraintsIn}
use Rattle.abc_unify.proofs.Constraints.{means_more, inside_more}
use Rattle.abc_unify.proofs.state.constraints_of_all.Goals as goal

pub loop-i-preserved : goal.loop-i-preserved
loop-i-preserved c =
    let ds = c.args.demands.now in
    let d : Demand = c.index-demands-i.result in
    let here : c.loop-i.i < length ds = omega arith in
    let is : get_or ds c.loop-i.i d ≡ d = search rules in
    let up : c.loop-i.i + 1 ≡ suc c.loop-i.i = omega arith in
    let longer : take (c.loop-i.i + 1) ds ≡ take c.loop-i.i ds ++ d ∷ [] = ap (λ k. take k ds) up ∙ (take-suc ds c.loop-i.i d here ∙ ap (λ x. take c.loop-i.i ds ++ x ∷ []) is) in
    record {
      means = λ v. subst (λ t. MeetsAll v t ↔ ConstraintsHold v c.push.new.self.items) (sym longer) (subst (λ qs. MeetsAll v (take c.loop-i.i ds ++ d ∷ []) ↔ ConstraintsHold v qs) (sym c.in_ok-push.ensures.items) (means_more (take c.loop-i.i ds) c.loop-i.constraints.items d c.in_ok-constraint.constraint c.loop-i.invariant.means c.in_ok-constraint.ensures.means v));
      inside = λ n i. subst (λ qs. ConstraintsIn n qs) (sym c.in_ok-push.ensures.items) (inside_more (take c.loop-i.i ds) c.loop-i.constraints.items d c.in_ok-constraint.constraint c.loop-i.invariant.inside c.in_ok-constraint.ensures.inside n (subst (λ t. All (DemandIn n) t) longer i));
    }

pub returns-clause-means : goal.returns-clause-means
returns-clause-means c v =
    let end : c.loop-i.i ≡ length c.args.demands.now = omega arith in
    let all : take c.loop-i.i c.args.demands.now ≡ c.args.demands.now = ap (λ k. take k c.args.demands.now) end ∙ take-length c.args.demands.now in
    subst (λ t. MeetsAll v t ↔ ConstraintsHold v c.loop-i.constraints.items) all (c.loop-i.invariant.means v)

pub returns-clause-inside : goal.returns-clause-inside
returns-clause-inside c n i =
    let end : c.loop-i.i ≡ length c.args.demands.now = omega arith in
    let all : take c.loop-i.i c.args.demands.now ≡ c.args.demands.now = ap (λ k. take k c.args.demands.now) end ∙ take-length c.args.demands.now in
    c.loop-i.invariant.inside n (subst (λ t. All (DemandIn n) t) (sym all) i)
