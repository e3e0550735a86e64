use Rattle.std.proofs.Common.{◌↔◌, sym, subst}
use Rattle.abc_terms.specs.Demands.{Holds}
use Rattle.abc_unify.specs.declared.kind.Kind.TheVariants as kind
use Rattle.abc_unify.specs.declared.kind.Slot.TheVariants.{Root, Link}
use Rattle.abc_unify.specs.declared.kind.Constraint.TheVariants.{Is}
use Rattle.abc_unify.specs.inner.Kinds.{ConstraintHolds}
use Rattle.abc_unify.proofs.Forming.{train_is, collection_is, plain_is}
use Rattle.abc_unify.proofs.Constraints.{term_means, term_inside}
use Rattle.abc_unify.proofs.state.constraint_of.Goals as goal

pub returns-in-Root-clause-means : goal.returns-in-Root-clause-means
returns-in-Root-clause-means c = term_means c.args.demand.now c.in-Is.a c.in-Is.t c.in_ok-kind-in-Is.field-0 (Root c.in-Root.kind) c.in-Is.is c.in-Root.is c.in_ok-kind-in-Is.ensures.means

pub returns-in-Root-clause-inside : goal.returns-in-Root-clause-inside
returns-in-Root-clause-inside c = term_inside c.args.demand.now c.in-Is.a c.in-Is.t c.in_ok-kind-in-Is.field-0 (Root c.in-Root.kind) c.in-Is.is c.in-Root.is c.in_ok-kind-in-Is.ensures.inside

pub returns-in-Link-clause-means : goal.returns-in-Link-clause-means
returns-in-Link-clause-means c = term_means c.args.demand.now c.in-Is.a c.in-Is.t c.in_ok-kind-in-Is.field-0 (Link c.in-Link.b) c.in-Is.is c.in-Link.is c.in_ok-kind-in-Is.ensures.means

pub returns-in-Link-clause-inside : goal.returns-in-Link-clause-inside
returns-in-Link-clause-inside c = term_inside c.args.demand.now c.in-Is.a c.in-Is.t c.in_ok-kind-in-Is.field-0 (Link c.in-Link.b) c.in-Is.is c.in-Link.is c.in_ok-kind-in-Is.ensures.inside

pub returns-in-Train-clause-means : goal.returns-in-Train-clause-means
returns-in-Train-clause-means c v = subst (λ d. Holds v d ↔ ConstraintHolds v (Is c.in-Train.a (kind.TrainOf c.in-Train.e))) (sym c.in-Train.is) (train_is (v c.in-Train.a.0) (v c.in-Train.e.0))

pub returns-in-Collection-clause-means : goal.returns-in-Collection-clause-means
returns-in-Collection-clause-means c v = subst (λ d. Holds v d ↔ ConstraintHolds v (Is c.in-Collection.a (kind.CollectionOf c.in-Collection.e))) (sym c.in-Collection.is) (collection_is (v c.in-Collection.a.0) (v c.in-Collection.e.0))

pub returns-in-NumberOrText-clause-means : goal.returns-in-NumberOrText-clause-means
returns-in-NumberOrText-clause-means c v = subst (λ d. Holds v d ↔ ConstraintHolds v (Is c.in-NumberOrText.a kind.NumberOrText)) (sym c.in-NumberOrText.is) (plain_is (v c.in-NumberOrText.a.0))
