use Rattle.std.proofs.Common.{rules}
use Rattle.abc_unify.proofs.Trains.{trains}
use Rattle.abc_unify.proofs.merge.merge_train.Goals.{in-Free, in-Text, in-NumberOrText, in-ListOf, in-TableOf, in-TrainOf, in-CollectionOf, in-Number, in-Compound}
use Rattle.abc_unify.proofs.merge.merge_train.Goals as goal

pub returns-clause-exact : goal.returns-clause-exact
returns-clause-exact c =
    elim c.match-added.branch [
      | in-Free w ↦ rw (w.result-is, w.in-Free.is) (search rules)
      | in-Text w ↦ rw (w.result-is, w.in-Text.is) (search rules)
      | in-NumberOrText w ↦ rw (w.result-is, w.in-NumberOrText.is) (search rules)
      | in-ListOf w ↦ rw (w.result-is, w.in-ListOf.is) (search rules)
      | in-TableOf w ↦ rw (w.result-is, w.in-TableOf.is) (search rules)
      | in-TrainOf w ↦ rw (w.result-is, w.in-TrainOf.is) (λ v g. trains g (v c.args.e.0) (v w.in-TrainOf.f.0))
      | in-CollectionOf w ↦ rw (w.result-is, w.in-CollectionOf.is) (search rules)
      | in-Number w ↦ rw (w.result-is, w.in-Number.is) (search rules)
      | in-Compound w ↦ rw (w.result-is, w.in-Compound.is) (search rules)
    ]
