use Rattle.std.proofs.Common.{refl, sym, subst, ◌∷◌, []}
use Rattle.std.specs.Prelude.{IsNone}
use Rattle.abc_state.proofs.Taking.{tests_taken}
use Rattle.abc_state.proofs.values.tests_two.Goals as goal

pub returns-in-None-clause-taken : goal.returns-in-None-clause-taken
returns-in-None-clause-taken c =
    tests_taken c.args.op (c.args.x.now ∷ c.args.y.now ∷ []) c.takes2.result (subst IsNone c.row.ensures.result (subst IsNone (sym c.in-None.is) refl)) c.takes2.ensures.exact
