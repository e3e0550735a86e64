use Rattle.std.proofs.Common.{refl, sym, subst, ◌∷◌, []}
use Rattle.std.specs.Prelude.{IsSome}
use Rattle.abc_state.proofs.Taking.{gives_taken}
use Rattle.abc_state.proofs.values.gives_one.Goals as goal

pub returns-in-Some-clause-taken : goal.returns-in-Some-clause-taken
returns-in-Some-clause-taken c =
    gives_taken c.args.op (c.args.x.now ∷ []) c.takes1.result (subst IsSome c.row.ensures.result (subst IsSome (sym c.in-Some.is) refl)) c.takes1.ensures.exact
